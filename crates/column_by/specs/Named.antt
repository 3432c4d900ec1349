-- The column that an argument of the program `column` names. Assumes nothing.
use Rattle.std.specs.Prelude.{Option, Some, None, ℕ, ◌+◌, ◌*◌, ◌-◌, ◌^◌, Bool, true, cond, ◌&&◌, List, [], ◌∷◌, ltb, leb, eqb, length}

-- ---- decimal digits, in ASCII
abbrev pub is_digit : ℕ → Bool
is_digit b = leb 48 b && leb b 57

unfoldable pub all_digits : List ℕ → Bool
all_digits [] = true
all_digits (b ∷ bs) = is_digit b && all_digits bs

-- their number, the most significant first
unfoldable pub value_of : List ℕ → ℕ
value_of [] = 0
value_of (b ∷ bs) = (b - 48) * 10 ^ length bs + value_of bs

-- ---- a column's number has at most 64 bits; whatever is above names no column
abbrev pub within : ℕ → Option ℕ
within n = cond (ltb n (2 ^ 64)) (Some n) None

unfoldable pub column_named : List ℕ → Option ℕ
column_named s = cond (eqb (length s) 0) None (cond (all_digits s) (within (value_of s)) None)

-- one digit more behind a number
unfoldable pub with_digit : ℕ → ℕ → Option ℕ
with_digit n b = cond (is_digit b) (within (10 * n + (b - 48))) None
