-- 02 (i), "Text must be text": the well-formed byte sequences of the Unicode Standard, by its table 3-7. Assumes nothing.
use Rattle.std.specs.Prelude.{ℕ, Bool, true, false, cond, ◌&&◌, List, [], ◌∷◌, leb}

-- ---- the table
pub record Range : Type 0 where
  pub low : ℕ
  pub high : ℕ

abbrev pub from : ℕ → ℕ → Range
from a b = record { low = a; high = b }

-- a row: the range of the first byte, and the ranges of those behind it
pub record Form : Type 0 where
  pub first : Range
  pub behind : List Range

abbrev pub form : Range → List Range → Form
form r rs = record { first = r; behind = rs }

abbrev pub tail : Range
tail = from 0x80 0xbf

abbrev pub forms : List Form
forms =
    form (from 0x00 0x7f) []
    ∷ form (from 0xc2 0xdf) (tail ∷ [])
    ∷ form (from 0xe0 0xe0) (from 0xa0 0xbf ∷ tail ∷ [])
    ∷ form (from 0xe1 0xec) (tail ∷ tail ∷ [])
    ∷ form (from 0xed 0xed) (from 0x80 0x9f ∷ tail ∷ [])
    ∷ form (from 0xee 0xef) (tail ∷ tail ∷ [])
    ∷ form (from 0xf0 0xf0) (from 0x90 0xbf ∷ tail ∷ tail ∷ [])
    ∷ form (from 0xf1 0xf3) (tail ∷ tail ∷ tail ∷ [])
    ∷ form (from 0xf4 0xf4) (from 0x80 0x8f ∷ tail ∷ tail ∷ [])
    ∷ []

-- ---- text
-- what is due behind the bytes so far: a byte in each of these ranges, and nothing between two sequences; or no byte can mend them
pub data Due : Type 0 where
  due : List Range → Due
  never : Due

abbrev pub within : Range → ℕ → Bool
within r b = leb r.low b && leb b r.high

-- a sequence begins: the row whose first range holds the byte
abbrev pub start_in : List Form → ℕ → Due
start_in [] b = never
start_in (f ∷ fs) b = cond (within f.first b) (due f.behind) (start_in fs b)

abbrev pub next : Due → ℕ → Due
next never b = never
next (due []) b = start_in forms b
next (due (r ∷ rs)) b = cond (within r b) (due rs) never

unfoldable pub after : Due → List ℕ → Due
after d [] = d
after d (b ∷ bs) = after (next d b) bs

abbrev pub whole : Due → Bool
whole (due []) = true
whole (due (r ∷ rs)) = false
whole never = false

-- sequences one after another, the last of them whole
unfoldable pub is_text : List ℕ → Bool
is_text bs = whole (after (due []) bs)
