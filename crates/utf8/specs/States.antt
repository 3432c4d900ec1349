-- For the code: a byte's class, by its range; the nine states between two bytes; the moves. A class is the place of its row in the table of
-- moves. Assumes nothing.
use Rattle.std.specs.Prelude.{ℕ, zero, suc, ◌+◌, Bool, true, cond, ◌&&◌, List, [], ◌∷◌, ltb, eqb, get_or}
use Rattle.utf8.specs.Utf8.{Due, due, never, from, tail}

-- twelve classes
abbrev pub class_of : ℕ → ℕ
class_of b =
    cond (ltb b 0x80) 0
    (cond (ltb b 0x90) 9
    (cond (ltb b 0xa0) 18
    (cond (ltb b 0xc0) 27
    (cond (ltb b 0xc2) 36
    (cond (ltb b 0xe0) 45
    (cond (eqb b 0xe0) 54
    (cond (eqb b 0xed) 72
    (cond (ltb b 0xf0) 63
    (cond (eqb b 0xf0) 81
    (cond (ltb b 0xf4) 90
    (cond (eqb b 0xf4) 99 36)))))))))))

-- the values of a function at i, i + 1, .., n of them
abbrev pub tabled : (ℕ → ℕ) → ℕ → ℕ → List ℕ
tabled f zero i = []
tabled f (suc n) i = f i ∷ tabled f n (suc i)

-- the class of each byte
unfoldable pub class_table : List ℕ
class_table = tabled class_of 256 0

-- what each state waits for
abbrev pub due_in : ℕ → Due
due_in s =
    cond (eqb s 0) (due [])
    (cond (eqb s 1) (due (tail ∷ []))
    (cond (eqb s 2) (due (tail ∷ tail ∷ []))
    (cond (eqb s 3) (due (tail ∷ tail ∷ tail ∷ []))
    (cond (eqb s 4) (due (from 0xa0 0xbf ∷ tail ∷ []))
    (cond (eqb s 5) (due (from 0x80 0x9f ∷ tail ∷ []))
    (cond (eqb s 6) (due (from 0x90 0xbf ∷ tail ∷ tail ∷ []))
    (cond (eqb s 7) (due (from 0x80 0x8f ∷ tail ∷ tail ∷ [])) never)))))))

-- the state after a byte: a row for each class, of the nine states
unfoldable pub move_table : List ℕ
move_table =
    0 ∷ 8 ∷ 8 ∷ 8 ∷ 8 ∷ 8 ∷ 8 ∷ 8 ∷ 8
    ∷ 8 ∷ 0 ∷ 1 ∷ 2 ∷ 8 ∷ 1 ∷ 8 ∷ 2 ∷ 8
    ∷ 8 ∷ 0 ∷ 1 ∷ 2 ∷ 8 ∷ 1 ∷ 2 ∷ 8 ∷ 8
    ∷ 8 ∷ 0 ∷ 1 ∷ 2 ∷ 1 ∷ 8 ∷ 2 ∷ 8 ∷ 8
    ∷ 8 ∷ 8 ∷ 8 ∷ 8 ∷ 8 ∷ 8 ∷ 8 ∷ 8 ∷ 8
    ∷ 1 ∷ 8 ∷ 8 ∷ 8 ∷ 8 ∷ 8 ∷ 8 ∷ 8 ∷ 8
    ∷ 4 ∷ 8 ∷ 8 ∷ 8 ∷ 8 ∷ 8 ∷ 8 ∷ 8 ∷ 8
    ∷ 2 ∷ 8 ∷ 8 ∷ 8 ∷ 8 ∷ 8 ∷ 8 ∷ 8 ∷ 8
    ∷ 5 ∷ 8 ∷ 8 ∷ 8 ∷ 8 ∷ 8 ∷ 8 ∷ 8 ∷ 8
    ∷ 6 ∷ 8 ∷ 8 ∷ 8 ∷ 8 ∷ 8 ∷ 8 ∷ 8 ∷ 8
    ∷ 3 ∷ 8 ∷ 8 ∷ 8 ∷ 8 ∷ 8 ∷ 8 ∷ 8 ∷ 8
    ∷ 7 ∷ 8 ∷ 8 ∷ 8 ∷ 8 ∷ 8 ∷ 8 ∷ 8 ∷ 8 ∷ []

abbrev pub move_of : ℕ → ℕ → ℕ
move_of s c = get_or move_table (c + s) 0

-- ---- bytes below 128, each of which is a sequence by itself
unfoldable pub is_ascii : List ℕ → Bool
is_ascii [] = true
is_ascii (b ∷ bs) = ltb b 128 && is_ascii bs
