-- Plain blocks: their bytes, their rules and their rows. Assumes nothing.
use Rattle.std.specs.Prelude.{ℕ, zero, suc, ◌+◌, ◌-◌, ◌*◌, Bool, true, cond, not, ◌&&◌, ◌||◌, List, [], ◌∷◌, ◌++◌, map, ltb, leb, eqb, ℤ, length, take, drop, replicate}
use Rattle.encode.specs.Bytes.{little, number}
use Rattle.encode.specs.Kinds.{laid_as, wide_as, width_of, value_as, encoded, decoded}
use Rattle.encode.specs.declared.Primitive.{Primitive}
use Rattle.encode.specs.declared.Shape.{Shape}
use Rattle.encode.specs.declared.Kind.{Kind}
use Rattle.encode.specs.declared.Kind.TheVariants.{Fixed, Char, Blob}
use Rattle.limits.specs.Refusals.{CUT, LENGTH, ENDS, TEXT}
use Rattle.utf8.specs.Utf8.{is_text}
use Rattle.plain.specs.Rows.{Row, int, bytes, int_in, bytes_in}
use Rattle.plain.specs.Rules.{◌if◌, first_of}

-- one after another
unfoldable pub joined : {A : Type 0} → (A → List ℕ) → List A → List ℕ
joined f [] = []
joined f (x ∷ xs) = f x ++ joined f xs

-- a test of each
unfoldable pub all_of : (ℕ → Bool) → List ℕ → Bool
all_of test [] = true
all_of test (i ∷ is) = test i && all_of test is

-- i, i + 1, .., n of them
unfoldable pub places : ℕ → ℕ → List ℕ
places zero i = []
places (suc n) i = i ∷ places n (suc i)

-- ---- the bytes
-- A row's item. A char has its bytes, then NULs up to the width.
unfoldable pub item_of : Kind → Row → List ℕ
item_of (Fixed p) r = encoded p (int_in r)
item_of (Char w) r = bytes_in r ++ replicate (w - length (bytes_in r)) 0
item_of (Blob text) r = bytes_in r

-- where each item ends, counted from a start
unfoldable pub ends_from : ℕ → List (List ℕ) → List ℕ
ends_from at [] = []
ends_from at (x ∷ xs) = (at + length x) ∷ ends_from (at + length x) xs

-- Fixed and char: items one after another. Blob and string: one u32 little-endian end an item, counted from the start of the data, then the data.
unfoldable pub plain_of : Kind → List Row → List ℕ
plain_of (Fixed p) rows = joined (item_of (Fixed p)) rows
plain_of (Char w) rows = joined (item_of (Char w)) rows
plain_of (Blob text) rows = joined (little 4) (ends_from 0 (map (item_of (Blob text)) rows)) ++ joined (item_of (Blob text)) rows

-- ---- the ends of n items
-- the end of item i, and where it starts: at the end of the one before it
unfoldable pub end_at : List ℕ → ℕ → ℕ
end_at b i = number (take 4 (drop (4 * i) b))

unfoldable pub start_at : List ℕ → ℕ → ℕ
start_at b zero = 0
start_at b (suc i) = end_at b i

unfoldable pub ends_of : ℕ → List ℕ → List ℕ
ends_of n b = map (end_at b) (places n 0)

-- ends that never fall below the one before and never pass the data
unfoldable pub rising : ℕ → ℕ → List ℕ → Bool
rising before data' [] = true
rising before data' (e ∷ es) = leb before e && leb e data' && rising e data' es

unfoldable pub last_of : ℕ → List ℕ → ℕ
last_of e [] = e
last_of e (e' ∷ es) = last_of e' es

-- ---- the rows: item i of n
-- the value of a kind of a shape; of a kind
unfoldable pub shaped_at : Shape → List ℕ → ℕ → ℤ
shaped_at k b i = value_as (laid_as k) (take (wide_as k) (drop (i * wide_as k) b))

unfoldable pub fixed_at : Primitive → List ℕ → ℕ → ℤ
fixed_at p b i = decoded p (take (width_of p) (drop (i * width_of p) b))

-- a char is cut at its first NUL
unfoldable pub before_nul : List ℕ → List ℕ
before_nul [] = []
before_nul (b ∷ bs) = cond (eqb b 0) [] (b ∷ before_nul bs)

unfoldable pub char_at : ℕ → List ℕ → ℕ → List ℕ
char_at w b i = before_nul (take w (drop (i * w) b))

unfoldable pub blob_at : ℕ → List ℕ → ℕ → List ℕ
blob_at n b i = take (end_at b i - start_at b i) (drop (4 * n + start_at b i) b)

unfoldable pub plain_row : Kind → ℕ → List ℕ → ℕ → Row
plain_row (Fixed p) n b i = int (fixed_at p b i)
plain_row (Char w) n b i = bytes (char_at w b i)
plain_row (Blob text) n b i = bytes (blob_at n b i)

-- ---- the rules, for n items
-- The length and end rules. Fixed and char: the length is n times the width. Blob and string: at least 4n bytes; ends never fall and never pass
-- the data; the last end (0 if n is 0) is the data's length.
unfoldable pub lengths_number : Kind → ℕ → List ℕ → ℕ
lengths_number (Fixed p) n b = LENGTH if not (eqb (length b) (n * width_of p))
lengths_number (Char w) n b = LENGTH if not (eqb (length b) (n * w))
lengths_number (Blob text) n b =
    first_of (
    CUT if ltb (length b) (4 * n)
    ∷ ENDS if not (rising 0 (length b - 4 * n) (ends_of n b))
    ∷ LENGTH if not (eqb (last_of 0 (ends_of n b)) (length b - 4 * n))
    ∷ [])

-- Text: each char item up to its first NUL, each string item whole.
unfoldable pub all_text : Kind → ℕ → List ℕ → Bool
all_text (Fixed p) n b = true
all_text (Char w) n b = all_of (λ i. is_text (char_at w b i)) (places n 0)
all_text (Blob text) n b = not text || all_of (λ i. is_text (blob_at n b i)) (places n 0)

-- The length and end rules, then text.
unfoldable pub plain_number : Kind → ℕ → List ℕ → ℕ
plain_number k n b = first_of (lengths_number k n b ∷ TEXT if not (all_text k n b) ∷ [])

-- ---- what reading looks at again
-- the bytes that n items take at least
unfoldable pub least_bytes : Kind → ℕ → ℕ
least_bytes (Fixed p) n = n * width_of p
least_bytes (Char w) n = n * w
least_bytes (Blob text) n = 4 * n

-- the rule of the ends, of item i
unfoldable pub ends_good : Kind → ℕ → List ℕ → ℕ → Bool
ends_good (Fixed p) n b i = true
ends_good (Char w) n b i = true
ends_good (Blob text) n b i = leb (start_at b i) (end_at b i) && leb (end_at b i) (length b - 4 * n)
