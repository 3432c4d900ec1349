-- For the code: which of the entries of a plain block rows use, one of each that read the same. Assumes nothing.
use Rattle.std.specs.Prelude.{ℕ, ◌+◌, ◌*◌, ◌≤◌, ◌<◌, Bool, false, not, List, map, ◌≡◌, ltb, eqb, length, take, drop}
use Rattle.encode.specs.declared.Kind.{Kind}
use Rattle.plain.specs.Rows.{Row}
use Rattle.plain.specs.Plain.{places, plain_row, before_nul}
use Rattle.nullable.specs.Nullable.{bit_at}
use Rattle.dict.specs.Dictionary.{index_of}

-- the rows of a plain block of n items
abbrev pub plain_rows : Kind → ℕ → List ℕ → List Row
plain_rows k n items = map (plain_row k n items) (places n 0)

-- the first item that reads as item j does
abbrev pub first_like : Kind → ℕ → List ℕ → ℕ → ℕ
first_like k n items j = index_of (plain_row k n items j) (plain_rows k n items)

-- a row that is none of the rows `es`
unfoldable pub is_new : List Row → Row → Bool
is_new es r = not (ltb (index_of r es) (length es))

-- only items that are the first of their like are marked
pub record Firsts (k : Kind) (n : ℕ) (items bits : List ℕ) : Type 0 where
  pub long : n ≤ 8 * length bits
  pub first : (j : ℕ) → j < n → bit_at bits j ≡ 1 → first_like k n items j ≡ j

-- ... and of these the rows `es`
pub record Used (k : Kind) (n : ℕ) (items bits : List ℕ) (es : List Row) : Type 0 where
  pub firsts : Firsts k n items bits
  pub marked : (j : ℕ) → j < n → first_like k n items j ≡ j → eqb (bit_at bits j) 1 ≡ ltb (index_of (plain_row k n items j) es) (length es)

-- every item that is marked here reads as one of the rows
pub record Met (k : Kind) (n : ℕ) (items bits : List ℕ) (es : List Row) : Type 0 where
  pub long : n ≤ 8 * length bits
  pub there : (j : ℕ) → j < n → bit_at bits j ≡ 1 → is_new es (plain_row k n items j) ≡ false

-- the rows `es` have been shown: the firsts of their like are marked, and of the items that were met each reads as one of them
pub record Shown (k : Kind) (n : ℕ) (items bits met : List ℕ) (es : List Row) : Type 0 where
  pub used : Used k n items bits es
  pub those-met : Met k n items met es

-- ---- bytes that are looked for
-- the text of a char item of width w: no longer, and with no NUL
pub record Cut (w : ℕ) (others : List ℕ) (from len : ℕ) : Type 0 where
  pub long : len ≤ w
  pub inside : from + len ≤ length others
  pub cut : before_nul (take len (drop from others)) ≡ take len (drop from others)
