-- What comes of a column whose rows both engines were asked for. Both are proved, so they never differ: `Differs` comes only from what no proof speaks of, a
-- compiler or a machine at fault. Assumes nothing.
use Rattle.std.specs.Prelude.{ℕ, ◌+◌, ◌-◌, ◌^◌, Bool, true, cond, ◌&&◌, List, [], ◌∷◌, ◌≡◌, ltb, leb, eqb, pos, replicate}
use Rattle.plain.specs.Plain.{places}
use Rattle.fill.specs.Areas.{Areas, areas}
use Rattle.block.specs.declared.Reader.{Reader}
use Rattle.descriptor.specs.declared.Descriptor.{Descriptor}
use Rattle.descriptor.specs.Descriptor.{described_number}
use Rattle.slow_laws.specs.Agreeing.{fresh}
use Rattle.night_rows.specs.declared.Verdict.{Verdict}
use Rattle.night_rows.specs.declared.Verdict.TheVariants.{Same, Refused}

-- ---- which rows are compared: all of up to 2,000; else the first 1,000, the last 1,000, and between them those whose number is a power of two
-- of the powers with these exponents, how many lie from 1,000 on and below a number
unfoldable pub powers_among : ℕ → List ℕ → ℕ
powers_among to [] = 0
powers_among to (k ∷ ks) = cond (leb 1000 (2 ^ k) && ltb (2 ^ k) to) 1 0 + powers_among to ks

unfoldable pub rows_compared : ℕ → ℕ
rows_compared n = cond (leb n 2000) n (2000 + powers_among (n - 1000) (places 48 0))

-- ---- a column
unfoldable pub verdict_of : Descriptor → List ℕ → Verdict
verdict_of d b = cond (eqb (described_number d b) 0) (Same (rows_compared d.rows)) (Refused (described_number d b))

-- a sound block, and the reader that opening gave for it
pub record Sound (reader : Reader) (d : Descriptor) (b : List ℕ) : Type 0 where
  pub sound : described_number d b ≡ 0
  pub opened : reader ≡ fresh d b

-- ---- a test that is true where something holds, and only there
abbrev pub Tells : Bool → Type 0 → Type 0
Tells r P = (P → r ≡ true) × (r ≡ true → P)

-- ---- the memory that a row is asked into: two slots of each, and so many bytes
-- what it is filled with: no flag
abbrev pub FILL : ℕ
FILL = 170

abbrev pub lent : ℕ → Areas
lent n = areas (pos FILL ∷ pos FILL ∷ []) (FILL ∷ FILL ∷ []) (FILL ∷ FILL ∷ []) (replicate n FILL)
