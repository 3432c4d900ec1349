-- The nullable block of rows that fit: no rule refuses it, and row i of it is row i, cut at a NUL. Assumes nothing.
use Prim.Native.Nat.{ℕ, ◌^◌, ◌≤◌, ◌<◌}
use native.Mathlib.Omega.{arith}
use mathlib.Core.Bool.{cond}
use mathlib.Core.List.{List}
use mathlib.Core.Path.{◌≡◌, refl, ◌∙◌}
use lib.Dec.{eqb}
use lib.ListN.{length, get_or, get_or-map}
use Rattle.encode.specs.declared.Kind.{Kind}
use Rattle.encode.specs.declared.Kind.TheVariants.{Fixed, Char, Blob}
use Rattle.limits.specs.Limits.{MOST_ITEMS}
use Rattle.plain.specs.Each.{Each}
use Rattle.plain.specs.Rows.{Row, null, int, bytes, int_in, bytes_in, fits}
use Rattle.plain.specs.Plain.{plain_of}
use Rattle.nullable.specs.Nullable.{presence, nullable_of, nullable_number, nullable_row}
use Rattle.nullable.proofs.Parts.{length-block, block-number, block_row}
use Rattle.format.specs.Blocks.{cut, filled}
use Rattle.block_laws.proofs.Lists.{each_at}
use Rattle.block_laws.proofs.Plains.{Fits, kept, plain-opens, plain_row_lem}

-- a row that is there and fits needs no default
pub present-kept : (k : Kind) (r : Row) → Fits k r → cond (eqb (presence r) 0) null (kept k r) ≡ cut k r
unfolding presence cut filled int_in bytes_in fits
present-kept (Fixed p) null h = refl
present-kept (Fixed p) (int v) h = refl
present-kept (Fixed p) (bytes bs) h = let z : ◌≡◌ {A = ℕ} 0 1 = cc in absurd (omega arith)
present-kept (Char w) null h = refl
present-kept (Char w) (int v) h = let z : ◌≡◌ {A = ℕ} 0 1 = cc in absurd (omega arith)
present-kept (Char w) (bytes bs) h = refl
present-kept (Blob text) null h = refl
present-kept (Blob text) (int v) h = let z : ◌≡◌ {A = ℕ} 0 1 = cc in absurd (omega arith)
present-kept (Blob text) (bytes bs) h = refl

module _ (k : Kind) (rows : List Row) (f : Each (Fits k) rows) (few : length rows ≤ MOST_ITEMS) (s : length (nullable_of k rows) < 2 ^ 32) where
  small : length (plain_of k rows) < 2 ^ 32
  small = omega (arith, length-block k rows)

  pub nullable-opens : nullable_number k (length rows) (nullable_of k rows) ≡ 0
  nullable-opens = block-number k rows few ∙ plain-opens k rows f small

  pub nullable-row : (i : ℕ) → i < length rows → nullable_row k (length rows) (nullable_of k rows) i ≡ cut k (get_or rows i null)
  unfolding presence
  nullable-row i h =
      block_row k rows i h
      ∙ rw (get_or-map presence rows i null, plain_row_lem k rows f small i h)
      (present-kept k (get_or rows i null) (each_at (Fits k) rows null f i h))
