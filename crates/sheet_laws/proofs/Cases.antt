-- What opening a column comes to: a sound block at its place, or a refusal with nothing beside it. Assumes nothing.
use Prim.Native.Nat.{ℕ, zero, suc, ◌<◌}
use native.Mathlib.Omega.{arith}
use mathlib.Core.Bool.{Bool, true, false, cond}
use mathlib.Core.List.{List, []}
use mathlib.Core.Path.{◌≡◌, refl, sym, ap, ◌∙◌}
use lib.Dec.{eqb}
use lib.ListN.{take, drop}
use borrow.Author.Tests.{eq-eqb, eqb-true}
use Rattle.std.specs.Prelude.{Result, Ok, Err}
use Rattle.limits.specs.Refusals.{COLUMN}
use Rattle.block.specs.declared.Reader.{Reader}
use Rattle.block.specs.Reading.{opened, no_reader}
use Rattle.descriptor.specs.declared.Descriptor.{Descriptor}
use Rattle.descriptor.specs.Descriptor.{described_opened}
use Rattle.descriptor.proofs.Openings.{refused-some}
use Rattle.sheet.specs.declared.Found.{Found}
use Rattle.sheet.specs.Sheet.{entry_at, descriptor_in, offset_in, length_in, named_by, sheet_number, opened_in, found, found_by, column_found, column_part}
use Rattle.sheet.proofs.Answers.{nothing-found}
use Rattle.sheet_laws.specs.Column.{placed}

-- ---- a block opened by its descriptor
module _ (d : Descriptor) (b : List ℕ) where
  -- it is opened as its other fields say
  pub opened-fields : (r : Reader) → described_opened d b ≡ Ok r → opened d.kind d.encoding d.width d.rows b ≡ Ok r
  unfolding described_opened
  opened-fields r q = go (eqb d.zero 0) q
    where
      go : (t : Bool) → cond t (opened d.kind d.encoding d.width d.rows b) (Err COLUMN) ≡ Ok r
          → opened d.kind d.encoding d.width d.rows b ≡ Ok r
      go true e = e
      go false e = let z : ◌≡◌ {A = ℕ} 0 1 = cc in absurd (omega arith)

-- ---- the two cases
pub data Case (f : List ℕ) (j : ℕ) : Type 0 where
  opens : sheet_number f j ≡ 0 → (r : Reader) → described_opened (descriptor_in (entry_at j f)) (named_by (entry_at j f) f) ≡ Ok r
      → column_found f j ≡ found 0 (offset_in (entry_at j f)) (length_in (entry_at j f)) r → Case f j
  refuses : (e : ℕ) → 0 < e → column_found f j ≡ found e 0 0 no_reader → Case f j

module _ (f : List ℕ) (j : ℕ) where
  abbrev d : Descriptor
  d = descriptor_in (entry_at j f)

  abbrev b : List ℕ
  b = named_by (entry_at j f) f

  by-opening : (o : Result Reader ℕ) → described_opened d b ≡ o → sheet_number f j ≡ 0 → Case f j
  unfolding found_by opened_in
  by-opening (Ok r) q z = opens z r q (rw (z, q))
  by-opening (Err e) q z = refuses e (refused-some d b e q) (rw (z, q))

  pub case : Case f j
  case = go (sheet_number f j) refl
    where
      go : (m : ℕ) → sheet_number f j ≡ m → Case f j
      go zero z = by-opening (described_opened d b) refl z
      go (suc m) q = refuses (suc m) (omega arith) (sym (nothing-found f j (sym q) (omega arith)))

  -- ---- the column's part, and the bytes at the place that was answered
  pub part-named : sheet_number f j ≡ 0 → column_part f j ≡ b
  unfolding column_part
  part-named z = rw (eq-eqb (sheet_number f j) 0 z)

  pub part-at-place : (column_found f j).number ≡ 0 → placed f (column_found f j) ≡ column_part f j
  unfolding placed
  part-at-place z = go case
    where
      go : Case f j → take (column_found f j).len (drop (column_found f j).from f) ≡ column_part f j
      go (opens n r o e) = rw e (sym (part-named n))
      go (refuses m h e) = absurd (omega (arith, rw e at z))

  pub nothing-at-place : 0 < (column_found f j).number → placed f (column_found f j) ≡ []
  unfolding placed
  nothing-at-place h = go case
    where
      go : Case f j → take (column_found f j).len (drop (column_found f j).from f) ≡ []
      go (opens n r o e) = absurd (omega (arith, rw e at h))
      go (refuses m p e) = rw e
