-- 02 (xiii): "Refusals: opening's, then 7 for r at or above n, then 4." Each leaves the lent areas as they were. Assumes nothing.
use Rattle.std.specs.Prelude.{Option, Some, None}
use Prim.Native.Nat.{ℕ, zero, suc, ◌≤◌}
use mathlib.Core.Bool.{Bool, true, false, cond}
use mathlib.Core.List.{List, [], ◌∷◌}
use mathlib.Core.Path.{◌≡◌, refl}
use lib.Dec.{leb}
use lib.ListN.{get_or}
use borrow.Author.Tests.{le-leb}
use Rattle.limits.specs.Refusals.{ROOM, TOO_FAR}
use Rattle.encode.specs.declared.Kind.{Kind}
use Rattle.plain.specs.Rows.{Row, null}
use Rattle.format.specs.declared.Column.{Column}
use Rattle.format.specs.Opening.{rows_of}
use Rattle.fill.specs.Areas.{Areas, short, filled_in, given_bytes}
use Rattle.descriptor.specs.declared.Descriptor.{Descriptor}
use Rattle.descriptor.specs.Descriptor.{described_number}
use Rattle.slow_answer.specs.Slow.{Shown, row_given, refused_row, shown_in, shown_of, shown_by, row_shown}
use Rattle.slow_laws.proofs.Openings.{named, kept}

module _ (d : Descriptor) (b : List ℕ) (r : ℕ) (a : Areas) where
  -- a number that isn't 0
  by_number : (m : ℕ) → (m ≡ 0 → ⊥) → shown_by m (named d b) d.rows b r a ≡ refused_row m a
  unfolding shown_by
  by_number zero z = absurd (z refl)
  by_number (suc m) z = refl

  -- A block that is not sound is refused as opening refuses it, whatever row is asked for.
  pub refused-as-opening : (described_number d b ≡ 0 → ⊥) → row_shown d b r a ≡ refused_row (described_number d b) a
  refused-as-opening = by_number (described_number d b)

  -- A row at or above n of a sound one is refused as 7, whatever is lent.
  pub refused-too-far : described_number d b ≡ 0 → d.rows ≤ r → row_shown d b r a ≡ refused_row TOO_FAR a
  unfolding shown_by shown_of
  refused-too-far z h = rw (z, (kept d b z).column) (simp (le-leb d.rows r h))

  -- ---- any refusal
  abbrev Left : Shown → Type 0
  Left x = (x.answer.number ≡ 0 → ⊥) → x ≡ refused_row x.answer.number a

  row-left : (k : Kind) (row : Row) → Left (shown_in k row a)
  unfolding shown_in
  row-left k row = go (short k (row ∷ []) a)
    where
      go : (t : Bool) → Left (cond t (refused_row ROOM a) (record { answer = row_given 0 (given_bytes k (row ∷ [])); areas = filled_in k (row ∷ []) a }))
      go true h = refl
      go false h = absurd (h refl)

  column-left : (c : Option Column) → Left (shown_of c d.rows b r a)
  unfolding shown_of
  column-left None = λ h. refl
  column-left (Some c) = go (leb d.rows r)
    where
      row : Row
      row = get_or (rows_of c.kind c.encoding d.rows b) r null

      go : (t : Bool) → Left (cond t (refused_row TOO_FAR a) (shown_in c.kind row a))
      go true = λ h. refl
      go false = row-left c.kind row

  number-left : (m : ℕ) → Left (shown_by m (named d b) d.rows b r a)
  unfolding shown_by
  number-left zero = column-left (named d b)
  number-left (suc m) = λ h. refl

  -- Whatever the refusal, no bytes are told and the lent areas are left as they were.
  pub refused-leaves : ((row_shown d b r a).answer.number ≡ 0 → ⊥) → row_shown d b r a ≡ refused_row (row_shown d b r a).answer.number a
  refused-leaves = number-left (described_number d b)
