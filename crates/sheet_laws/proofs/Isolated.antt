-- 02 (ix): two files that agree in column j give the same answers and the same lent memory for j, whatever the rest holds. Assumes nothing.
use Prim.Native.Nat.{ℕ, zero, suc, ◌+◌, ◌≤◌, ◌<◌}
use native.Mathlib.Omega.{arith}
use mathlib.Core.Logic.{⊎_elim}
use mathlib.Core.List.{List, [], ◌∷◌}
use mathlib.Core.Path.{◌≡◌, refl, sym, ap, ◌∙◌}
use lib.Dec.{ltb, leb, eqb}
use lib.ListN.{length, take, drop}
use borrow.Author.Tests.{le-leb}
use Rattle.limits.specs.Limits.{MOST_FILE, MOST_COLUMNS}
use Rattle.limits.specs.Refusals.{LIMIT, NO_COLUMN, SHEET}
use Rattle.area.proofs.Laws.{lt-or-ge}
use Rattle.plain.specs.Rules.{◌if◌, first_of}
use Rattle.format.proofs.Answers.{broken-first}
use Rattle.block.specs.declared.Reader.{Reader}
use Rattle.block.specs.Reading.{no_reader}
use Rattle.sheet.specs.declared.Found.{Found}
use Rattle.sheet.specs.Sheet.{columns_in, directory_end, entry_at, descriptor_in, offset_in, length_in, named_by, sheet_number, opened_in, found_by, column_found, column_part}
use Rattle.sheet.proofs.Numbers.{none-refuses}
use Rattle.sheet.proofs.Answers.{nothing-found, no_part}
use Rattle.sheet_laws.proofs.Cases.{part-named, part-at-place, nothing-at-place}
use Rattle.sheet_laws.specs.Column.{Ask, Told, told_all, Heard, heard, placed, heard_at_place, Agree}

-- rules behind one that is broken have no part in the number
same-behind : (x : ℕ) (xs ys : List ℕ) → first_of xs ≡ first_of ys → first_of (x ∷ xs) ≡ first_of (x ∷ ys)
unfolding first_of
same-behind zero xs ys e = e
same-behind (suc x) xs ys e = refl

-- an opening and answers, as one
abbrev hear : Found → List ℕ → List Ask → Heard
hear x b qs = record { opening = x; answers = told_all x.reader b qs }

abbrev found_of : ℕ → List ℕ → List ℕ → Found
found_of m e b = found_by (opened_in m (descriptor_in e) b) (offset_in e) (length_in e)

module _ (f g : List ℕ) (j : ℕ) (agree : Agree f g j) where
  -- where there is no column j, its entry isn't looked at
  absent : columns_in f ≤ j → sheet_number f j ≡ sheet_number g j
  unfolding sheet_number
  absent h =
      rw (← agree.long, ← agree.columns, le-leb (columns_in f) j h)
      (same-behind _ _ _ (same-behind _ _ _ (same-behind _ _ _ (same-behind _ _ _
      (broken-first NO_COLUMN _ (λ z. omega arith) ∙ sym (broken-first NO_COLUMN _ (λ z. omega arith)))))))

  present : j < columns_in f → sheet_number f j ≡ sheet_number g j
  unfolding sheet_number
  present h = rw (← agree.long, ← agree.columns, ← agree.entry h)

  same_number : sheet_number f j ≡ sheet_number g j
  same_number = ⊎_elim (λ h. present h) (λ h. absent h) (lt-or-ge j (columns_in f))

  module _ (z : sheet_number f j ≡ 0) where
    same-entry : entry_at j f ≡ entry_at j g
    same-entry = agree.entry (none-refuses f j z).there

    same-named : named_by (entry_at j f) f ≡ named_by (entry_at j g) g
    same-named = agree.bytes z ∙ ap (λ (e : List ℕ). named_by e g) same-entry

  same-found : column_found f j ≡ column_found g j
  same-found = go (sheet_number f j) refl
    where
      go : (m : ℕ) → sheet_number f j ≡ m → column_found f j ≡ column_found g j
      go zero q =
          ap (λ (m : ℕ). found_of m (entry_at j f) (named_by (entry_at j f) f)) same_number
          ∙ ap (λ (e : List ℕ). found_of (sheet_number g j) e (named_by (entry_at j f) f)) (same-entry q)
          ∙ ap (found_of (sheet_number g j) (entry_at j g)) (same-named q)
      go (suc m) q = sym (nothing-found f j (sym q) (omega arith)) ∙ nothing-found g j (sym q ∙ same_number) (omega arith)

  same-part : column_part f j ≡ column_part g j
  same-part = go (sheet_number f j) refl
    where
      go : (m : ℕ) → sheet_number f j ≡ m → column_part f j ≡ column_part g j
      go zero q = part-named f j q ∙ same-named q ∙ sym (part-named g j (sym same_number ∙ q))
      go (suc m) q = sym (no_part f j (sym q) (omega arith)) ∙ no_part g j (sym q ∙ same_number) (omega arith)

  -- Whatever else the files hold: the same opening, and to any calls the same answers, records and lent memory.
  pub isolated : (qs : List Ask) → heard f j qs ≡ heard g j qs
  unfolding heard
  isolated qs = ap (λ (x : Found). hear x (column_part f j) qs) same-found ∙ ap (λ (b : List ℕ). hear (column_found g j) b qs) same-part

  same-told : (column_found f j).number ≡ (column_found g j).number
  same-told = ap (λ (x : Found). x.number) same-found

  same-placed : placed f (column_found f j) ≡ placed g (column_found g j)
  same-placed = go (column_found f j).number refl
    where
      go : (m : ℕ) → (column_found f j).number ≡ m → placed f (column_found f j) ≡ placed g (column_found g j)
      go zero q = part-at-place f j q ∙ same-part ∙ sym (part-at-place g j (sym same-told ∙ q))
      go (suc m) q = nothing-at-place f j (omega (arith, q)) ∙ sym (nothing-at-place g j (omega (arith, q, same-told)))

  -- So too for a caller who takes the bytes at the place that was answered.
  pub isolated-at-place : (qs : List Ask) → heard_at_place f j qs ≡ heard_at_place g j qs
  unfolding heard_at_place
  isolated-at-place qs =
      ap (λ (x : Found). hear x (placed f (column_found f j)) qs) same-found
      ∙ ap (λ (b : List ℕ). hear (column_found g j) b qs) same-placed
