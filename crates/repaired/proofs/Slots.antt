-- Which entry a run shows, and that good entries can be compared with each other. Assumes nothing.
use Prim.Native.Nat.{ℕ, ◌-◌, ◌≤◌, ◌<◌}
use native.Mathlib.Omega.{arith}
use mathlib.Core.Bool.{true}
use mathlib.Core.List.{List}
use mathlib.Core.Path.{◌≡◌, sym, ap, ◌∙◌}
use borrow.Author.Tests.{lt-ltb, le-ltb}
use Rattle.encode.specs.declared.Kind.{Kind}
use Rattle.plain.specs.Rows.{same}
use Rattle.plain.proofs.Numbers.{plain-least, plain-good}
use Rattle.plain.proofs.Same.{same_self}
use Rattle.dict.specs.Dictionary.{slot_at, entry_row}
use Rattle.matching.specs.Matching.{Stored}
use Rattle.repaired.specs.Repaired.{lost_at, slot_in, Entered}

-- ---- the returns of `slot_in`
module _ (entries : ℕ) (keys : List ℕ) (i : ℕ) {slot : ℕ} (e : slot ≡ slot_at keys i) where
  pub no-entry : entries < slot → 0 ≡ slot_in entries keys i
  unfolding slot_in lost_at
  no-entry h = rw (← e) (simp (lt-ltb entries slot h))

  pub an-entry : slot ≤ entries → slot ≡ slot_in entries keys i
  unfolding slot_in lost_at
  an-entry h = rw (← e) (simp (le-ltb entries slot h))

-- ---- of `same_entry`, and what it asks of `same_slot`
module _ (k : Kind) (entries : ℕ) (items : List ℕ) where
  pub same-slots : {a b : ℕ} → a ≡ b → true ≡ same (entry_row k entries items a) (entry_row k entries items b)
  same-slots {a} {b} e = sym (ap (λ (i : ℕ). same (entry_row k entries items i) (entry_row k entries items b)) e ∙ same_self (entry_row k entries items b))

  pub entry-stored : Entered k entries items → {slot : ℕ} → slot ≤ entries → Stored k entries items slot
  entry-stored g {slot} h = record {
    few = omega (arith, g.few);
    inside = h;
    whole = plain-least k entries items g.sound;
    good = λ l. plain-good k entries items g.sound (slot - 1) (omega arith);
  }
