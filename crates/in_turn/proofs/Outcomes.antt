-- The two outcomes of the number that comes back. Assumes nothing.
use Prim.Native.Nat.{ℕ}
use mathlib.Core.Path.{◌≡◌}
use borrow.Author.Tests.{eq-eqb, ne_eqb}
use Rattle.in_turn.specs.InTurn.{first_refusal}

module _ (o g : ℕ) where
  pub first-opened : (o ≡ 0 → ⊥) → o ≡ first_refusal o g
  unfolding first_refusal
  first-opened h = simp (ne_eqb o 0 h)

  pub first-given : o ≡ 0 → g ≡ first_refusal o g
  unfolding first_refusal
  first-given h = simp (eq-eqb o 0 h)
