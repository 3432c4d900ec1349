-- A refused append gives back the numbers and the areas that it was given, for any numbers and all memory. Assumes nothing.
use Prim.Native.Nat.{ℕ}
use mathlib.Core.Bool.{Bool, true, false, cond, not}
use mathlib.Core.Path.{◌≡◌, refl}
use lib.ListN.{length}
use Rattle.std.specs.Prelude.{Option, Some, None}
use Rattle.limits.specs.Refusals.{ITEM, LIMIT, ROOM, DISAGREE}
use Rattle.encode.specs.declared.Kind.{Kind}
use Rattle.plain.specs.Rows.{Row, fits}
use Rattle.plain.specs.Plain.{item_of}
use Rattle.nullable.specs.Nullable.{presence}
use Rattle.format.specs.declared.Encoding.{Encoding}
use Rattle.needs.specs.declared.Counted.{Counted}
use Rattle.needs.specs.Needs.{past_limits, too_short, disagree}
use Rattle.step.specs.declared.Step.{Step}
use Rattle.step.specs.Steps.{step_of}
use Rattle.step.specs.Counting.{grown, next_of}
use Rattle.append.specs.Appending.{Lent, room_of, held_in, laid, Added, added_to, added_with, added_by, added}

module _ (r : Counted) (a : Lent) where
  -- a number that isn't 0 comes with the numbers and the areas that were given
  abbrev Keeps : Added → Type 0
  Keeps x = (x.answer.number ≡ 0 → ⊥) → (x.answer.counted ≡ r) × (x.areas ≡ a)

  either : (b : Bool) (x y : Added) → Keeps x → Keeps y → Keeps (cond b x y)
  either true x y f g = f
  either false x y f g = g

  refusal : (n : ℕ) → Keeps (added_to (next_of n r) a)
  refusal n h = (refl, refl)

  with-keeps : (k : Kind) (e : Encoding) (next : Counted) (after : Lent) → Keeps (added_with k e r a next after)
  unfolding added_with
  with-keeps k e next after =
      either (past_limits k e next) _ _ (refusal LIMIT) (either (too_short k e next (room_of a)) _ _ (refusal ROOM) (λ h. absurd (h refl)))

  by-keeps : (k : Kind) (e : Encoding) (row : Row) (s : Option Step) → Keeps (added_by k e r a row s)
  unfolding added_by
  by-keeps k e row None = refusal DISAGREE
  by-keeps k e row (Some s) =
      either (not (fits k row)) _ _ (refusal ITEM)
      (with-keeps k e (grown e r (presence row) (length (item_of k row)) s.stored s.joins) (laid k e r row s.stored s.joins s.key a))

  pub added-keeps : (k : Kind) (e : Encoding) (row : Row) → Keeps (added k e r a row)
  unfolding added
  added-keeps k e row = either (disagree k e r (room_of a)) _ _ (refusal DISAGREE) (by-keeps k e row (step_of k e r (held_in a) a.keys row))
