-- For every record and all memory: a call that is refused changes nothing, and only an append changes something at all. Assumes nothing.
use Prim.Native.Nat.{ℕ}
use mathlib.Core.List.{List}
use mathlib.Core.Path.{◌≡◌, ap}
use lib.ListN.{length}
use Rattle.append.specs.Appending.{Lent}
use Rattle.builder.specs.declared.Builder.{Builder}
use Rattle.builder.specs.Building.{Append, appended_times}
use Rattle.building_laws.specs.Built.{Given}
use Rattle.building_laws.proofs.Refusing.{refused-append-times, finish-hands-back, estimate-hands-back, should-finish-hands-back}
use Rattle.any_building_laws.specs.BuilderCalls.{Ask, append, finish, estimate, should_finish_before, After, answer_to, number_in, after_append, after}

module _ (r : Builder) (a : Lent) where
  -- ---- the calls other than append, whatever is answered
  abbrev handed : Builder → After
  handed s = record { builder = s; areas = a }

  pub finish-stays : (out : List ℕ) → after r a (finish out) ≡ record { builder = r; areas = a }
  unfolding after
  finish-stays out = ap handed (finish-hands-back r out a)

  pub estimate-stays : after r a estimate ≡ record { builder = r; areas = a }
  unfolding after
  estimate-stays = ap handed (estimate-hands-back r)

  pub asked-stays : (v : Given) → after r a (should_finish_before v) ≡ record { builder = r; areas = a }
  unfolding after
  asked-stays v = ap handed (should-finish-hands-back r v.present (length v.text))

  -- ---- an append that is refused
  both-kept : (o : Append) → (o.answer.builder ≡ r) × (o.areas ≡ a) → after_append o ≡ record { builder = r; areas = a }
  both-kept o h = cc

  append-stays : (n : ℕ) (v : Given) → ((appended_times r a n v.present v.value v.text).answer.number ≡ 0 → ⊥)
      → after r a (append n v) ≡ record { builder = r; areas = a }
  unfolding after
  append-stays n v h =
      both-kept (appended_times r a n v.present v.value v.text) (refused-append-times r a n v.present v.value v.text h)

  -- A call that is answered with a number other than 0 leaves the builder and the areas as it was given them.
  pub refused-call-changes-nothing : (q : Ask) → (number_in (answer_to r a q) ≡ 0 → ⊥) → after r a q ≡ record { builder = r; areas = a }
  unfolding answer_to number_in
  refused-call-changes-nothing (append n v) h = append-stays n v h
  refused-call-changes-nothing (finish out) h = finish-stays out
  refused-call-changes-nothing estimate h = estimate-stays
  refused-call-changes-nothing (should_finish_before v) h = asked-stays v
