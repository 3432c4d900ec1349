-- `key_entry` meets its contract: the key of the row's run. Assumes nothing.
use Prim.Native.Nat.{◌+◌, ◌-◌}
use mathlib.Core.Path.{◌≡◌, sym, ◌∙◌}
use native.Mathlib.Omega.{arith}
use Rattle.slow_places.proofs.Runs.{key-asked, key-found}
use Rattle.slow_places.proofs.key_entry.Goals as goal

pub slot_at-slot-requires : goal.slot_at-slot-requires
slot_at-slot-requires c = key-asked c.run_at-at.ensures c.requires.0 c.requires.1

pub returns-then-slot-eq0 : goal.returns-then-slot-eq0
returns-then-slot-eq0 c = key-found c.run_at-at.ensures (sym c.if-slot-eq0.true ∙ c.slot_at-slot.ensures.0)

pub returns : goal.returns
returns c = let e : c.slot_at-slot.result - 1 + 1 ≡ c.slot_at-slot.result = omega arith in key-found c.run_at-at.ensures (e ∙ c.slot_at-slot.ensures.0)
