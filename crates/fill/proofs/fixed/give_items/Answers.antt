-- `fill::give_items` meets its contract: each return by the room that was tested. Assumes nothing.
use Prim.Native.Nat.{◌+◌}
use mathlib.Core.Path.{refl}
use mathlib.Core.List.{[]}
use native.Mathlib.Omega.{arith}
use Rattle.std.specs.Prelude.{Err}
use Rattle.limits.specs.Refusals.{ROOM}
use Rattle.plain.specs.Plain.{places}
use Rattle.rle.specs.Stepping.{spot}
use Rattle.part_rows.proofs.Places.{Read}
use Rattle.item_rows.proofs.ItemRows.{items-read}
use Rattle.fill.specs.Areas.{areas}
use Rattle.fill.proofs.FilledAreas.{fixed_told, values-short, flags-short, values-written, stays, is-fixed}
use Rattle.fill.proofs.fixed.give_items.Goals as goal

-- src/fixed.rt:63:9
pub returns-then-values-n : goal.returns-then-values-n
returns-then-values-n c =
    let read : let a = c.args in
    let f = a.from in
    Read a.parts f a.block.now a.n (places a.n f.run) (spot (f.run + a.n) f.at f.taken) = let a = c.args in items-read a.parts a.from a.block.now a.n c.requires.0 c.requires.2 a.p c.requires.1 in
    let a = c.args in
    let all = fixed_told (Err ROOM) refl
    (values-short (read) (areas a.values.now a.flags.now [] []) (is-fixed _ _ c.requires.1) (omega arith)) in
    record { value = all.0; values_after = all.1.0; flags_after = all.1.1 }

-- src/fixed.rt:66:9
pub returns-then-flags-n : goal.returns-then-flags-n
returns-then-flags-n c =
    let read : let a = c.args in
    let f = a.from in
    Read a.parts f a.block.now a.n (places a.n f.run) (spot (f.run + a.n) f.at f.taken) = let a = c.args in items-read a.parts a.from a.block.now a.n c.requires.0 c.requires.2 a.p c.requires.1 in
    let a = c.args in
    let all = fixed_told (Err ROOM) refl
    (flags-short (read) (areas a.values.now a.flags.now [] []) (omega arith)) in
    record { value = all.0; values_after = all.1.0; flags_after = all.1.1 }

-- src/fixed.rt:48:1
pub returns : goal.returns
returns c =
    let read : let a = c.args in
    let f = a.from in
    Read a.parts f a.block.now a.n (places a.n f.run) (spot (f.run + a.n) f.at f.taken) = let a = c.args in items-read a.parts a.from a.block.now a.n c.requires.0 c.requires.2 a.p c.requires.1 in
    let a = c.args in
    let all = values-written
    (read)
    (areas a.values.now a.flags.now [] [])
    (is-fixed _ _ c.requires.1)
    a.from
    (stays a.parts a.from _ c.requires.2)
    (omega (arith, c.if-values-n.false))
    (omega (arith, c.if-flags-n.false))
    c.write_items.ensures.values_after
    c.write_items.ensures.flags_after in
    record { value = all.0; values_after = all.1.0; flags_after = all.1.1 }
