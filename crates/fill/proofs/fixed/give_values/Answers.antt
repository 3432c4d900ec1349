-- `fill::give_values` meets its contract: each return by what the look told and the room that was tested. Assumes nothing.
use mathlib.Core.Path.{refl}
use mathlib.Core.List.{[]}
use native.Mathlib.Omega.{arith}
use Rattle.std.specs.Prelude.{Err}
use Rattle.limits.specs.Refusals.{ROOM, DISAGREE}
use lib.ListN.{length}
use Rattle.part_rows.proofs.Places.{may_write}
use Rattle.fill.specs.Areas.{areas}
use Rattle.fill.proofs.LookedAt.{Looked, looked-stuck, looked-total}
use Rattle.fill.proofs.FilledAreas.{fixed_told, values-short, flags-short, values-written, moves, is-fixed}
use Rattle.fill.proofs.fixed.give_values.Goals as goal

-- src/fixed.rt:93:9
pub returns-in_default : goal.returns-in_default
returns-in_default c =
    let a = c.args in
    let all = fixed_told (Err DISAGREE) refl
    (looked-stuck a.parts a.from a.block.now a.n (areas a.values.now a.flags.now [] [])
    c.in_default.ensures) in
    record { value = all.0; values_after = all.1.0; flags_after = all.1.1 }

-- src/fixed.rt:96:9
pub returns-then-values-n : goal.returns-then-values-n
returns-then-values-n c =
    let looked : let a = c.args in
    Looked a.parts a.from a.block.now a.n c.in-Some.weighed.bytes c.in-Some.weighed.next = let a = c.args in
    looked-total a.parts a.from a.block.now a.n c.in-Some.ensures in
    let a = c.args in
    let all = fixed_told (Err ROOM) refl
    (values-short (looked).read (areas a.values.now a.flags.now [] []) (is-fixed _ _ c.requires.1) (omega arith)) in
    record { value = all.0; values_after = all.1.0; flags_after = all.1.1 }

-- src/fixed.rt:99:9
pub returns-then-flags-n : goal.returns-then-flags-n
returns-then-flags-n c =
    let looked : let a = c.args in
    Looked a.parts a.from a.block.now a.n c.in-Some.weighed.bytes c.in-Some.weighed.next = let a = c.args in
    looked-total a.parts a.from a.block.now a.n c.in-Some.ensures in
    let a = c.args in
    let all = fixed_told (Err ROOM) refl
    (flags-short (looked).read (areas a.values.now a.flags.now [] []) (omega arith)) in
    record { value = all.0; values_after = all.1.0; flags_after = all.1.1 }

-- src/fixed.rt:101:5
pub write_values-requires : goal.write_values-requires
write_values-requires c =
    let looked : let a = c.args in
    Looked a.parts a.from a.block.now a.n c.in-Some.weighed.bytes c.in-Some.weighed.next = let a = c.args in
    looked-total a.parts a.from a.block.now a.n c.in-Some.ensures in
    (c.requires.0, c.requires.1, may_write (looked).read (length c.args.values.now) (omega arith))

-- src/fixed.rt:102:5
pub write_flags-requires : goal.write_flags-requires
write_flags-requires c =
    let looked : let a = c.args in
    Looked a.parts a.from a.block.now a.n c.in-Some.weighed.bytes c.in-Some.weighed.next = let a = c.args in
    looked-total a.parts a.from a.block.now a.n c.in-Some.ensures in
    (c.requires.0, may_write (looked).read (length c.args.flags.now) (omega arith))

-- src/fixed.rt:77:1
pub returns : goal.returns
returns c =
    let looked : let a = c.args in
    Looked a.parts a.from a.block.now a.n c.in-Some.weighed.bytes c.in-Some.weighed.next = let a = c.args in
    looked-total a.parts a.from a.block.now a.n c.in-Some.ensures in
    let a = c.args in
    let all = values-written
    (looked).read
    (areas a.values.now a.flags.now [] [])
    (is-fixed _ _ c.requires.1)
    _
    (moves a.parts a.from _ c.requires.2)
    (omega arith)
    (omega arith)
    c.write_values.ensures
    c.write_flags.ensures in
    record { value = all.0; values_after = all.1.0; flags_after = all.1.1 }
