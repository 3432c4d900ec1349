-- `fill::give_weighed` meets its contract: each return by what the look told and the room that was tested. Assumes nothing.
use mathlib.Core.Path.{refl}
use mathlib.Core.List.{[]}
use native.Mathlib.Omega.{arith}
use Rattle.std.specs.Prelude.{Err}
use Rattle.limits.specs.Refusals.{ROOM, DISAGREE}
use lib.ListN.{length}
use Rattle.part_rows.proofs.Places.{may_write}
use Rattle.fill.specs.Areas.{areas}
use Rattle.fill.proofs.LookedAt.{Looked, looked-stuck, looked-total}
use Rattle.fill.proofs.FilledAreas.{text-told, flags-short, ends-short, bytes-short, total-high, sum_fits, texts-written, is-text}
use Rattle.fill.proofs.texts.give_weighed.Goals as goal

-- src/texts.rt:144:9
pub returns-in_default : goal.returns-in_default
returns-in_default c =
    let a = c.args in
    let all = text-told (Err DISAGREE) refl
    (looked-stuck a.parts a.from a.block.now a.n (areas [] a.flags.now a.ends.now a.bytes.now)
    c.in_default.ensures) in
    record { value = all.0; flags_after = all.1.0; ends_after = all.1.1.0; bytes_after = all.1.1.1 }

-- src/texts.rt:147:9
pub returns-then-flags-n : goal.returns-then-flags-n
returns-then-flags-n c =
    let looked : let a = c.args in
    Looked a.parts a.from a.block.now a.n c.in-Some.weighed.bytes c.in-Some.weighed.next = let a = c.args in
    looked-total a.parts a.from a.block.now a.n c.in-Some.ensures in
    let a = c.args in
    let all = text-told (Err ROOM) refl
    (flags-short (looked).read (areas [] a.flags.now a.ends.now a.bytes.now) (omega arith)) in
    record { value = all.0; flags_after = all.1.0; ends_after = all.1.1.0; bytes_after = all.1.1.1 }

-- src/texts.rt:150:9
pub returns-then-ends-n : goal.returns-then-ends-n
returns-then-ends-n c =
    let looked : let a = c.args in
    Looked a.parts a.from a.block.now a.n c.in-Some.weighed.bytes c.in-Some.weighed.next = let a = c.args in
    looked-total a.parts a.from a.block.now a.n c.in-Some.ensures in
    let a = c.args in
    let all = text-told (Err ROOM) refl
    (ends-short (looked).read (areas [] a.flags.now a.ends.now a.bytes.now) c.requires.1 (omega arith)) in
    record { value = all.0; flags_after = all.1.0; ends_after = all.1.1.0; bytes_after = all.1.1.1 }

-- src/texts.rt:153:9
pub returns-then-bytes-total : goal.returns-then-bytes-total
returns-then-bytes-total c =
    let looked : let a = c.args in
    Looked a.parts a.from a.block.now a.n c.in-Some.weighed.bytes c.in-Some.weighed.next = let a = c.args in
    looked-total a.parts a.from a.block.now a.n c.in-Some.ensures in
    let a = c.args in
    let all = text-told (Err ROOM) refl
    (bytes-short (looked).read (areas [] a.flags.now a.ends.now a.bytes.now) c.requires.1 _ (looked).weight (omega arith)) in
    record { value = all.0; flags_after = all.1.0; ends_after = all.1.1.0; bytes_after = all.1.1.1 }

-- src/texts.rt:156:9
pub returns-then-total-gt-MOST_GIVEN : goal.returns-then-total-gt-MOST_GIVEN
returns-then-total-gt-MOST_GIVEN c =
    let looked : let a = c.args in
    Looked a.parts a.from a.block.now a.n c.in-Some.weighed.bytes c.in-Some.weighed.next = let a = c.args in
    looked-total a.parts a.from a.block.now a.n c.in-Some.ensures in
    let a = c.args in
    let all = text-told (Err ROOM) refl
    (total-high (looked).read (areas [] a.flags.now a.ends.now a.bytes.now) c.requires.1 _ (looked).weight (omega arith)) in
    record { value = all.0; flags_after = all.1.0; ends_after = all.1.1.0; bytes_after = all.1.1.1 }

-- src/texts.rt:158:5
pub write_texts-requires : goal.write_texts-requires
write_texts-requires c =
    let looked : let a = c.args in
    Looked a.parts a.from a.block.now a.n c.in-Some.weighed.bytes c.in-Some.weighed.next = let a = c.args in
    looked-total a.parts a.from a.block.now a.n c.in-Some.ensures in
    let a = c.args in
    let f = sum_fits (looked).read _ (length a.bytes.now) (looked).weight c.if-bytes-total.false c.if-total-gt-MOST_GIVEN.false in
    record { serves = (c.requires.0, is-text _ c.requires.1); may_write = (may_write (looked).read (length a.ends.now) c.if-ends-n.false, c.if-flags-n.false); n_in_bounds = (f.0, f.1) }

-- src/texts.rt:127:1
pub returns : goal.returns
returns c =
    let looked : let a = c.args in
    Looked a.parts a.from a.block.now a.n c.in-Some.weighed.bytes c.in-Some.weighed.next = let a = c.args in
    looked-total a.parts a.from a.block.now a.n c.in-Some.ensures in
    let a = c.args in
    let all = texts-written
    (looked).read
    (areas [] a.flags.now a.ends.now a.bytes.now)
    c.requires.1
    _
    (looked).weight
    c.next_by.result
    c.next_by.ensures
    c.if-flags-n.false
    c.if-ends-n.false
    c.if-bytes-total.false
    c.if-total-gt-MOST_GIVEN.false
    c.write_texts.ensures.flags_after
    c.write_texts.ensures.ends_after
    c.write_texts.ensures.bytes_after in
    record { value = all.0; flags_after = all.1.0; ends_after = all.1.1.0; bytes_after = all.1.1.1 }
