-- `builder::Builder::write` meets its contract: each test's fact is said once, at its place, and each return cites what the tests have shown. Assumes
-- nothing.
use mathlib.Core.Path.{◌≡◌, refl, sym, ap, ◌∙◌}
use mathlib.Core.Bool.{false}
use lib.ListN.{length}
use lib.Seq.{sets}
use Rattle.needs.specs.Needs.{disagree}
use Rattle.append.specs.Appending.{Lent, lent, room_of}
use Rattle.builder.specs.Finishing.{held_block, finished}
use Rattle.builder.proofs.BlockHeld as laws
use Rattle.builder.proofs.Builder.write.Goals as goal

-- ---- the needs
pub returns-in_default : goal.returns-in_default
returns-in_default c =
    let areas : Lent = let a = c.args in lent a.items.now a.ends.now a.flags.now a.counts.now a.keys.now a.lens.now in
    let a = c.args in
    let all = laws.given (finished a.self (areas) a.out.now) (laws.column-none a.self (areas) a.out.now c.column_of.ensures c.in_default.is)
    refl refl in
    record { value = all.0; out_after = all.1 }

pub returns-then-disagrees : goal.returns-then-disagrees
unfolding room_of
returns-then-disagrees c =
    let areas : Lent = let a = c.args in lent a.items.now a.ends.now a.flags.now a.counts.now a.keys.now a.lens.now in
    let a = c.args in
    let all = laws.given (finished a.self (areas) a.out.now)
    (laws.not-agreed a.self (areas) a.out.now c.column_of.ensures c.in-Some.is (sym c.disagrees.ensures ∙ c.if-disagrees.true))
    refl refl in
    record { value = all.0; out_after = all.1 }

pub held_counts-size-requires : goal.held_counts-size-requires
unfolding room_of
held_counts-size-requires c =
    let areas : Lent = let a = c.args in lent a.items.now a.ends.now a.flags.now a.counts.now a.keys.now a.lens.now in
    let agrees : disagree c.in-Some.column.kind c.in-Some.column.encoding c.args.self.counted (room_of (areas)) ≡ false = sym c.disagrees.ensures ∙ c.if-disagrees.false in
    let h = laws.ready c.in-Some.column.kind c.in-Some.column.encoding c.args.self.counted (areas) (agrees) in
    λ t. (h.runs t, h.counts t)

pub block_bytes-len-requires : goal.block_bytes-len-requires
unfolding room_of
block_bytes-len-requires c =
    let areas : Lent = let a = c.args in lent a.items.now a.ends.now a.flags.now a.counts.now a.keys.now a.lens.now in
    let agrees : disagree c.in-Some.column.kind c.in-Some.column.encoding c.args.self.counted (room_of (areas)) ≡ false = sym c.disagrees.ensures ∙ c.if-disagrees.false in
    laws.length-asks c.in-Some.column.kind c.in-Some.column.encoding c.args.self.counted (areas) (agrees) c.held_counts-size.ensures.0 c.held_counts-size.ensures.1 c.with_counts.ensures

pub returns-then-out-len : goal.returns-then-out-len
unfolding room_of
returns-then-out-len c =
    let areas : Lent = let a = c.args in lent a.items.now a.ends.now a.flags.now a.counts.now a.keys.now a.lens.now in
    let agrees : disagree c.in-Some.column.kind c.in-Some.column.encoding c.args.self.counted (room_of (areas)) ≡ false = sym c.disagrees.ensures ∙ c.if-disagrees.false in
    let long : c.block_bytes-len.result ≡ length (held_block c.in-Some.column.kind c.in-Some.column.encoding c.args.self.counted (areas)) =
    laws.long c.in-Some.column.kind c.in-Some.column.encoding c.args.self.counted (areas) (agrees) c.held_counts-size.ensures.0 c.held_counts-size.ensures.1 c.with_counts.ensures
    c.block_bytes-len.ensures in
    let a = c.args in
    let all = laws.given (finished a.self (areas) a.out.now)
    (laws.room-short a.self (areas) a.out.now c.column_of.ensures c.in-Some.is (agrees) (long) c.if-out-len.true)
    refl refl in
    record { value = all.0; out_after = all.1 }

pub write_block-requires : goal.write_block-requires
unfolding room_of
write_block-requires c =
    let areas : Lent = let a = c.args in lent a.items.now a.ends.now a.flags.now a.counts.now a.keys.now a.lens.now in
    let agrees : disagree c.in-Some.column.kind c.in-Some.column.encoding c.args.self.counted (room_of (areas)) ≡ false = sym c.disagrees.ensures ∙ c.if-disagrees.false in
    laws.block-asks c.in-Some.column.kind c.in-Some.column.encoding c.args.self.counted (areas) (agrees) c.held_counts-size.ensures.0 c.held_counts-size.ensures.1 c.with_counts.ensures
    c.block_bytes-len.ensures c.if-out-len.false

pub returns : goal.returns
unfolding room_of
returns c =
    let areas : Lent = let a = c.args in lent a.items.now a.ends.now a.flags.now a.counts.now a.keys.now a.lens.now in
    let agrees : disagree c.in-Some.column.kind c.in-Some.column.encoding c.args.self.counted (room_of (areas)) ≡ false = sym c.disagrees.ensures ∙ c.if-disagrees.false in
    let long : c.block_bytes-len.result ≡ length (held_block c.in-Some.column.kind c.in-Some.column.encoding c.args.self.counted (areas)) =
    laws.long c.in-Some.column.kind c.in-Some.column.encoding c.args.self.counted (areas) (agrees) c.held_counts-size.ensures.0 c.held_counts-size.ensures.1 c.with_counts.ensures
    c.block_bytes-len.ensures in
    let a = c.args in
    let all = laws.given (finished a.self (areas) a.out.now)
    (laws.done a.self (areas) a.out.now c.column_of.ensures c.in-Some.is (agrees) (long) c.if-out-len.false)
    refl
    (c.write_block.ensures
    ∙ ap (sets a.out.now 0) (sym (laws.lens-apart c.in-Some.column.kind c.in-Some.column.encoding a.self.counted (areas)))) in
    record { value = all.0; out_after = all.1 }
