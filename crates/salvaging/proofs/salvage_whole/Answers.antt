-- `salvage_whole` meets its contract: the slices are the parts, which can be mended. Assumes nothing.
use Prim.Native.Nat.{ℕ, ◌<◌}
use native.Mathlib.Omega.{arith}
use lib.ListN.{length, get_or}
use Rattle.anatomy.specs.Parts.{part_in, AllWithin}
use Rattle.damaged_parts.proofs.BlockParts.{parts_within}
use Rattle.salvaging.proofs.TakenParts as laws
use Rattle.salvaging.proofs.salvage_whole.Goals as goal

pub slice_bounds-salvage_parts-count : goal.slice_bounds-salvage_parts-count
slice_bounds-salvage_parts-count c =
    let within : let a = c.args in AllWithin a.p (length a.block.now) = parts_within c.requires in
    omega (arith, (within).counts.order)

pub slice_bounds-salvage_parts-start : goal.slice_bounds-salvage_parts-start
slice_bounds-salvage_parts-start c =
    let within : let a = c.args in AllWithin a.p (length a.block.now) = parts_within c.requires in
    omega (arith, (within).counts.order)

pub slice_bounds-salvage_parts-end : goal.slice_bounds-salvage_parts-end
slice_bounds-salvage_parts-end c =
    let within : let a = c.args in AllWithin a.p (length a.block.now) = parts_within c.requires in
    omega (arith, (within).counts.inside)

pub slice_bounds-salvage_parts-count-2 : goal.slice_bounds-salvage_parts-count-2
slice_bounds-salvage_parts-count-2 c =
    let within : let a = c.args in AllWithin a.p (length a.block.now) = parts_within c.requires in
    omega (arith, (within).marks.order)

pub slice_bounds-salvage_parts-start-2 : goal.slice_bounds-salvage_parts-start-2
slice_bounds-salvage_parts-start-2 c =
    let within : let a = c.args in AllWithin a.p (length a.block.now) = parts_within c.requires in
    omega (arith, (within).marks.order)

pub slice_bounds-salvage_parts-end-2 : goal.slice_bounds-salvage_parts-end-2
slice_bounds-salvage_parts-end-2 c =
    let within : let a = c.args in AllWithin a.p (length a.block.now) = parts_within c.requires in
    omega (arith, (within).marks.inside)

pub slice_bounds-salvage_parts-count-3 : goal.slice_bounds-salvage_parts-count-3
slice_bounds-salvage_parts-count-3 c =
    let within : let a = c.args in AllWithin a.p (length a.block.now) = parts_within c.requires in
    omega (arith, (within).items.order)

pub slice_bounds-salvage_parts-start-3 : goal.slice_bounds-salvage_parts-start-3
slice_bounds-salvage_parts-start-3 c =
    let within : let a = c.args in AllWithin a.p (length a.block.now) = parts_within c.requires in
    omega (arith, (within).items.order)

pub slice_bounds-salvage_parts-end-3 : goal.slice_bounds-salvage_parts-end-3
slice_bounds-salvage_parts-end-3 c =
    let within : let a = c.args in AllWithin a.p (length a.block.now) = parts_within c.requires in
    omega (arith, (within).items.inside)

pub salvage_parts-requires : goal.salvage_parts-requires
unfolding part_in
salvage_parts-requires c =
    let fit : (i : ℕ) → get_or c.args.block.now i 0 < 256 = λ i. omega (arith, c.type_inv.block i) in
    laws.parts-mendable c.requires (fit)

pub returns : goal.returns
unfolding part_in
returns c =
    let a = c.args in
    let all = laws.parts-salvaged c.requires a.firsts.now a.lasts.now a.out.now
    (c.salvage_parts.ensures.value, (c.salvage_parts.ensures.firsts_after, (c.salvage_parts.ensures.lasts_after, c.salvage_parts.ensures.out_after))) in
    record { value = all.0; firsts_after = all.1.0; lasts_after = all.1.1.0; out_after = all.1.1.1 }
