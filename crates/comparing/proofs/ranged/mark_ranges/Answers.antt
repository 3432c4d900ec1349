-- `mark_ranges` meets its contract: the rows of both, then those that one has alone, then the end. Assumes nothing.
use native.Mathlib.Omega.{arith}
use Rattle.comparing.proofs.OpenedSides as sides
use Rattle.comparing.proofs.Marked as laws
use Rattle.comparing.proofs.ranged.mark_ranges.Goals as goal

pub walk_blocks-mark-requires : goal.walk_blocks-mark-requires
walk_blocks-mark-requires c =
    let p = c.requires in
    laws.walk-asks p.0 p.1 c.least-n.ensures p.2 p.3

pub overflow_sub-alone : goal.overflow_sub-alone
overflow_sub-alone c =
    let p = c.requires in
    omega (arith, laws.alone-first p.0 p.1 c.least-n.ensures)

pub overflow_sub-alone-2 : goal.overflow_sub-alone-2
overflow_sub-alone-2 c =
    let p = c.requires in
    omega (arith, laws.alone-second p.0 p.1 c.least-n.ensures)

pub overflow_add-alone : goal.overflow_add-alone
overflow_add-alone c =
    let p = c.requires in
    omega (arith, sides.side-few p.0, sides.side-few p.1)

pub add-marked-requires : goal.add-marked-requires
add-marked-requires c =
    let p = c.requires in
    (c.walk_blocks-mark.ensures.counted, laws.alone-fits p.0 p.1 c.least-n.ensures c.walk_blocks-mark.ensures)

pub end-ended-requires : goal.end-ended-requires
end-ended-requires c =
    let p = c.requires in
    (laws.of-all p.0 p.1 c.least-n.ensures c.walk_blocks-mark.ensures (c.add-marked.ensures.value, (c.add-marked.ensures.firsts_after, c.add-marked.ensures.lasts_after))).counted

pub returns : goal.returns
returns c =
    let p = c.requires in
    let r = laws.ranges-marked p.0 p.1 c.least-n.ensures c.walk_blocks-mark.ensures
    (c.add-marked.ensures.value, (c.add-marked.ensures.firsts_after, c.add-marked.ensures.lasts_after))
    (c.end-ended.ensures.value, (c.end-ended.ensures.firsts_after, c.end-ended.ensures.lasts_after)) in
    record { value = r.0; firsts_after = r.1; lasts_after = r.2 }
