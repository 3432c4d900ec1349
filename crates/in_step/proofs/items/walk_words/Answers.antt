-- `in_step::items::walk_words` meets its contract. The loop's invariant is `Tested`. Assumes nothing.
use native.Mathlib.Omega.{arith}
use Rattle.plain.proofs.Items.{item_room}
use Rattle.ranges.proofs.Recording.{recorded-long}
use Rattle.in_step.proofs.ByItems as laws
use Rattle.in_step.proofs.items.walk_words.Goals as goal

pub loop-i-init : goal.loop-i-init
loop-i-init g c = laws.tested-start _ _ _ c.start-mark.ensures

pub same_word-same-requires : goal.same_word-same-requires
same_word-same-requires g c =
    let r = c.requires in
    (r.0, omega arith, item_room c.loop-i.i c.args.n g.row.W _ (omega arith) r.2, item_room c.loop-i.i c.args.n g.row.W _ (omega arith) r.3)

pub add_one-mark-requires : goal.add_one-mark-requires
add_one-mark-requires g c =
    let f = c.loop-i.invariant in
    (f.recorded.counted, laws.tested-room f c.args.n (omega arith) (omega (arith, c.ranges.n)))

pub loop-i-preserved : goal.loop-i-preserved
loop-i-preserved g c =
    laws.tested-step c.loop-i.invariant c.args.n (omega arith) (omega (arith, c.ranges.n)) c.same_word-same.ensures
    c.add_one-mark.ensures.value c.add_one-mark.ensures.firsts_after c.add_one-mark.ensures.lasts_after

pub shape_of-firsts : goal.shape_of-firsts
shape_of-firsts g c = (recorded-long c.loop-i.invariant.recorded).0

pub shape_of-lasts : goal.shape_of-lasts
shape_of-lasts g c = (recorded-long c.loop-i.invariant.recorded).1
