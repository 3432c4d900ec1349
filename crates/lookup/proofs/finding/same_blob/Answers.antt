-- `lookup::finding::same_blob` meets its contract: the bytes between the item's ends. Assumes nothing.
use native.Mathlib.Omega.{arith}
use Rattle.lookup.specs.Asking.{ItemThere}
use Rattle.lookup.proofs.There.{blob-read}
use Rattle.lookup.proofs.finding.same_blob.Goals as goal

pub end_in-requires : goal.end_in-requires
unfolding ItemThere
end_in-requires c = c.requires.0.0

pub overflow_sub-end_in : goal.overflow_sub-end_in
unfolding ItemThere
overflow_sub-end_in c = let h = c.requires in omega (arith, h.0.1, h.1, c.end_in.ensures.0)

pub same_bytes-requires : goal.same_bytes-requires
unfolding ItemThere
same_bytes-requires c = let h = c.requires in omega (arith, h.0.1, h.0.2, h.1, c.end_in.ensures.0)

pub returns : goal.returns
returns c =
    let a = c.args in
    blob-read a.items.now a.ends.now a.i a.item.now c.requires.1 c.end_in.ensures.0 c.same_bytes.ensures
