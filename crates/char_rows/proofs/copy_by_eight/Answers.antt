-- `copy_by_eight` meets its contract: the law of the loop that copies, by eight bytes a step, and then the rest. Assumes nothing.
use mathlib.Core.Path.{◌∙◌}
use Rattle.char_rows.proofs.Words.{copying-start, copying-word}
use Rattle.char_rows.proofs.copy_by_eight.Goals as goal

pub loop-i-init : goal.loop-i-init
loop-i-init c = copying-start _ _ _ _ _ c.requires.1

pub loop-i-preserved : goal.loop-i-preserved
loop-i-preserved c =
    copying-word c.loop-i.invariant c.loop-i-test.true c.requires.0 c.item.ensures c.put.ensures

pub shape_of-dst : goal.shape_of-dst
shape_of-dst c = c.copy.auto.dst ∙ c.loop-i.invariant.long

pub returns : goal.returns
returns c = c.copy.ensures ∙ c.loop-i.invariant.same
