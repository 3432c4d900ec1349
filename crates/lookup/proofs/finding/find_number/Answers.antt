-- `lookup::finding::find_number` meets its contract. The loop's invariant is `Seeking`. Assumes nothing.
use native.Mathlib.Omega.{arith}
use Rattle.lookup.proofs.Words.{seeking-start, seeking-item, seeking-here, seeking-step, seeking-end}
use Rattle.lookup.proofs.finding.find_number.Goals as goal

pub loop-i-init : goal.loop-i-init
loop-i-init g c = seeking-start _ _ _ _

pub low-requires : goal.low-requires
low-requires g c = c.requires.1

pub item-requires : goal.item-requires
item-requires g c = (c.requires.0, seeking-item c.loop-i.invariant c.requires.2 (omega arith))

pub returns-then-low-want : goal.returns-then-low-want
returns-then-low-want g c =
    seeking-here c.loop-i.invariant c.requires.2 (omega arith) c.item.ensures c.low.ensures c.if-low-want.true

pub overflow_add-at : goal.overflow_add-at
overflow_add-at g c =
    let h = seeking-item c.loop-i.invariant c.requires.2 (omega arith) in
    omega arith

pub loop-i-preserved : goal.loop-i-preserved
loop-i-preserved g c =
    seeking-step c.loop-i.invariant c.requires.2 (omega arith) c.item.ensures c.low.ensures c.if-low-want.false

pub returns : goal.returns
returns g c = seeking-end c.loop-i.invariant (omega arith)
