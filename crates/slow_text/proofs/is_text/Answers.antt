-- `is_text` meets its contract. The loop's invariant: what is due, and the bytes that are left, decide what is due in the end. Assumes nothing.
use mathlib.Core.Path.{refl}
use native.Mathlib.Omega.{arith}
use Rattle.slow_text.proofs.Going.{going_start, going_step, going_never, going_end}
use Rattle.slow_text.proofs.is_text.Goals as goal

pub loop-i-init : goal.loop-i-init
loop-i-init c = going_start _ _ _ _ (refl, omega arith)

pub next-requires : goal.next-requires
next-requires c = c.loop-i.invariant.known

pub returns-in_default : goal.returns-in_default
returns-in_default c = going_never (going_step c.loop-i.invariant (omega arith) (omega arith) refl c.next.ensures) c.in_default.is

pub loop-i-preserved : goal.loop-i-preserved
loop-i-preserved c = rw c.in-Some.is at (going_step c.loop-i.invariant (omega arith) (omega arith) refl c.next.ensures)

pub returns : goal.returns
returns c = going_end c.loop-i.invariant (omega arith)
