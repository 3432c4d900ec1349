-- `step::joins_key` meets its contract: each return by the law of the tests and arms that led there. Assumes nothing.
use mir.Syntax.{w32}
use Rattle.step.proofs.Steps as laws
use Rattle.lookup.proofs.Alike.{int-bits}
use native.Mathlib.Omega.{arith}
use borrow.Author.Rules.{rules}
use Rattle.step.proofs.finding.joins_key.Goals as goal

pub overflow_sub-i : goal.overflow_sub-i
overflow_sub-i c = let h = laws.opened _ c.run_open.ensures c.if-run_open.true in omega (arith, h.0)

pub bounds-keys-i : goal.bounds-keys-i
bounds-keys-i c = let h = laws.opened _ c.run_open.ensures c.if-run_open.true in omega (arith, h.0)

pub returns-then-run_open : goal.returns-then-run_open
returns-then-run_open c = laws.joins-as _ _ _ c.run_open.ensures c.if-run_open.true (int-bits {w = w32} _ _ (search rules) c.ranges.key)

pub returns : goal.returns
returns c = laws.joins-not _ _ _ c.run_open.ensures c.if-run_open.false
