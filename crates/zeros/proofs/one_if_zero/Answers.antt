-- `zeros::one_if_zero` meets its contract. Assumes nothing.
use native.Mathlib.Omega.{arith}
use borrow.Author.Tests.{eq-eqb, ne_eqb}
use Rattle.zeros.specs.Zeros.{zero_in}
use Rattle.zeros.proofs.one_if_zero.Goals as goal

pub returns-then-x-eq0 : goal.returns-then-x-eq0
unfolding zero_in
returns-then-x-eq0 c = (simp (eq-eqb _ 0 c.if-x-eq0.true), omega arith)

pub returns-else-x-eq0 : goal.returns-else-x-eq0
unfolding zero_in
returns-else-x-eq0 c = (simp (ne_eqb _ 0 c.if-x-eq0.false), omega arith)
