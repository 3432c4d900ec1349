-- `no_bytes` meets its contract. Assumes nothing.
use mathlib.Core.Bool.{Bool, not}
use mathlib.Core.Path.{sym, ap}
use borrow.Author.Tests.{eq-eqb, ne_eqb}
use Rattle.limits.specs.Refusals.{SUM}
use Rattle.plain.specs.Rules.{◌if◌}
use Rattle.slow_rules.proofs.no_bytes.Goals as goal

pub returns-then-rows-eq0 : goal.returns-then-rows-eq0
returns-then-rows-eq0 c = ap (λ (t : Bool). SUM if not t) (sym (eq-eqb c.args.rows 0 c.if-rows-eq0.true))

pub returns : goal.returns
returns c = ap (λ (t : Bool). SUM if not t) (sym (ne_eqb c.args.rows 0 c.if-rows-eq0.false))
