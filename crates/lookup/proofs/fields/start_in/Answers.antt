-- `lookup::fields::start_in` meets its contract: each return by the law of the tests and arms that led there. Assumes nothing.
use Rattle.lookup.proofs.FieldTests as laws
use native.Mathlib.Omega.{arith}
use Rattle.lookup.proofs.fields.start_in.Goals as goal

pub returns-then-i-eq0 : goal.returns-then-i-eq0
returns-then-i-eq0 c = let a = c.args in (laws.start_none a.ends.now a.i c.if-i-eq0.true, omega arith)

pub returns : goal.returns
returns c = let a = c.args in (laws.start-some a.ends.now a.i c.if-i-eq0.false c.end_in.ensures.0, c.end_in.ensures.1)
