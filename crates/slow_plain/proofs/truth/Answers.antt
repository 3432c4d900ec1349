-- `truth` meets its contract: 0 is false, and every other number is true. Assumes nothing.
use mathlib.Core.Path.{sym, ap}
use native.Mathlib.Omega.{arith}
use borrow.Author.Tests.{lt-ltb, le-ltb}
use Rattle.encode.specs.Kinds.{true_or_false}
use Rattle.slow_plain.proofs.truth.Goals as goal

pub returns-then-n-eq0 : goal.returns-then-n-eq0
returns-then-n-eq0 c = sym (ap true_or_false (le-ltb 0 c.args.n (omega arith)))

pub returns : goal.returns
returns c = sym (ap true_or_false (lt-ltb 0 c.args.n (omega arith)))
