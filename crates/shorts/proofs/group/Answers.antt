-- `shorts::group` meets its contract: what was tested is what a group is. Assumes nothing.
use native.Mathlib.Omega.{arith}
use Rattle.shorts.proofs.Groups.{found-group}
use Rattle.shorts.proofs.group.Goals as goal

pub returns : goal.returns
returns c = found-group _ _ _ _ _ (omega arith) (omega arith) c.count_short.ensures (omega arith) c.add_up-sum.ensures (omega arith)
