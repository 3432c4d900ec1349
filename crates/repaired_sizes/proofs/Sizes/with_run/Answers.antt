-- `repaired_sizes::Sizes::with_run` meets its contract: a count is spelled in five bytes at most. Assumes nothing.
use native.Mathlib.Omega.{arith}
use Rattle.repaired_laws.proofs.Spellings.{below5}
use Rattle.repaired_sizes.proofs.Sizes.with_run.Goals as goal

pub overflow_add-result-2 : goal.overflow_add-result-2
overflow_add-result-2 c = let a = c.args in omega (arith, c.size.ensures, below5 a.rows (omega arith))

pub returns : goal.returns
returns c = rw c.size.ensures
