-- `repaired_sizes::Sizes::block_len` meets its contract. Assumes nothing.
use native.Mathlib.Omega.{arith}
use Rattle.repaired_sizes.specs.Sizes.{block_long}
use Rattle.repaired_sizes.proofs.Long.{keys-most, entries-most}
use Rattle.repaired_sizes.proofs.Sizes.block_len.Goals as goal

pub overflow_add-result : goal.overflow_add-result
overflow_add-result c = omega (arith, keys-most c.args.self)

pub overflow_add-result-2 : goal.overflow_add-result-2
overflow_add-result-2 c = let a = c.args in omega (arith, keys-most a.self, entries-most a.kind a.self)

pub returns : goal.returns
unfolding block_long
returns c = omega arith
