-- `shorts::one_if_short` meets its contract: each of its three returns by its law. Assumes nothing.
use native.Mathlib.Omega.{arith}
use borrow.Author.Rules.{rules}
use Rattle.shorts.proofs.Adding.{none-short, one-short, long-not-short}
use Rattle.shorts.proofs.one_if_short.Goals as goal

pub returns-then-byte-eq0 : goal.returns-then-byte-eq0
returns-then-byte-eq0 c = (none-short _ (search rules), omega arith)

pub returns-then-byte-lt128 : goal.returns-then-byte-lt128
returns-then-byte-lt128 c = (one-short _ (search rules) (search rules), omega arith)

pub returns-else-byte-lt128 : goal.returns-else-byte-lt128
returns-else-byte-lt128 c = (long-not-short _ (search rules) (search rules), omega arith)
