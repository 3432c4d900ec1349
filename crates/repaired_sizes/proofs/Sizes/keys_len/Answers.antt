-- `repaired_sizes::Sizes::keys_len` meets its contract. Assumes nothing.
use borrow.Author.Tests.{eq-eqb, ne_eqb}
use Rattle.repaired_sizes.specs.Sizes.{keys_long}
use Rattle.repaired_sizes.proofs.Sizes.keys_len.Goals as goal

pub returns-then-self-eq0 : goal.returns-then-self-eq0
unfolding keys_long
returns-then-self-eq0 c = rw (eq-eqb _ _ c.if-self-eq0.true)

pub returns : goal.returns
unfolding keys_long
returns c = rw (ne_eqb _ _ c.if-self-eq0.false)
