-- `builder::held_counts` meets its contract: each return by the law of the tests and arms that led there. Assumes nothing.
use native.Mathlib.Omega.{arith}
use mathlib.Core.Path.{sym, ◌∙◌}
use Rattle.needs.proofs.Encodings.{cond-then, cond-else}
use Rattle.builder.proofs.finishing.held_counts.Goals as goal

pub counts_len-requires : goal.counts_len-requires
counts_len-requires c = c.requires (sym c.is_coded.ensures ∙ c.if-is_coded.true)

pub returns-then-is_coded : goal.returns-then-is_coded
returns-then-is_coded c = (c.counts_len.ensures.0 ∙ cond-then _ 0 c.is_coded.ensures c.if-is_coded.true, c.counts_len.ensures.1)

pub returns : goal.returns
returns c = (cond-else _ 0 c.is_coded.ensures c.if-is_coded.false, omega arith)
