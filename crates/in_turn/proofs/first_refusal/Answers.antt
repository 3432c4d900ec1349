-- `in_turn::first_refusal` meets its contract: each of its two returns by its law. Assumes nothing.
use borrow.Author.Rules.{rules}
use Rattle.in_turn.proofs.Outcomes.{first-opened, first-given}
use Rattle.in_turn.proofs.first_refusal.Goals as goal

pub returns-then-opened-ne0 : goal.returns-then-opened-ne0
returns-then-opened-ne0 c = first-opened _ _ (search rules)

pub returns : goal.returns
returns c = first-given _ _ (search rules)
