-- `step` meets its contract: the tables of the code are those of the rule. Assumes nothing.
use mathlib.Core.Path.{refl}
use borrow.Author.Rules.{rules}
use Rattle.utf8.specs.States.{class_table, move_table}
use Rattle.utf8.proofs.step.Goals as goal

pub moved-requires : goal.moved-requires
unfolding class_table move_table
moved-requires c = (refl, refl, search rules)
