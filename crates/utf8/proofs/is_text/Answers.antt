-- `is_text` meets its contract: bytes below 128 are text, and the tables of the code are those of the rule. Assumes nothing.
use mathlib.Core.Path.{refl, sym, ◌∙◌}
use borrow.Author.Rules.{rules}
use Rattle.utf8.specs.States.{class_table, move_table}
use Rattle.utf8.proofs.Ascii.{ascii-text}
use Rattle.utf8.proofs.is_text.Goals as goal

pub returns-then-is_ascii : goal.returns-then-is_ascii
returns-then-is_ascii c = sym (ascii-text _ (sym c.is_ascii.ensures ∙ c.if-is_ascii.true))

pub is_text_by-requires : goal.is_text_by-requires
unfolding class_table move_table
is_text_by-requires c = (refl, refl, search rules)
