-- `chars_are_text` meets its contract: a column without a byte above 127 is text, and any other is looked at item by item. Assumes nothing.
use mathlib.Core.Path.{refl, sym, ◌∙◌}
use Rattle.utf8.specs.States.{class_table, move_table}
use Rattle.plain.proofs.TextItems.{chars_ascii}
use Rattle.plain.proofs.texts.chars_are_text.Goals as goal

pub returns-then-is_ascii : goal.returns-then-is_ascii
returns-then-is_ascii c =
    let a = c.args in
    sym (chars_ascii a.w a.s.now a.n (sym c.is_ascii.ensures ∙ c.if-is_ascii.true))

-- the tables are those of the walk
pub invariant_of-tables : goal.invariant_of-tables
unfolding class_table move_table
invariant_of-tables c = record { are = (refl, refl) }
