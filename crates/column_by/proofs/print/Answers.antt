-- `print` meets its contract: its tests are those of `column_asked`. Assumes nothing.
use native.Mathlib.Omega.{arith}
use Rattle.std.specs.Prelude.{None}
use mathlib.Core.Path.{◌≡◌, sym, ◌∙◌}
use Rattle.column_by.specs.Asked.{named_number}
use Rattle.column_by.proofs.Listed as laws
use Rattle.column_by.proofs.print.Goals as goal

pub returns-then-file-gt-MOST_INPUT : goal.returns-then-file-gt-MOST_INPUT
returns-then-file-gt-MOST_INPUT c = c.refuse.ensures ∙ laws.file-long _ _ (omega arith)

pub returns-in_default : goal.returns-in_default
unfolding named_number
returns-in_default c =
    let none : c.column_in.result ≡ None = cc in
    laws.named-as _ _ (omega arith) (sym none ∙ c.column_in.ensures) c.refuse-in_default.ensures

pub returns : goal.returns
unfolding named_number
returns c =
    laws.named-as _ _ (omega arith) (sym c.in-Some.is ∙ c.column_in.ensures) c.print_column.ensures
