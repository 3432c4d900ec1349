-- `print` meets its contract: what comes back is told by the opening alone, since no row of a block that was opened is refused. Assumes nothing.
use mathlib.Core.Path.{ap, ◌∙◌}
use Rattle.printing.specs.Printing.{refusal_of, listed}
use Rattle.printing.proofs.RowsListed as laws
use Rattle.printing.proofs.print.Goals as goal

pub returns-in-Ok : goal.returns-in-Ok
unfolding refusal_of
returns-in-Ok c =
    let s = c.args.input.now in
    let q = c.in-Ok.ensures in
    c.print_rows.ensures ∙ ap (listed _) c.block_of.ensures ∙ laws.input-listed s _ q ∙ ap refusal_of q

pub returns-in-Err : goal.returns-in-Err
unfolding refusal_of
returns-in-Err c = c.from-number.ensures ∙ ap refusal_of c.in-Err.ensures
