-- `column_of` meets its contract: the kind that was found, with its encoding. Assumes nothing.
use mathlib.Core.Path.{◌∙◌}
use Rattle.format.proofs.Pairs as laws
use Rattle.slow_rules.proofs.column_of.Goals as goal

pub returns-in_err-kind : goal.returns-in_err-kind
returns-in_err-kind c = c.from_residual.ensures ∙ laws.no_kind _ _ _ c.in_err-kind.ensures

pub returns-in_err-encoding : goal.returns-in_err-encoding
returns-in_err-encoding c = c.from_residual-in_err-encoding.ensures ∙ laws.none-with _ _ _ c.in_ok-kind.ensures c.in_err-encoding.ensures

pub returns : goal.returns
returns c = laws.some-with _ _ _ c.in_ok-kind.ensures c.in_ok-encoding.ensures
