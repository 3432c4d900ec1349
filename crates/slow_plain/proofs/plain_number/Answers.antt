-- `plain_number` meets its contract: the rules of lengths and ends, then text. Assumes nothing.
use mathlib.Core.Path.{sym, ◌∙◌}
use native.Mathlib.Omega.{arith}
use Rattle.plain.proofs.Numbers.{lengths-broken, all-text, not-text}
use Rattle.limits.proofs.Refused.{refusal-some}
use Rattle.slow_plain.proofs.Refused.{passed-on}
use Rattle.slow_plain.proofs.plain_number.Goals as goal

pub returns-in_err-lengths_number : goal.returns-in_err-lengths_number
returns-in_err-lengths_number c =
    passed-on _ _ c.from_residual.ensures.1 ∙ lengths-broken _ _ _ c.in_err-lengths_number.ensures (refusal-some _)

pub is_text-requires : goal.is_text-requires
is_text-requires c = (omega arith, sym c.in_ok-lengths_number.ensures)

pub returns-then-is_text : goal.returns-then-is_text
returns-then-is_text c = sym (all-text _ _ _ (sym c.in_ok-lengths_number.ensures) (sym c.is_text.ensures ∙ c.if-is_text.true))

pub returns : goal.returns
returns c = sym (not-text _ _ _ (sym c.in_ok-lengths_number.ensures) (sym c.is_text.ensures ∙ c.if-is_text.false))
