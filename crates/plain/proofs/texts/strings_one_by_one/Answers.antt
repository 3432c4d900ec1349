-- `strings_one_by_one` meets its contract. The loop's invariant: the items that were passed are text, so that those left decide. Assumes nothing.
use mathlib.Core.Path.{sym, ◌∙◌}
use native.Mathlib.Omega.{arith}
use Rattle.plain.specs.Plain.{all_text}
use Rattle.plain.proofs.TextItems.{left-start, left_step, left-stop, left_end}
use Rattle.plain.proofs.texts.strings_one_by_one.Goals as goal

pub loop-i-init : goal.loop-i-init
loop-i-init c = left-start _ _

pub returns-then-not-string_is_text : goal.returns-then-not-string_is_text
unfolding all_text
returns-then-not-string_is_text c = left-stop c.loop-i.invariant (omega arith) (sym c.string_is_text.ensures ∙ c.if-not-string_is_text.true)

pub loop-i-preserved : goal.loop-i-preserved
loop-i-preserved c = left_step c.loop-i.invariant (omega arith) (sym c.string_is_text.ensures ∙ c.if-not-string_is_text.false)

pub returns : goal.returns
unfolding all_text
returns c = left_end c.loop-i.invariant (omega arith)
