-- `chars_one_by_one` meets its contract. The loop's invariant: the items that were passed are text, so that those left decide. Assumes nothing.
use mathlib.Core.Path.{sym, ◌∙◌}
use native.Mathlib.Omega.{arith}
use Rattle.plain.specs.Plain.{all_text}
use Rattle.plain.proofs.Items.{item_room}
use Rattle.plain.proofs.TextItems.{left-start, left_step, left-stop, left_end}
use Rattle.plain.proofs.texts.chars_one_by_one.Goals as goal

pub loop-i-init : goal.loop-i-init
loop-i-init c = left-start _ _

pub char_is_text-requires : goal.char_is_text-requires
char_is_text-requires c =
    (omega arith, c.requires.1, item_room _ _ _ _ c.loop-i-test.true c.requires.2)

pub returns-then-not-char_is_text : goal.returns-then-not-char_is_text
unfolding all_text
returns-then-not-char_is_text c = left-stop c.loop-i.invariant (omega arith) (sym c.char_is_text.ensures ∙ c.if-not-char_is_text.true)

pub loop-i-preserved : goal.loop-i-preserved
loop-i-preserved c = left_step c.loop-i.invariant (omega arith) (sym c.char_is_text.ensures ∙ c.if-not-char_is_text.false)

pub returns : goal.returns
unfolding all_text
returns c = left_end c.loop-i.invariant (omega arith)
