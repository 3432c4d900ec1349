-- `strings_are_text` meets its contract. The loop's invariant: the items that were passed are text, so that those left decide. Assumes nothing.
use mathlib.Core.Path.{sym, ap, ◌∙◌}
use native.Mathlib.Omega.{arith}
use Rattle.encode.specs.Kinds.{blob}
use Rattle.utf8.specs.Utf8.{is_text}
use Rattle.plain.specs.Plain.{all_text}
use Rattle.plain.proofs.Numbers.{lengths-least, lengths-good}
use Rattle.plain.proofs.TextItems.{left-start, left_step, left-stop, left_end}
use Rattle.slow_plain.proofs.strings_are_text.Goals as goal

pub loop-i-init : goal.loop-i-init
loop-i-init c = left-start _ _

pub blob_at-item-requires : goal.blob_at-item-requires
blob_at-item-requires c =
    let a = c.args in
    let i = c.loop-i.i in
    (omega arith, c.requires.0, lengths-least blob a.n a.s.now c.requires.1, lengths-good blob a.n a.s.now c.requires.1 i (omega arith))

pub is_text-requires : goal.is_text-requires
is_text-requires c = c.blob_at-item.ensures.0

pub returns-then-not-is_text : goal.returns-then-not-is_text
unfolding all_text
returns-then-not-is_text c =
    left-stop c.loop-i.invariant (omega arith) (sym (c.is_text.ensures ∙ ap is_text c.blob_at-item.ensures.1) ∙ c.if-not-is_text.true)

pub loop-i-preserved : goal.loop-i-preserved
loop-i-preserved c =
    left_step c.loop-i.invariant (omega arith) (sym (c.is_text.ensures ∙ ap is_text c.blob_at-item.ensures.1) ∙ c.if-not-is_text.false)

pub returns : goal.returns
unfolding all_text
returns c = left_end c.loop-i.invariant (omega arith)
