-- `string_is_text` meets its contract: an item without a byte above 127 is text, and any other is walked. Assumes nothing.
use mathlib.Core.Path.{sym, ◌∙◌}
use Rattle.encode.specs.Kinds.{blob}
use Rattle.utf8.proofs.Ascii.{ascii-text}
use Rattle.plain.proofs.Numbers.{lengths-least, lengths-good}
use Rattle.plain.proofs.TextItems.{string-found}
use Rattle.plain.proofs.texts.string_is_text.Goals as goal

pub blob_at-item-requires : goal.blob_at-item-requires
blob_at-item-requires c =
    let a = c.args in
    (c.requires.0, c.requires.1, lengths-least blob a.n a.s.now c.requires.2, lengths-good blob a.n a.s.now c.requires.2 a.i c.requires.0)

pub returns-then-is_ascii : goal.returns-then-is_ascii
returns-then-is_ascii c =
    let a = c.args in
    sym (sym (string-found a.n a.s.now a.i c.blob_at-item.ensures.1) ∙ ascii-text _ (sym c.is_ascii.ensures ∙ c.if-is_ascii.true))

pub returns : goal.returns
returns c =
    let a = c.args in
    c.are_text.ensures ∙ string-found a.n a.s.now a.i c.blob_at-item.ensures.1
