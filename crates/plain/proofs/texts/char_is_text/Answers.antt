-- `char_is_text` meets its contract: an item without a byte above 127 is text, and any other is walked up to its first NUL. Assumes nothing.
use mathlib.Core.Path.{sym, ◌∙◌}
use Rattle.plain.proofs.TextItems.{char-ascii, char-walked}
use Rattle.plain.proofs.texts.char_is_text.Goals as goal

pub returns-then-is_ascii : goal.returns-then-is_ascii
returns-then-is_ascii c =
    let a = c.args in
    sym (char-ascii a.w a.s.now a.i (sym c.is_ascii.ensures ∙ c.if-is_ascii.true))

pub returns : goal.returns
returns c =
    let a = c.args in
    char-walked a.w a.s.now a.i _ c.char_len.ensures.0 c.are_text.ensures
