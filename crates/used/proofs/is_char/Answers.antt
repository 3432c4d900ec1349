-- `used::is_char` meets its contract: the byte behind, if there is one, and then the bytes decide. Assumes nothing.
use Rattle.used.proofs.Cuts.{char-other, char-short, char-whole}
use Rattle.used.proofs.is_char.Goals.{then-len-w+else-items-at-ne0, else-len-w}
use Rattle.used.proofs.is_char.Goals as goal

pub returns-then-items-at-ne0 : goal.returns-then-items-at-ne0
returns-then-items-at-ne0 c =
    let a = c.args in
    char-other c.requires.3 a.items.now a.i c.if-len-w.true c.if-items-at-ne0.true

pub returns : goal.returns
returns c =
    let a = c.args in
    elim c.if-len-w.branch [
      | then-len-w+else-items-at-ne0 w ↦ char-short c.requires.3 a.items.now a.i c.same_part.ensures w.if-len-w.true w.if-items-at-ne0.false
      | else-len-w w ↦ char-whole c.requires.3 a.items.now a.i c.same_part.ensures w.if-len-w.false c.requires.2
    ]
