-- `fill::give_texts` meets its contract: both ways answer the same. Assumes nothing.
use native.Mathlib.Omega.{arith}
use Rattle.fill.proofs.texts.give_texts.Goals as goal

-- src/texts.rt:197:5
pub give_chars-requires : goal.give_chars-requires
give_chars-requires c =
    (c.requires.0, c.roomy_width-w.ensures (omega (arith, c.if-w-eq0.false)))
