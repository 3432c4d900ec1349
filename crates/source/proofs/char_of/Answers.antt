-- `source::char_of` meets its contract: a null has no bytes, and any other item those that it has as a char. Assumes nothing.
use Rattle.encode.specs.declared.Kind.TheVariants.{Char}
use Rattle.source.proofs.AtPlace.{text-none, text-some}
use Rattle.source.proofs.char_of.Goals as goal

pub returns-then-slot-eq0 : goal.returns-then-slot-eq0
returns-then-slot-eq0 c = let a = c.args in text-none (Char a.w) a.n a.items.now a.slot c.if-slot-eq0.true

pub returns : goal.returns
returns c =
    let a = c.args in
    (c.char_at.ensures.0, text-some (Char a.w) a.n a.items.now a.slot c.if-slot-eq0.false c.char_at.ensures.1)
