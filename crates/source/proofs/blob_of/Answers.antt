-- `source::blob_of` meets its contract: a null has no bytes, and any other item those that it has as a blob. Assumes nothing.
use native.Mathlib.Omega.{arith}
use Rattle.encode.specs.Kinds.{blob}
use Rattle.source.proofs.AtPlace.{text-none, text-some}
use Rattle.source.proofs.blob_of.Goals as goal

pub returns-then-slot-eq0 : goal.returns-then-slot-eq0
returns-then-slot-eq0 c = let a = c.args in text-none blob a.n a.items.now a.slot c.if-slot-eq0.true

pub blob_at-requires : goal.blob_at-requires
blob_at-requires c = (omega arith, c.requires.1, c.requires.2, c.requires.3 (omega arith))

pub returns : goal.returns
returns c =
    let a = c.args in
    (c.blob_at.ensures.0, text-some blob a.n a.items.now a.slot c.if-slot-eq0.false c.blob_at.ensures.1)
