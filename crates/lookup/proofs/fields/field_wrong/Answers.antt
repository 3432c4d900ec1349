-- `lookup::fields::field_wrong` meets its contract: each arm is the law of its kind. Assumes nothing.
use native.Mathlib.Omega.{arith}
use Rattle.lookup.proofs.There.{fixed-wrong, char-fields, char-wrong, blob-fields, blob-wrong}
use Rattle.lookup.proofs.fields.field_wrong.Goals as goal

pub bounds-lens-i : goal.bounds-lens-i
bounds-lens-i c =
    let h = char-fields _ c.in-Char.is _ _ c.requires.1 in
    omega (arith, c.requires.0)

pub start_in-requires : goal.start_in-requires
start_in-requires c =
    let h = blob-fields c.in-Blob.is _ _ c.requires.1 in
    omega (arith, h, c.requires.0)

pub blob_wrong-requires : goal.blob_wrong-requires
blob_wrong-requires c =
    (c.requires.0, blob-fields c.in-Blob.is _ _ c.requires.1, c.start_in.ensures.0)

pub returns-in-Fixed : goal.returns-in-Fixed
returns-in-Fixed c = fixed-wrong _ c.in-Fixed.is _ _ _ _

pub returns-in-Char : goal.returns-in-Char
returns-in-Char c = char-wrong _ c.in-Char.is _ _ _ _

pub returns-in-Blob : goal.returns-in-Blob
returns-in-Blob c = blob-wrong c.in-Blob.is _ _ _ _ _ _ c.blob_wrong.ensures
