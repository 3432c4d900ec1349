-- `slots::row_fits` meets its contract: each return is the law of a null or of the kind that was found. Assumes nothing.
use Rattle.slots.proofs.Items as laws
use Rattle.slots.proofs.row_fits.Goals as goal

pub returns-then-not-present : goal.returns-then-not-present
returns-then-not-present c = laws.fits-none _ _ _ _ c.if-not-present.true

pub returns-in-Fixed : goal.returns-in-Fixed
returns-in-Fixed c =
    laws.fits-fixed _ _ _ _ _ c.in-Fixed.is c.if-not-present.false c.ranges.value c.takes.ensures

pub returns-in-Char : goal.returns-in-Char
returns-in-Char c =
    laws.fits-char _ _ _ _ c.in-Char.is c.if-not-present.false c.char_fits.ensures

pub returns-in-Blob : goal.returns-in-Blob
returns-in-Blob c =
    laws.fits-blob _ _ _ _ c.in-Blob.is c.if-not-present.false c.blob_fits.ensures
