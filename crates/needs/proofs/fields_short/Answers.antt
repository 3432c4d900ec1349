-- `needs::fields_short` meets its contract: each return by the law of the tests and arms that led there. Assumes nothing.
use Rattle.needs.proofs.Short as short
use Rattle.needs.proofs.fields_short.Goals as goal

pub returns-in-Fixed : goal.returns-in-Fixed
returns-in-Fixed c = short.fixed-fits _ _ _ _ c.in-Fixed.is

pub returns-in-Char : goal.returns-in-Char
returns-in-Char c = short.lens-short _ _ _ _ c.in-Char.is

pub returns-in-Blob : goal.returns-in-Blob
returns-in-Blob c = short.ends-short _ _ _ c.in-Blob.is
