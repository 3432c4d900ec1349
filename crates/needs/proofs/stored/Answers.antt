-- `needs::stored` meets its contract: each return by the law of the tests and arms that led there. Assumes nothing.
use Rattle.needs.proofs.Encodings as encodings
use Rattle.needs.proofs.stored.Goals as goal

pub returns-in-Plain : goal.returns-in-Plain
returns-in-Plain c = encodings.stored-rows _ _ c.in-Plain.in-Plain-own.keys1

pub returns-in-RunLength : goal.returns-in-RunLength
returns-in-RunLength c = encodings.stored-runs _ _ c.in-RunLength.in-RunLength-own.keys2

pub returns-in-Dictionary : goal.returns-in-Dictionary
returns-in-Dictionary c = encodings.stored-entries _ _ c.in-Dictionary.is
