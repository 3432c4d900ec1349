-- `needs::is_wrong` meets its contract: each return by the law of the tests and arms that led there. Assumes nothing.
use Rattle.needs.specs.Needs.{record_wrong}
use Rattle.needs.proofs.Encodings as encodings
use Rattle.needs.proofs.is_wrong.Goals as goal

pub returns-in-Plain : goal.returns-in-Plain
returns-in-Plain c = let a = c.args in encodings.told (λ g. record_wrong a.kind g a.c) c.in-Plain.is c.rows_wrong.ensures

pub returns-in-Nullable : goal.returns-in-Nullable
returns-in-Nullable c = let a = c.args in encodings.told (λ g. record_wrong a.kind g a.c) c.in-Nullable.is c.rows_wrong-in-Nullable.ensures

pub returns-in-RunLength : goal.returns-in-RunLength
returns-in-RunLength c = let a = c.args in encodings.told (λ g. record_wrong a.kind g a.c) c.in-RunLength.is c.runs_wrong.ensures

pub returns-in-RunLengthNullable : goal.returns-in-RunLengthNullable
returns-in-RunLengthNullable c = let a = c.args in encodings.told (λ g. record_wrong a.kind g a.c) c.in-RunLengthNullable.is c.runs_wrong-in-RunLengthNullable.ensures

pub returns-in-Dictionary : goal.returns-in-Dictionary
returns-in-Dictionary c = let a = c.args in encodings.told (λ g. record_wrong a.kind g a.c) c.in-Dictionary.is c.keys_wrong.ensures
