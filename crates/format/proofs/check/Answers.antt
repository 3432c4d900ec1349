-- `format::check` meets its contract: each arm is the law of its encoding. Assumes nothing.
use Rattle.format.proofs.ByEncoding as laws
use Rattle.format.proofs.check.Goals as goal

pub check-requires : goal.check-requires
check-requires c = laws.plain_rows c.in-Plain.is c.requires.1

pub check-requires-in-Nullable : goal.check-requires-in-Nullable
check-requires-in-Nullable c = laws.nullable-rows c.in-Nullable.is c.requires.1

pub returns-in-Plain : goal.returns-in-Plain
returns-in-Plain c = laws.plain-found _ _ _ c.in-Plain.is c.check.ensures c.bare.ensures

pub returns-in-Nullable : goal.returns-in-Nullable
returns-in-Nullable c = laws.nullable-found _ _ _ c.in-Nullable.is c.check-in-Nullable.ensures c.bare-in-Nullable.ensures

pub returns-in-RunLength : goal.returns-in-RunLength
returns-in-RunLength c = laws.run-length-found _ _ _ c.in-RunLength.is c.check_runs.ensures

pub returns-in-RunLengthNullable : goal.returns-in-RunLengthNullable
returns-in-RunLengthNullable c = laws.run-length-nullable-found _ _ _ c.in-RunLengthNullable.is c.check_runs-in-RunLengthNullable.ensures

pub returns-in-Dictionary : goal.returns-in-Dictionary
returns-in-Dictionary c = laws.dictionary-found _ _ _ c.in-Dictionary.is c.check_dictionary.ensures
