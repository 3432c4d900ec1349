-- `rules_number` meets its contract: each arm gives the number of its encoding's rules. Assumes nothing.
use Rattle.format.specs.declared.Encoding.TheVariants.{Plain, Nullable, RunLength, RunLengthNullable, Dictionary}
use Rattle.format.specs.Opening.{rules_of}
use Rattle.format.specs.Found.{inner_number}
use Rattle.format.proofs.ByEncoding.{plain_rows, nullable-rows}
use Rattle.slow_rules.proofs.Columns.{rules-found}
use Rattle.slow_rules.proofs.rules_number.Goals as goal

pub plain_number-requires : goal.plain_number-requires
plain_number-requires c = plain_rows c.in-Plain.is c.requires.1

pub nullable_number-requires : goal.nullable_number-requires
nullable_number-requires c = nullable-rows c.in-Nullable.is c.requires.1

pub returns-in-Plain : goal.returns-in-Plain
unfolding rules_of
returns-in-Plain c = rules-found _ _ _ Plain c.in-Plain.is c.plain_number.ensures

pub returns-in-Nullable : goal.returns-in-Nullable
unfolding rules_of
returns-in-Nullable c = rules-found _ _ _ Nullable c.in-Nullable.is c.nullable_number.ensures

pub returns-in-RunLength : goal.returns-in-RunLength
unfolding rules_of inner_number
returns-in-RunLength c = rules-found _ _ _ RunLength c.in-RunLength.is c.run_length_number.ensures

pub returns-in-RunLengthNullable : goal.returns-in-RunLengthNullable
unfolding rules_of inner_number
returns-in-RunLengthNullable c = rules-found _ _ _ RunLengthNullable c.in-RunLengthNullable.is c.run_length_number-in-RunLengthNullable.ensures

pub returns-in-Dictionary : goal.returns-in-Dictionary
unfolding rules_of
returns-in-Dictionary c = rules-found _ _ _ Dictionary c.in-Dictionary.is c.dictionary_number.ensures
