-- `anatomy::take_apart` meets its contract: each arm is the function of its encoding. Assumes nothing.
use Rattle.anatomy.proofs.RightNumbers as right
use Rattle.anatomy.proofs.PartCases as laws
use Rattle.anatomy.proofs.take_apart.Goals as goal

pub nullable_parts-requires : goal.nullable_parts-requires
nullable_parts-requires c = right.nullable-asks _ _ _ _ _ c.requires c.in-Nullable.is

pub run_parts-requires : goal.run_parts-requires
run_parts-requires c = right.runs-ask _ _ _ _ _ c.requires c.in-RunLength.is

pub null_run_parts-requires : goal.null_run_parts-requires
null_run_parts-requires c = right.null-runs-ask _ _ _ _ _ c.requires c.in-RunLengthNullable.is

pub key_parts-requires : goal.key_parts-requires
key_parts-requires c = right.keys-ask _ _ _ _ _ c.requires c.in-Dictionary.is

pub returns-in-Plain : goal.returns-in-Plain
returns-in-Plain c = laws.as_plain _ _ _ _ _ c.in-Plain.is c.plain_parts.ensures

pub returns-in-Nullable : goal.returns-in-Nullable
returns-in-Nullable c = laws.as-nullable _ _ _ _ _ c.in-Nullable.is c.nullable_parts.ensures

pub returns-in-RunLength : goal.returns-in-RunLength
returns-in-RunLength c = laws.as-runs _ _ _ _ _ c.in-RunLength.is c.run_parts.ensures

pub returns-in-RunLengthNullable : goal.returns-in-RunLengthNullable
returns-in-RunLengthNullable c = laws.as-null-runs _ _ _ _ _ c.in-RunLengthNullable.is c.null_run_parts.ensures

pub returns-in-Dictionary : goal.returns-in-Dictionary
returns-in-Dictionary c = laws.as-keys _ _ _ _ _ c.in-Dictionary.is c.key_parts.ensures
