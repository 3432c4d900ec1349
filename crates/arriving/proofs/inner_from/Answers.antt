-- `inner_from` meets its contract: each arm by the encodings that it names. Assumes nothing.
use Rattle.arriving.proofs.Beginnings as laws
use Rattle.arriving.proofs.inner_from.Goals as goal

pub returns-then-inner-runs : goal.returns-then-inner-runs
returns-then-inner-runs c = laws.keys-wrong _ _ _ _ _ c.in-Dictionary.is c.if-inner-runs.true

pub returns-in-Plain : goal.returns-in-Plain
returns-in-Plain c = laws.no_inner _ _ _ _ _ _ c.in-Plain.in-Plain-own.keys1

pub returns-in-RunLength : goal.returns-in-RunLength
returns-in-RunLength c = laws.inner-plain _ _ _ _ _ c.in-RunLength.is c.plain_from.ensures

pub returns-in-RunLengthNullable : goal.returns-in-RunLengthNullable
returns-in-RunLengthNullable c = laws.inner-nullable _ _ _ _ _ c.in-RunLengthNullable.is c.nullable_from.ensures

pub returns-else-inner-runs : goal.returns-else-inner-runs
returns-else-inner-runs c = laws.keys-right _ _ _ _ _ c.in-Dictionary.is c.if-inner-runs.false c.keys_from.ensures
