-- `most_rows` meets its contract: each arm by the encodings that it names. Assumes nothing.
use Rattle.format.proofs.Pairs as laws
use borrow.Enum.Refused.{opened}
use Rattle.slow_rules.proofs.most_rows.Goals as goal

pub returns-in-Plain : goal.returns-in-Plain
returns-in-Plain c = laws.few-rows _ c.in-Plain.in-Plain-own.keys1

pub returns-in-RunLength : goal.returns-in-RunLength
returns-in-RunLength c = laws.many-rows _ (opened c.in-RunLength.in-RunLength-own.keys2)
