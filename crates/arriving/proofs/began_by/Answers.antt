-- `began_by` meets its contract: each arm by the encodings that it names. Assumes nothing.
use native.Mathlib.Omega.{arith}
use Rattle.format.proofs.ByEncoding.{plain_rows, nullable-rows}
use Rattle.arriving.proofs.Beginnings as laws
use Rattle.arriving.proofs.began_by.Goals as goal

pub plain_from-requires : goal.plain_from-requires
plain_from-requires c = plain_rows c.in-Plain.is c.requires

pub nullable_from-requires : goal.nullable_from-requires
nullable_from-requires c = nullable-rows c.in-Nullable.is c.requires

pub returns-then-total-lt12 : goal.returns-then-total-lt12
returns-then-total-lt12 c = laws.no_lengths _ _ _ c.in-Dictionary.is c.if-total-lt12.true

pub returns-in-Plain : goal.returns-in-Plain
returns-in-Plain c = laws.begins-plain _ _ _ c.in-Plain.is c.plain_from.ensures

pub returns-in-Nullable : goal.returns-in-Nullable
returns-in-Nullable c = laws.begins-nullable _ _ _ c.in-Nullable.is c.nullable_from.ensures

pub returns-in-RunLength : goal.returns-in-RunLength
returns-in-RunLength c = laws.begins-runs _ _ _ _ c.in-RunLength.in-RunLength-own.keys3 c.runs_from.ensures

pub returns-else-total-lt12 : goal.returns-else-total-lt12
returns-else-total-lt12 c = laws.then-length _ _ _ c.in-Dictionary.is (omega arith)
