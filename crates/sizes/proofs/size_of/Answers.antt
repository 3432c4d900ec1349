-- `sizes::size_of` meets its contract: each return by the law of the tests and arms that led there. Assumes nothing.
use Rattle.sizes.proofs.Estimates as laws
use native.Mathlib.Omega.{arith}
use Rattle.needs.proofs.Encodings.{coded-runs, coded-keys}
use Rattle.needs.proofs.Wrong.{right}
use Rattle.sizes.proofs.size_of.Goals as goal

pub inner_size-inner-requires : goal.inner_size-inner-requires
inner_size-inner-requires c = let w = right _ _ _ c.requires in let g = w.bytes in (w.few.stored, omega arith)

pub run_size-requires : goal.run_size-requires
run_size-requires c = ((right _ _ _ c.requires).few.runs (coded-runs _ c.in-RunLength.in-RunLength-own.keys2), c.inner_size-inner.ensures.1)

pub overflow_mul-c : goal.overflow_mul-c
overflow_mul-c c = let f = (right _ _ _ c.requires).few.runs (coded-keys _ c.in-Dictionary.is) in omega arith

pub run_size-requires-in-Dictionary : goal.run_size-requires-in-Dictionary
run_size-requires-in-Dictionary c = let f = (right _ _ _ c.requires).few.runs (coded-keys _ c.in-Dictionary.is) in (f, omega arith)

pub returns-in-Plain : goal.returns-in-Plain
returns-in-Plain c = laws.size-inner _ _ _ c.inner_size-inner.ensures.0 c.in-Plain.in-Plain-own.keys1

pub returns-in-RunLength : goal.returns-in-RunLength
returns-in-RunLength c = laws.size_runs _ _ _ c.inner_size-inner.ensures.0 c.in-RunLength.in-RunLength-own.keys2 c.run_size.ensures.0

pub returns-in-Dictionary : goal.returns-in-Dictionary
returns-in-Dictionary c = laws.size-keys _ _ _ c.inner_size-inner.ensures.0 c.in-Dictionary.is c.run_size-in-Dictionary.ensures.0
