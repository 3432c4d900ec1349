-- `no_runs` meets its contract: each arm by the encodings that it names. Assumes nothing.
use Rattle.arriving.proofs.Beginnings as laws
use borrow.Enum.Refused.{opened}
use Rattle.arriving.proofs.no_runs.Goals as goal

pub returns-in-Dictionary : goal.returns-in-Dictionary
returns-in-Dictionary c = laws.then-entries _ _ _ c.in-Dictionary.is c.plain_from.ensures

pub returns-in-Plain : goal.returns-in-Plain
returns-in-Plain c = laws.no-entries _ _ _ _ (opened c.in-Plain.in-Plain-own.keys2)
