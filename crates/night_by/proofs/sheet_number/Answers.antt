-- `sheet_number` meets its contract: what is refused for another reason than its directory has one. Assumes nothing.
use native.Mathlib.Omega.{arith}
use Rattle.night_by.proofs.Verdicts as laws
use Rattle.night_by.proofs.sheet_number.Goals as goal

pub returns-then-found-eq-NO_COLUMN : goal.returns-then-found-eq-NO_COLUMN
returns-then-found-eq-NO_COLUMN c = λ z. laws.directory-there _ _ (omega arith) c.open-found.ensures (λ e. omega (arith, e))

pub returns : goal.returns
returns c = λ z. laws.directory-there _ _ (omega arith) c.open-found.ensures (λ e. omega (arith, e))
