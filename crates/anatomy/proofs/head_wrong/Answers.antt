-- `anatomy::head_wrong` meets its contract: each return by the encodings of its arm. Assumes nothing.
use mathlib.Core.Path.{◌∙◌}
use Rattle.anatomy.proofs.NumberTests as laws
use Rattle.anatomy.proofs.head_wrong.Goals as goal

-- src/lib.rt:118:17
pub returns-then-runs_wrong : goal.returns-then-runs_wrong
returns-then-runs_wrong c = laws.keys-wrong _ _ _ c.in-Dictionary.is c.runs_wrong-in-Dictionary.ensures c.if-runs_wrong.true

-- src/lib.rt:110:1
pub returns-in-Plain : goal.returns-in-Plain
returns-in-Plain c = laws.no-head _ _ _ c.in-Plain.in-Plain-own.keys1

-- src/lib.rt:110:1
pub returns-in-RunLength : goal.returns-in-RunLength
returns-in-RunLength c = c.runs_wrong.ensures ∙ laws.runs-head _ _ _ c.in-RunLength.in-RunLength-own.keys2

-- src/lib.rt:110:1
pub returns-else-runs_wrong : goal.returns-else-runs_wrong
returns-else-runs_wrong c =
    laws.keys-entries _ _ _ c.in-Dictionary.is c.runs_wrong-in-Dictionary.ensures c.if-runs_wrong.false
