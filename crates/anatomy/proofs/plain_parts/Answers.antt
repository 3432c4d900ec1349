-- `anatomy::plain_parts` meets its contract. Assumes nothing.
use Rattle.anatomy.proofs.PartCases as laws
use Rattle.anatomy.proofs.plain_parts.Goals as goal

-- src/lib.rt:126:1
pub returns : goal.returns
returns c = laws.plain-parts _ _ _
