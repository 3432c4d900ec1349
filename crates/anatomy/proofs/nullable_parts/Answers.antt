-- `anatomy::nullable_parts` meets its contract. Assumes nothing.
use Rattle.anatomy.proofs.PartCases as laws
use Rattle.anatomy.proofs.nullable_parts.Goals as goal

-- src/lib.rt:145:1
pub returns : goal.returns
returns c = laws.nullable-parts _ _ _ c.bitmap_len-bitmap.ensures.0
