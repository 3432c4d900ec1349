-- `began` meets its contract: the two limits, then what the encoding begins with. Assumes nothing.
use native.Mathlib.Omega.{arith}
use Rattle.arriving.proofs.Beginnings as laws
use Rattle.arriving.proofs.began.Goals as goal

pub returns-then-total-gt-MOST_BYTES : goal.returns-then-total-gt-MOST_BYTES
returns-then-total-gt-MOST_BYTES c = laws.too_long _ _ _ _ (omega arith)

pub returns-then-most_rows-n : goal.returns-then-most_rows-n
returns-then-most_rows-n c = laws.too_many _ _ _ _ (omega arith) c.most_rows.ensures c.if-most_rows-n.true

pub returns : goal.returns
returns c = laws.within _ _ _ _ (omega arith) c.most_rows.ensures (omega arith) c.began_by.ensures
