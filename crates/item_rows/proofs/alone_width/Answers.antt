-- `item_rows::alone_width` meets its contract: 0 says nothing. Assumes nothing.
use native.Mathlib.Omega.{arith}
use Rattle.item_rows.proofs.alone_width.Goals as goal

-- src/lib.rt:25:9
pub returns-then-source : goal.returns-then-source
returns-then-source c = λ l. absurd (omega arith)

-- src/lib.rt:29:9
pub returns-in_default : goal.returns-in_default
returns-in_default c = λ l. absurd (omega arith)

-- src/lib.rt:33:9
pub returns-in_default-kind : goal.returns-in_default-kind
returns-in_default-kind c = λ l. absurd (omega arith)
