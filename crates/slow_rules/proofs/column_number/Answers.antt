-- `column_number` meets its contract: the column, the two limits, then the rules. Assumes nothing.
use native.Mathlib.Omega.{arith}
use Rattle.slow_rules.proofs.Columns as laws
use Rattle.slow_rules.proofs.column_number.Goals as goal

pub returns-in_default : goal.returns-in_default
returns-in_default c = laws.unknown _ _ c.in_default.is

pub returns-then-s-gt-MOST_BYTES : goal.returns-then-s-gt-MOST_BYTES
returns-then-s-gt-MOST_BYTES c = laws.too_long _ _ c.in-Some.is (omega arith)

pub returns-then-most_rows-rows : goal.returns-then-most_rows-rows
returns-then-most_rows-rows c = laws.too_many _ _ c.in-Some.is (omega arith) c.most_rows.ensures (omega arith)

pub returns : goal.returns
returns c =
    laws.then-rules _ _ c.in-Some.is (omega arith) c.most_rows.ensures (omega arith) c.rules_number.ensures
