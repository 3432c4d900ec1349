-- `sheet::check` meets its contract: each return by the law of the tests that led there. Assumes nothing.
use native.Mathlib.Omega.{arith}
use Rattle.sheet.proofs.Numbers as laws
use Rattle.sheet.proofs.check.Goals as goal

pub returns-then-n-gt-MOST_FILE : goal.returns-then-n-gt-MOST_FILE
returns-then-n-gt-MOST_FILE c = laws.too_long _ _ (omega arith)

pub returns-then-n-eq0 : goal.returns-then-n-eq0
returns-then-n-eq0 c = laws.empty _ _ (omega arith) (omega arith)

pub overflow_cast-columns : goal.overflow_cast-columns
overflow_cast-columns c = omega (arith, c.type_inv.file 0)

pub returns-then-columns-gt-MOST_COLUMNS : goal.returns-then-columns-gt-MOST_COLUMNS
returns-then-columns-gt-MOST_COLUMNS c = laws.too_many _ _ (omega arith) (omega arith) (omega arith)

pub returns-then-n-end : goal.returns-then-n-end
returns-then-n-end c = laws.directory-cut _ _ (omega arith) (omega arith) (omega arith) (omega arith)

pub returns-then-columns-j : goal.returns-then-columns-j
returns-then-columns-j c = laws.no-column _ _ (omega arith) (omega arith) (omega arith) (omega arith) (omega arith)

pub returns-then-e-end : goal.returns-then-e-end
returns-then-e-end c =
    let e = c.entry_at-e.ensures.descriptor_value in
    laws.in-directory _ _ (omega arith) (omega arith) (omega arith) (omega arith) (omega arith) (omega (arith, e.1))

pub returns-then-n-e : goal.returns-then-n-e
returns-then-n-e c =
    let e = c.entry_at-e.ensures.descriptor_value in
    laws.behind-file _ _ (omega arith) (omega arith) (omega arith) (omega arith) (omega arith) (omega (arith, e.1)) (omega (arith, e.1, e.2))

pub returns : goal.returns
returns c =
    let e = c.entry_at-e.ensures.descriptor_value in
    laws.named _ _ (omega arith) (omega arith) (omega arith) (omega arith) (omega arith) (omega (arith, e.1)) (omega (arith, e.1, e.2))
