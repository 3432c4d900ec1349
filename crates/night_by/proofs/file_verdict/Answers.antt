-- `file_verdict` meets its contract: each return by the law of the tests that led there. Assumes nothing.
use native.Mathlib.Omega.{arith}
use Rattle.night_by.proofs.Openings as openings
use Rattle.night_by.proofs.Verdicts as laws
use Rattle.night_by.proofs.file_verdict.Goals as goal

pub returns-then-file-lt8 : goal.returns-then-file-lt8
returns-then-file-lt8 c = laws.no-descriptor _ (omega arith)

pub returns-then-file-gt-MOST_INPUT : goal.returns-then-file-gt-MOST_INPUT
returns-then-file-gt-MOST_INPUT c = laws.too_long _ (omega arith) (omega arith)

pub compare_lent-requires : goal.compare_lent-requires
compare_lent-requires c =
    let short = laws.block-short c.args.file.now (omega arith) c.block_of-block.ensures in
    (openings.opening-number _ _ c.open_by_number-opening.ensures, openings.opening-reader _ _ c.open_by_number-opening.ensures, omega (arith, short), omega (arith, short))

pub returns : goal.returns
returns c =
    laws.compared _ (omega arith) (omega arith) c.descriptor_at-d.ensures c.block_of-block.ensures c.compare_lent.ensures
