-- `open` meets its contract: each return by the law of the tests that led there. Assumes nothing.
use native.Mathlib.Omega.{arith}
use Rattle.text.proofs.Inputs as laws
use Rattle.text.proofs.opening.open.Goals as goal

pub returns-then-input-lt8 : goal.returns-then-input-lt8
returns-then-input-lt8 c = laws.input-short _ (omega arith)

pub returns-then-input-gt-MOST_INPUT : goal.returns-then-input-gt-MOST_INPUT
returns-then-input-gt-MOST_INPUT c = laws.input-long _ (omega arith) (omega arith)

pub returns : goal.returns
returns c =
    let s = c.args.input.now in
    laws.input-opened s (omega arith) (omega arith) c.unpack-d.ensures c.open_by.ensures
