-- `block::Reader::wrong` meets its contract: each return by the law of the tests that led there. Assumes nothing.
use native.Mathlib.Omega.{arith}
use Rattle.block.proofs.RecordTests as laws
use Rattle.block.proofs.Reader.wrong.Goals as goal

pub returns-then-self-gt-MOST_BYTES : goal.returns-then-self-gt-MOST_BYTES
returns-then-self-gt-MOST_BYTES c = laws.wrong-length _ _ _ (omega arith)

pub returns-then-most_rows-self : goal.returns-then-most_rows-self
returns-then-most_rows-self c = laws.wrong-rows _ _ _ (omega arith) c.most_rows.ensures (omega arith)

pub returns-then-self : goal.returns-then-self
returns-then-self c = laws.wrong-place _ _ _ (omega arith) c.most_rows.ensures (omega arith) (omega arith)

pub returns-then-self-2 : goal.returns-then-self-2
returns-then-self-2 c =
    laws.wrong-nulls _ _ _ (omega arith) c.most_rows.ensures (omega arith) (omega arith) (omega arith)

pub returns-then-head_wrong : goal.returns-then-head_wrong
returns-then-head_wrong c =
    laws.wrong-head
    _
    _
    _
    (omega arith)
    c.most_rows.ensures
    (omega arith)
    (omega arith)
    (omega arith)
    c.head_wrong.ensures
    c.if-head_wrong.true

pub part_outside-requires : goal.part_outside-requires
part_outside-requires c =
    let a = c.args in
    laws.parts-ask a.kind a.encoding a.self (omega arith) c.most_rows.ensures (omega arith) c.head_wrong.ensures c.if-head_wrong.false

pub returns : goal.returns
returns c =
    laws.wrong-parts
    _
    _
    _
    (omega arith)
    c.most_rows.ensures
    (omega arith)
    (omega arith)
    (omega arith)
    c.head_wrong.ensures
    c.if-head_wrong.false
    c.part_outside.ensures
