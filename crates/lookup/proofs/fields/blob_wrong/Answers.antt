-- `lookup::fields::blob_wrong` meets its contract: each return by the law of the tests and arms that led there. Assumes nothing.
use Rattle.lookup.proofs.FieldTests as laws
use Rattle.lookup.proofs.fields.blob_wrong.Goals as goal

pub returns-then-end-from : goal.returns-then-end-from
returns-then-end-from c =
    let a = c.args in
    laws.wrong-falls a.n a.len a.ends.now a.i c.end_in-end.ensures.0 c.requires.2 c.if-end-from.true

pub returns-then-len-end : goal.returns-then-len-end
returns-then-len-end c =
    let a = c.args in
    laws.wrong-passes a.n a.len a.ends.now a.i c.end_in-end.ensures.0 c.requires.2 c.if-end-from.false c.if-len-end.true

-- the end is within the items: what is left to ask of it
pub returns-then-i-n : goal.returns-then-i-n
returns-then-i-n c =
    let a = c.args in
    laws.wrong-last a.n a.len a.ends.now a.i c.end_in-end.ensures.0 c.requires.2 c.if-end-from.false c.if-len-end.false c.if-i-n.true

pub returns : goal.returns
returns c =
    let a = c.args in
    laws.wrong-not a.n a.len a.ends.now a.i c.end_in-end.ensures.0 c.requires.2 c.if-end-from.false c.if-len-end.false c.if-i-n.false
