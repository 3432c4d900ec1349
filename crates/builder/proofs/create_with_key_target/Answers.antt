-- `builder::create_with_key_target` meets its contract: each return by the law of the arm that led there. Assumes nothing.
use Rattle.builder.proofs.Answers as laws
use Rattle.builder.proofs.create_with_key_target.Goals as goal

pub returns-in-None : goal.returns-in-None
returns-in-None c =
    let a = c.args in
    laws.refused a.kind a.encoding a.width a.target a.keytarget c.column_of.ensures c.in-None.is

pub returns-in-Some : goal.returns-in-Some
returns-in-Some c =
    let a = c.args in
    laws.new a.kind a.encoding a.width a.target a.keytarget c.column_of.ensures c.in-Some.is c.new.ensures
