-- `matching::same_bool` meets its contract: the bytes that it reads are both zero, or neither is. Assumes nothing.
use Rattle.matching.proofs.Words.{bools-same}
use Rattle.matching.proofs.same_bool.Goals as goal

pub returns : goal.returns
returns c =
    let a = c.args in
    bools-same a.a.now a.b.now a.k c.requires.0 c.requires.1
