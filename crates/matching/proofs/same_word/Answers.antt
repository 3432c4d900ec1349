-- `matching::same_word` meets its contract: the numbers of the bytes that it reads. Assumes nothing.
use Rattle.matching.proofs.Words.{words-read}
use Rattle.matching.proofs.same_word.Goals as goal

pub returns : goal.returns
returns g c =
    let a = c.args in
    words-read g.row.W a.a.now a.b.now a.k c.requires.0 c.requires.2 c.requires.3 c.item.ensures c.low.ensures.0 c.item-2.ensures c.low-2.ensures.0
