-- `byte_rows::put_texts` meets its contract: each arm's loop writes what is asked, and a fixed kind never comes here. Assumes nothing.
use Rattle.source.proofs.AtPlace.{not-fixed}
use Rattle.byte_rows.proofs.put_texts.Goals as goal

pub returns-in-Fixed : goal.returns-in-Fixed
returns-in-Fixed c = absurd (not-fixed _ c.in-Fixed.is c.requires.6)
