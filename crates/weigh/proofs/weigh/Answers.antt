-- `weigh::weigh` meets its contract: each arm's loop weighs rows of the kind that the arm found. Assumes nothing.
use Rattle.source.proofs.AtPlace.{not-fixed}
use Rattle.weigh.proofs.weigh.Goals as goal

pub weigh_fixed-requires : goal.weigh_fixed-requires
weigh_fixed-requires c = (c.requires.0, c.requires.1, not-fixed _ c.in-Fixed.is)
