-- `builder::with_counts` meets its contract: each return by the law of the tests and arms that led there. Assumes nothing.
use mathlib.Core.Path.{refl}
use Rattle.builder.specs.Asking.{with_counts}
use Rattle.builder.proofs.finishing.with_counts.Goals as goal

pub returns : goal.returns
unfolding with_counts
returns c = refl
