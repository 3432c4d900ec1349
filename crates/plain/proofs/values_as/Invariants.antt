-- `values_as` meets its contract: the law of the loop that stores. Assumes nothing.
use Rattle.plain.specs.Plain.{shaped_at}
use Rattle.plain.proofs.Items.{Storing}
use Rattle.plain.proofs.values_as.Given as goal

abbrev pub invariant-loop-i : goal.invariant-loop-i
invariant-loop-i g l = Storing (shaped_at g.K.FixedKind.shape l.s) l.from l.n l.initial.out l.out l.i
