-- `in_step::items::walk_bools` meets its contract. The loop's invariant is `Tested`. Assumes nothing.
use mathlib.Core.Path.{◌≡◌}
use Rattle.encode.specs.declared.Primitive.TheVariants.{Bool as Boolean}
use Rattle.matching.specs.Matching.{equal_at}
use Rattle.in_step.specs.Walking.{Tested}
use Rattle.in_step.proofs.items.walk_bools.Given as goal

abbrev pub invariant-loop-i : goal.invariant-loop-i
invariant-loop-i l = Tested (λ k same. same ≡ equal_at Boolean l.a l.b k) l.initial.firsts l.initial.lasts l.firsts l.lasts l.mark l.i
