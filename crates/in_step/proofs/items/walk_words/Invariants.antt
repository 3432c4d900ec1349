-- `in_step::items::walk_words` meets its contract. The loop's invariant is `Tested`. Assumes nothing.
use mathlib.Core.Path.{◌≡◌}
use Rattle.matching.specs.Matching.{word_at}
use Rattle.in_step.specs.Walking.{Tested}
use Rattle.in_step.proofs.items.walk_words.Given as goal

abbrev pub invariant-loop-i : goal.invariant-loop-i
invariant-loop-i g l = Tested (λ k same. same ≡ word_at g.row.W l.a l.b k) l.initial.firsts l.initial.lasts l.firsts l.lasts l.mark l.i
