-- `compare` meets its contract: blocks that are unlike, a first block that is refused, and one that is sound. Assumes nothing.
use mathlib.Core.Path.{ap, sym, ◌∙◌}
use Rattle.limits.specs.Refusals.{by_number}
use native.Mathlib.Omega.{arith}
use Rattle.comparing.proofs.TakenSides as sides
use Rattle.comparing.proofs.Answers as laws
use Rattle.comparing.proofs.compare.Goals as goal

pub returns-then-a-b : goal.returns-then-a-b
returns-then-a-b c =
    let all = laws.kinds-differ _ _ _ _ _ _ (λ e. omega (arith, e)) c.refused.ensures in
    record { value = all.0; firsts_after = all.1.0; lasts_after = all.1.1 }

pub returns-then-a-b-2 : goal.returns-then-a-b-2
returns-then-a-b-2 c =
    let all = laws.widths-differ _ _ _ _ _ _ (omega arith) (λ e. omega (arith, e)) c.refused-then-a-b-2.ensures in
    record { value = all.0; firsts_after = all.1.0; lasts_after = all.1.1 }

pub compare_to-requires : goal.compare_to-requires
compare_to-requires c =
    (sides.taken-whole _ _ c.take_side.ensures (ap by_number c.in-Ok.is), omega arith, omega arith)

pub returns-in-Err : goal.returns-in-Err
returns-in-Err c =
    let t = sides.taken_refused _ _ c.take_side.ensures (ap by_number c.in-Err.is) in
    let all = laws.first-refused _ _ _ _ _ _ (omega arith) (omega arith) (t.0 ∙ sym c.from.ensures) (omega (arith, t.1, c.from.ensures)) c.refused-in-Err.ensures in
    record { value = all.0; firsts_after = all.1.0; lasts_after = all.1.1 }
