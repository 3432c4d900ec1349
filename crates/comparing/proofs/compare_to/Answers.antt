-- `compare_to` meets its contract: a second block that is refused, and one that is sound. Assumes nothing.
use native.Mathlib.Omega.{arith}
use mathlib.Core.Path.{ap, sym, ◌∙◌}
use Rattle.limits.specs.Refusals.{by_number}
use Rattle.comparing.proofs.TakenSides as sides
use Rattle.comparing.proofs.Answers as laws
use Rattle.comparing.proofs.compare_to.Goals as goal

pub put_ranges-requires : goal.put_ranges-requires
put_ranges-requires c =
    let p = c.requires in
    (p.0, sides.taken-whole _ _ c.take_side.ensures (ap by_number c.in-Ok.is), p.1, p.2)

pub returns-in-Err : goal.returns-in-Err
returns-in-Err c =
    let p = c.requires in
    let t = sides.taken_refused _ _ c.take_side.ensures (ap by_number c.in-Err.is) in
    let all = laws.second-refused _ _ _ _ _ _ p.1 p.2 p.0.number (t.0 ∙ sym c.from.ensures) (omega (arith, t.1, c.from.ensures)) c.refused.ensures in
    record { value = all.0; firsts_after = all.1.0; lasts_after = all.1.1 }
