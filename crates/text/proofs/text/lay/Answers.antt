-- `lay` meets its contract: nothing, or the whole text. Assumes nothing.
use native.Mathlib.Omega.{arith}
use mathlib.Core.Path.{refl, ap, ◌∙◌}
use lib.Seq.{sets, take-length}
use Rattle.text.proofs.Laying as laws
use Rattle.text.proofs.text.lay.Goals as goal

pub returns-then-out-n : goal.returns-then-out-n
returns-then-out-n c =
    let a = c.args in
    let all = laws.lays-nothing a.text.now a.out.now (omega arith) in
    record { value = all.0; out_after = all.1 }

pub returns : goal.returns
returns c =
    let a = c.args in
    let all = laws.lays-whole a.text.now a.out.now (omega arith) refl
    (c.copy.ensures ∙ ap (sets a.out.now 0) (take-length a.text.now)) in
    record { value = all.0; out_after = all.1 }
