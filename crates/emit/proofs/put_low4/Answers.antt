-- `put_low4` meets its contract: of the eight bytes that are passed, the first four are the number's. Assumes nothing.
use mathlib.Core.List.{List}
use mathlib.Core.Path.{refl, ap, ◌∙◌}
use Prim.Native.Nat.{ℕ}
use lib.ListN.{take}
use lib.Seq.{sets}
use Rattle.emit.proofs.put_low4.Goals as goal

pub returns : goal.returns
returns c =
    let a = c.args in
    record { value = refl; out_after = c.put.ensures ∙ ap (λ (item : List ℕ). sets a.out.now a.at (take 4 item)) c.low_first.ensures }
