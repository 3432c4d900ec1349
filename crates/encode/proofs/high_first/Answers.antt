-- `high_first` meets its contract: the last bytes of std's eight, and zeros. Assumes nothing.
use mathlib.Core.Path.{◌≡◌, ap, ◌∙◌}
use mathlib.Core.List.{List, ◌++◌}
use Prim.Native.Nat.{ℕ, ◌-◌}
use lib.ListN.{take, drop, replicate}
use Rattle.encode.specs.Bytes.{high-first, big}
use Rattle.encode.proofs.RoundTrip.{length-bytes}
use Rattle.encode.proofs.Wide as laws
use Rattle.encode.proofs.high_first.Goals as goal

pub returns : goal.returns
returns g c =
    let w = g.row.W in
    let part : take (8 - (8 - w)) (drop (8 - w) c.to_be_bytes.result) ≡ big w c.args.u =
    ap (λ (l : List ℕ). take (8 - (8 - w)) (drop (8 - w) l)) (c.to_be_bytes.ensures ∙ laws.big-all c.args.u) ∙ laws.big-part w c.args.u c.requires in
    ap (λ (l : List ℕ). l ++ drop w (replicate 8 0)) (c.copy_from_slice.ensures.after ∙ part) ∙ laws.eight w _ (length-bytes high-first w c.args.u)
