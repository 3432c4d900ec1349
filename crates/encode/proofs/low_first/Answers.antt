-- `low_first` meets its contract: the first bytes of std's eight, and zeros. Assumes nothing.
use mathlib.Core.Path.{◌≡◌, ap, ◌∙◌}
use mathlib.Core.List.{List, ◌++◌}
use Prim.Native.Nat.{ℕ}
use lib.ListN.{take, drop, replicate}
use Rattle.encode.specs.Bytes.{low_first, little}
use Rattle.encode.proofs.RoundTrip.{length-bytes}
use Rattle.encode.proofs.Wide as laws
use Rattle.encode.proofs.low_first.Goals as goal

pub returns : goal.returns
returns g c =
    let w = g.row.W in
    let part : take w c.to_le_bytes.result ≡ little w c.args.u =
    ap (take w) (c.to_le_bytes.ensures ∙ laws.little-all c.args.u) ∙ laws.little-part w c.args.u c.requires in
    ap (λ (l : List ℕ). l ++ drop w (replicate 8 0)) (c.copy_from_slice.ensures.after ∙ part) ∙ laws.eight w _ (length-bytes low_first w c.args.u)
