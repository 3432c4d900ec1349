-- `low` meets its contract: what std reads of the first bytes and zeros. Assumes nothing.
use Rattle.std.proofs.Common.{rules}
use native.Mathlib.Omega.{arith}
use mathlib.Core.Path.{◌≡◌, ap, sym, ◌∙◌, subst}
use mathlib.Core.List.{List, ◌++◌}
use Prim.Native.Nat.{ℕ, ◌<◌, ◌^◌}
use lib.ListN.{length, take, drop, replicate, get_or}
use Rattle.std.proofs.lemmas.List.{length-take-le}
use Rattle.std.proofs.lemmas.List.Elements.{All-take, All-from_get_or}
use Rattle.std.specs.List.{All}
use Rattle.std.specs.Int.{w64, from_le_bytes}
use Rattle.encode.specs.Bytes.{number}
use Rattle.encode.proofs.Wide as laws
use Rattle.encode.proofs.low.Goals as goal

pub returns : goal.returns
returns g c =
    let w = g.row.W in
    let bs : List ℕ = take w c.args.item in
    let eight : length c.args.item ≡ 8 = search rules in
    let long : length bs ≡ w = length-take-le w c.args.item (omega arith) in
    let from : c.copy_from_slice.new.self ≡ bs = c.copy_from_slice.ensures.after in
    let is : c.from_le_bytes.result ≡ number bs =
    laws.low_read w bs c.from_le_bytes.result c.requires (long)
    (c.from_le_bytes.ensures ∙ ap (λ (l : List ℕ). from_le_bytes w64 (l ++ drop w (replicate 8 0))) from) in
    let small : (i : ℕ) → get_or c.args.item i 0 < 256 = search rules in
    let all : All laws.IsByte bs = All-take laws.IsByte w c.args.item (All-from_get_or laws.IsByte c.args.item 0 (λ (i : ℕ) (p : i < length c.args.item). small i)) in
    let below : number bs < 256 ^ length bs = laws.number-below bs all in
    (is, subst (λ (m : ℕ). m < 256 ^ w) (sym is) (subst (λ (m : ℕ). number bs < 256 ^ m) long below))
