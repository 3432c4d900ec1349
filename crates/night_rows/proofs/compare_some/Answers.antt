-- `compare_some` meets its contract: the rows of its three parts are those that are due. Assumes nothing.
use native.Mathlib.Omega.{arith}
use mathlib.Core.Path.{◌≡◌, ap}
use Prim.Native.Nat.{◌-◌}
use Rattle.std.specs.Prelude.{Ok}
use Rattle.plain.specs.Plain.{places}
use Rattle.night_rows.specs.Night.{powers_among}
use Rattle.night_rows.proofs.Powers.{powers-few}
use Rattle.night_rows.proofs.Columns as laws
use Rattle.night_rows.proofs.compare_some.Goals as goal

pub overflow_add-result : goal.overflow_add-result
overflow_add-result c =
    let low : c.in_ok-low.low ≡ 1000 - 0 = laws.same_of c.compare_from.ensures c.in_ok-low.was in
    let between : c.in_ok-between.between ≡ powers_among (c.args.n - 1000) (places 48 0) =
    laws.same_of c.compare_powers.ensures c.in_ok-between.was in
    let few = powers-few (c.args.n - 1000) in record { fits = omega (arith, low, between, few) }

pub overflow_add-result-2 : goal.overflow_add-result-2
overflow_add-result-2 c =
    let low : c.in_ok-low.low ≡ 1000 - 0 = laws.same_of c.compare_from.ensures c.in_ok-low.was in
    let between : c.in_ok-between.between ≡ powers_among (c.args.n - 1000) (places 48 0) =
    laws.same_of c.compare_powers.ensures c.in_ok-between.was in
    let high : c.in_ok-high.high ≡ c.args.n - (c.args.n - 1000) = laws.same_of c.compare_from-2.ensures c.in_ok-high.was in
    let few = powers-few (c.args.n - 1000) in record { fits = omega (arith, low, between, high, few) }

pub returns : goal.returns
returns c =
    let low : c.in_ok-low.low ≡ 1000 - 0 = laws.same_of c.compare_from.ensures c.in_ok-low.was in
    let between : c.in_ok-between.between ≡ powers_among (c.args.n - 1000) (places 48 0) =
    laws.same_of c.compare_powers.ensures c.in_ok-between.was in
    let high : c.in_ok-high.high ≡ c.args.n - (c.args.n - 1000) = laws.same_of c.compare_from-2.ensures c.in_ok-high.was in
    ap Ok (laws.some-due _ _ _ _ c.requires.2 low between high)
