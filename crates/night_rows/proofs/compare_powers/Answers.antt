-- `compare_powers` meets its contract. The loop's invariant is `Met`: the powers met so far are those that are due. Its measure is what is left. Assumes nothing.
use Prim.Native.Nat.{◌≤◌}
use native.Mathlib.Omega.{arith}
use mathlib.Core.Path.{sym, ap, ◌∙◌}
use borrow.Author.Rules.{rules}
use Rattle.limits.specs.Limits.{MOST_ROWS}
use Rattle.encode.proofs.Bools.{clash}
use Rattle.std.specs.Prelude.{Ok}
use Rattle.night_rows.proofs.Powers as laws
use Rattle.night_rows.proofs.Columns.{few-rows}
use Rattle.night_rows.proofs.compare_powers.Goals as goal

pub loop-r-init : goal.loop-r-init
loop-r-init c = (laws.met-none _, search rules, search rules)

pub returns-then-not-row_same : goal.returns-then-not-row_same
returns-then-not-row_same c = clash (sym c.row_same.ensures ∙ c.if-not-row_same.true)

pub overflow_mul-r : goal.overflow_mul-r
overflow_mul-r c =
    let most : c.args.to ≤ MOST_ROWS = omega (arith, few-rows c.args.d c.args.block.now c.requires.0.sound) in
    let m = most in
    search rules

pub loop-r-smaller : goal.loop-r-smaller
loop-r-smaller c =
    let h = c.loop-r.invariant.0.high in
    search rules

pub loop-r-preserved : goal.loop-r-preserved
loop-r-preserved c =
    let most : c.args.to ≤ MOST_ROWS = omega (arith, few-rows c.args.d c.args.block.now c.requires.0.sound) in
    let m = most in
    (laws.met-one _ c.loop-r.invariant.0 c.loop-r-test.true m, search rules, search rules)

pub returns : goal.returns
returns c = ap Ok (laws.all-met _ c.loop-r.invariant.0 c.loop-r-test.false)
