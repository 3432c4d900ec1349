-- `rle::pass_runs` meets its contract. The loop keeps where the rows that are left to pass lead to; the measure is the runs left before the last. Assumes
-- nothing.
use Prim.Native.Nat.{◌+◌, ◌-◌}
use native.Mathlib.Omega.{arith}
use Rattle.rle.specs.Stepping.{spot}
use Rattle.rle.proofs.RestOfRun.{Found}
use Rattle.rle.proofs.Advancing as laws
use Rattle.rle.proofs.pass_runs.Goals as goal

pub loop-left-init : goal.loop-left-init
loop-left-init c = laws.few-start _ _ _ _ _

pub returns-then-few-eq0 : goal.returns-then-few-eq0
returns-then-few-eq0 c = rw c.gone_to.ensures (laws.few-used c.loop-left.invariant (omega arith))

pub returns-in_err-count : goal.returns-in_err-count
returns-in_err-count c =
    rw c.from_residual.ensures (laws.few-bad c.loop-left.invariant (omega arith) c.if-few-eq0.false c.decode_u32.ensures c.in_err-count.was)

pub returns-then-rows-eq0 : goal.returns-then-rows-eq0
returns-then-rows-eq0 c =
    laws.few-zero c.loop-left.invariant (omega arith) c.if-few-eq0.false c.decode_u32.ensures c.in_ok-count.was (omega arith)

pub overflow_sub-stop : goal.overflow_sub-stop
overflow_sub-stop c = omega (arith, c.loop-left.invariant.within)

pub returns-then-left-rows : goal.returns-then-left-rows
returns-then-left-rows c =
    rw c.gone_to-then-left-rows.ensures
    (laws.few-in c.loop-left.invariant (omega arith) c.if-few-eq0.false c.decode_u32.ensures c.in_ok-count.was c.if-rows-eq0.false (omega arith))

pub overflow_add-at : goal.overflow_add-at
overflow_add-at c =
    let found : Found (c.args.first + c.args.most) c.args.counts.now
    (spot (c.args.first + c.args.most - c.loop-left.few) c.loop-left.at 0) c.in_ok-count.count.value c.in_ok-count.count.len =
    laws.few-found c.loop-left.invariant (omega arith) c.if-few-eq0.false c.decode_u32.ensures c.in_ok-count.was c.if-rows-eq0.false in
    omega (arith, (found).within, c.well_formed)

pub loop-left-preserved : goal.loop-left-preserved
loop-left-preserved c =
    laws.few_on c.loop-left.invariant (omega arith) c.if-few-eq0.false c.decode_u32.ensures c.in_ok-count.was c.if-rows-eq0.false (omega arith)

pub overflow_sub-stop-2 : goal.overflow_sub-stop-2
overflow_sub-stop-2 c = omega (arith, c.loop-left.invariant.within)

pub returns : goal.returns
returns c = rw c.gone_to-2.ensures (laws.few-end c.loop-left.invariant (omega arith))
