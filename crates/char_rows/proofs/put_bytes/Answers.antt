-- `put_bytes` meets its contract. The loop's invariant: what is still to be written covers all that was copied too much. Assumes nothing.
use Prim.Native.Nat.{◌+◌, ◌*◌, ◌≤◌}
use lib.ListN.{length}
use native.Mathlib.Omega.{arith}
use Rattle.plain.proofs.Items.{item-within}
use Rattle.char_rows.proofs.TextsLaid.{laid-start, laid-span, laid-step, laid_end}
use Rattle.char_rows.proofs.put_bytes.Goals as goal

pub loop-i-init : goal.loop-i-init
loop-i-init c = laid-start _ _ _ _ _ _ _ c.requires.2 c.requires.4

pub overflow_cast-end : goal.overflow_cast-end
overflow_cast-end c = omega (arith, c.type_inv.ends c.loop-i.i)

pub span-copied-requires : goal.span-copied-requires
span-copied-requires c = laid-span c.loop-i.invariant c.loop-i-test.true c.requires.3

pub overflow_mul-from : goal.overflow_mul-from
overflow_mul-from c =
    let within : let a = c.args in (a.from + c.loop-i.i) * a.w + a.w ≤ length a.s.now = item-within c.args.from c.loop-i.i c.args.n c.args.w _ c.loop-i-test.true c.requires.1 in
    omega (arith, within)

pub copy_by_eight-requires : goal.copy_by_eight-requires
copy_by_eight-requires c =
    let within : let a = c.args in (a.from + c.loop-i.i) * a.w + a.w ≤ length a.s.now = item-within c.args.from c.loop-i.i c.args.n c.args.w _ c.loop-i-test.true c.requires.1 in
    let t = within in
    (omega (arith, c.span-copied.ensures.1), omega (arith, c.span-copied.ensures.2, c.loop-i.invariant.room, c.requires.5))

pub loop-i-preserved : goal.loop-i-preserved
loop-i-preserved c =
    laid-step c.loop-i.invariant c.loop-i-test.true c.requires.3 c.span-copied.result c.span-copied.ensures.0 c.span-copied.ensures.2 c.requires.5
    c.copy_by_eight.ensures

pub shape_of-bytes : goal.shape_of-bytes
shape_of-bytes c = c.loop-i.invariant.room

pub returns : goal.returns
returns c = laid_end c.loop-i.invariant (omega arith)
