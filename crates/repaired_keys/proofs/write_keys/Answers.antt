-- `repaired_keys::write_keys` meets its contract. The loop's invariant is `Keys`, its measure the rows that are left. Assumes nothing.
use native.Mathlib.Omega.{arith}
use Rattle.repaired_keys.proofs.Writing as walk
use Rattle.repaired_keys.proofs.AmongWritten as laws
use Rattle.repaired_keys.proofs.write_keys.Goals as goal

pub loop-left-init : goal.loop-left-init
loop-left-init c =
    let p = c.requires in
    walk.writing_start _ _ _ _ _ _ _ _ _ _ p.2 c.none_yet-x.ensures

pub next_run-next-requires : goal.next_run-next-requires
next_run-next-requires c =
    let p = c.requires in
    (p.0, p.1, c.loop-left.invariant.ahead, omega arith)

pub key_after-key-requires : goal.key_after-key-requires
key_after-key-requires c =
    let p = c.requires in
    let g = c.loop-left.invariant in (
      p.1,
      c.next_run-next.ensures.3,
      laws.keys-entered _ _ _ _ _ _ _ _ _ g _ _ p.7 p.5,
      laws.keys-apart _ _ _ _ _ _ _ _ _ g _ _ p.7 _ p.6,
    )

pub put_low4-to-requires : goal.put_low4-to-requires
put_low4-to-requires c =
    let p = c.requires in
    laws.keys-room _ _ _ _ _ _ _ _ _ c.loop-left.invariant _ c.args.end p.7 c.next_run-next.ensures (omega (arith, p.3, p.4))

pub loop-left-preserved : goal.loop-left-preserved
loop-left-preserved c =
    let p = c.requires in
    laws.keys_step _ _ _ _ _ _ _ _ _ c.loop-left.invariant _ _ p.7 c.next_run-next.ensures p.5 p.6 c.key_after-key.ensures c.put_low4-to.ensures.value c.put_low4-to.ensures.out_after

pub shape_of-out : goal.shape_of-out
shape_of-out c = c.loop-left.invariant.long

pub returns : goal.returns
returns c = laws.keys-end _ _ _ _ _ _ _ _ _ c.loop-left.invariant (omega arith)
