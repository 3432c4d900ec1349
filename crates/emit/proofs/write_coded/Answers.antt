-- `write_coded` meets its contract: what stands before the inner block, and the inner block behind it; no runs, no bytes. Assumes nothing.
use native.Mathlib.Omega.{arith}
use mathlib.Core.List.{◌++◌}
use mathlib.Core.Path.{sym, ap}
use lib.Seq.{sets}
use Rattle.encode.specs.Bytes.{little}
use Rattle.emit.specs.Parts.{held_inner, held_counts}
use Rattle.emit.proofs.Lengths.{no-runs}
use Rattle.emit.proofs.Writing as laws
use Rattle.emit.proofs.write_coded.Goals as goal

pub returns-then-n-eq0 : goal.returns-then-n-eq0
returns-then-n-eq0 c =
    let a = c.args in
    ap (sets a.out.now 0)
    (sym (no-runs a.n a.counts.now (held_inner a.flagged a.kind a.n a.len a.items.now a.ends.now a.flags.now) c.if-n-eq0.true))

pub write_runs-at-requires : goal.write_runs-at-requires
write_runs-at-requires c =
    let a = c.args in
    let inner = held_inner a.flagged a.kind a.n a.len a.items.now a.ends.now a.flags.now in (
      c.requires.4,
      laws.room-first a.out.now 0 (little 4 a.n ++ little 4 a.size ++ held_counts a.n a.counts.now) inner
          (laws.room_as a.out.now 0 (laws.runs-bytes a.n a.counts.now c.if-n-eq0.false c.requires.5 inner) (omega arith)),
    )

pub write_inner-requires : goal.write_inner-requires
write_inner-requires c =
    let a = c.args in
    let inner = held_inner a.flagged a.kind a.n a.len a.items.now a.ends.now a.flags.now in (
      c.requires.0,
      c.requires.1,
      c.requires.2,
      c.requires.3,
      laws.room-second a.out.now 0 (little 4 a.n ++ little 4 a.size ++ held_counts a.n a.counts.now) inner
          (c.write_runs-at.ensures.value, c.write_runs-at.ensures.out_after)
          (laws.room_as a.out.now 0 (laws.runs-bytes a.n a.counts.now c.if-n-eq0.false c.requires.5 inner) (omega arith)),
    )

pub returns : goal.returns
returns c =
    let a = c.args in
    let inner = held_inner a.flagged a.kind a.n a.len a.items.now a.ends.now a.flags.now in
    (laws.laid_as a.out.now 0 (laws.runs-bytes a.n a.counts.now c.if-n-eq0.false c.requires.5 inner)
    (laws.laid_both a.out.now 0 (little 4 a.n ++ little 4 a.size ++ held_counts a.n a.counts.now) inner
    (c.write_runs-at.ensures.value, c.write_runs-at.ensures.out_after)
    (c.write_inner.ensures.value, c.write_inner.ensures.out_after))
    ).1
