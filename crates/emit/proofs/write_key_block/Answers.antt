-- `write_key_block` meets its contract: what stands before the keys, and the keys behind it; no runs, no bytes. Assumes nothing.
use mathlib.Core.List.{◌++◌}
use lib.IntN.{ℤ}
use lib.ListN.{take}
use mir.Syntax.{w32}
use mir.Val.{of_z}
use Rattle.encode.specs.Bytes.{little}
use Rattle.plain.specs.Plain.{joined}
use Rattle.emit.specs.Parts.{held_counts}
use Rattle.emit.proofs.Lengths.{no_keys}
use Rattle.emit.proofs.Writing as laws
use Rattle.emit.proofs.write_key_block.Goals as goal

pub returns-then-n-eq0 : goal.returns-then-n-eq0
returns-then-n-eq0 c =
    let a = c.args in
    let all = laws.laid_none a.out.now a.at (no_keys a.n a.counts.now a.keys.now c.if-n-eq0.true) in
    record { value = all.0; out_after = all.1 }

pub write_runs-behind-requires : goal.write_runs-behind-requires
write_runs-behind-requires c =
    let a = c.args in (
      c.requires.0,
      laws.room-first a.out.now a.at
          (little 4 a.n ++ little 4 a.size ++ held_counts a.n a.counts.now)
          (joined (λ (key : ℤ). little 4 (of_z w32 key)) (take a.n a.keys.now))
          (laws.room_as a.out.now a.at (laws.keys-bytes a.n a.counts.now c.if-n-eq0.false c.requires.2 a.keys.now) c.requires.3),
    )

pub write_keys-requires : goal.write_keys-requires
write_keys-requires c =
    let a = c.args in (
      c.requires.1,
      laws.room-second a.out.now a.at
          (little 4 a.n ++ little 4 a.size ++ held_counts a.n a.counts.now)
          (joined (λ (key : ℤ). little 4 (of_z w32 key)) (take a.n a.keys.now))
          (c.write_runs-behind.ensures.value, c.write_runs-behind.ensures.out_after)
          (laws.room_as a.out.now a.at (laws.keys-bytes a.n a.counts.now c.if-n-eq0.false c.requires.2 a.keys.now) c.requires.3),
    )

pub returns : goal.returns
returns c =
    let a = c.args in
    let all = laws.laid_as a.out.now a.at (laws.keys-bytes a.n a.counts.now c.if-n-eq0.false c.requires.2 a.keys.now)
    (laws.laid_both a.out.now a.at
    (little 4 a.n ++ little 4 a.size ++ held_counts a.n a.counts.now)
    (joined (λ (key : ℤ). little 4 (of_z w32 key)) (take a.n a.keys.now))
    (c.write_runs-behind.ensures.value, c.write_runs-behind.ensures.out_after)
    (c.write_keys.ensures.value, c.write_keys.ensures.out_after)) in
    record { value = all.0; out_after = all.1 }
