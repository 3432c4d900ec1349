-- `write_inner` meets its contract: the plain block, and where there are flags the bitmap behind it. Assumes nothing.
use mathlib.Core.List.{◌++◌}
use Rattle.encode.specs.Bytes.{little}
use Rattle.nullable.specs.Nullable.{bitmap_length}
use Rattle.emit.specs.Parts.{held_plain, held_bitmap}
use Rattle.emit.proofs.Writing as laws
use Rattle.emit.proofs.write_inner.Goals as goal

pub write_plain-end-requires : goal.write_plain-end-requires
write_plain-end-requires c =
    let a = c.args in (
      c.requires.1,
      c.requires.2,
      laws.inner_room a.out.now a.at a.flagged a.kind a.n a.len a.items.now a.ends.now a.flags.now c.requires.4,
    )

pub write_bitmap-requires : goal.write_bitmap-requires
write_bitmap-requires c =
    let a = c.args in
    let f = c.if-flagged.true in (
      c.requires.0,
      c.requires.3 f,
      laws.room-second
          a.out.now
          a.at
          (held_plain a.kind a.n a.len a.items.now a.ends.now)
          (held_bitmap a.n a.flags.now ++ little 4 (bitmap_length a.n))
          (c.write_plain-end.ensures.value, c.write_plain-end.ensures.out_after)
          (laws.room_as a.out.now a.at (laws.flagged-bytes a.flagged a.kind a.n a.len a.items.now a.ends.now a.flags.now f) c.requires.4),
    )

pub returns-then-flagged : goal.returns-then-flagged
returns-then-flagged c =
    let a = c.args in
    let all = laws.laid_as
    a.out.now
    a.at
    (laws.flagged-bytes a.flagged a.kind a.n a.len a.items.now a.ends.now a.flags.now c.if-flagged.true)
    (laws.laid_both
    a.out.now
    a.at
    (held_plain a.kind a.n a.len a.items.now a.ends.now)
    (held_bitmap a.n a.flags.now ++ little 4 (bitmap_length a.n))
    (c.write_plain-end.ensures.value, c.write_plain-end.ensures.out_after)
    (c.write_bitmap.ensures.value, c.write_bitmap.ensures.out_after)) in
    record { value = all.0; out_after = all.1 }

pub returns : goal.returns
returns c =
    let a = c.args in
    let all = laws.laid_as
    a.out.now
    a.at
    (laws.bare-bytes a.flagged a.kind a.n a.len a.items.now a.ends.now a.flags.now c.if-flagged.false)
    (c.write_plain-end.ensures.value, c.write_plain-end.ensures.out_after) in
    record { value = all.0; out_after = all.1 }
