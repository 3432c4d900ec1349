-- `write_plain` meets its contract, by the kind: the items, or a blob's ends and then its data. Assumes nothing.
use native.Mathlib.Omega.{arith}
use lib.ListN.{take}
use Rattle.encode.specs.Bytes.{little}
use Rattle.plain.specs.Plain.{joined}
use Rattle.emit.proofs.Writing as laws
use borrow.Enum.Refused.{opened}
use Rattle.emit.proofs.write_plain.Goals as goal

pub copy-requires : goal.copy-requires
copy-requires c =
    let a = c.args in
    laws.items-room a.at a.len a.items.now c.requires.0
    (laws.room_as a.out.now a.at (laws.few_bytes a.kind a.n a.len a.items.now a.ends.now (opened c.in-Fixed.in-Fixed-own.keys1)) c.requires.2)

pub write_ends-to-requires : goal.write_ends-to-requires
write_ends-to-requires c =
    let a = c.args in (
      c.requires.1 _ c.in-Blob.is,
      laws.room-first a.out.now a.at (joined (little 4) (take a.n a.ends.now)) (take a.len a.items.now)
          (laws.room_as a.out.now a.at (laws.blob-bytes a.kind a.n a.len a.items.now a.ends.now c.in-Blob.is) c.requires.2),
    )

pub copy-requires-in-Blob : goal.copy-requires-in-Blob
copy-requires-in-Blob c =
    let a = c.args in
    laws.items-room c.write_ends-to.result a.len a.items.now c.requires.0
    (laws.room-second a.out.now a.at (joined (little 4) (take a.n a.ends.now)) (take a.len a.items.now) (c.write_ends-to.ensures.value, c.write_ends-to.ensures.out_after)
    (laws.room_as a.out.now a.at (laws.blob-bytes a.kind a.n a.len a.items.now a.ends.now c.in-Blob.is) c.requires.2))

pub overflow_add-result-in-Blob : goal.overflow_add-result-in-Blob
overflow_add-result-in-Blob c =
    let a = c.args in
    let r =
    laws.items-room c.write_ends-to.result a.len a.items.now c.requires.0
    (laws.room-second a.out.now a.at (joined (little 4) (take a.n a.ends.now)) (take a.len a.items.now) (c.write_ends-to.ensures.value, c.write_ends-to.ensures.out_after)
    (laws.room_as a.out.now a.at (laws.blob-bytes a.kind a.n a.len a.items.now a.ends.now c.in-Blob.is) c.requires.2)) in
    omega arith

pub returns-in-Fixed : goal.returns-in-Fixed
returns-in-Fixed c =
    let a = c.args in
    let all = laws.laid_as a.out.now a.at (laws.few_bytes a.kind a.n a.len a.items.now a.ends.now (opened c.in-Fixed.in-Fixed-own.keys1))
    (laws.laid-items a.at a.len a.items.now c.requires.0 a.out.now c.copy.ensures) in
    record { value = all.0; out_after = all.1 }

pub returns-in-Blob : goal.returns-in-Blob
returns-in-Blob c =
    let a = c.args in
    let all = laws.laid_as a.out.now a.at (laws.blob-bytes a.kind a.n a.len a.items.now a.ends.now c.in-Blob.is)
    (laws.laid_both a.out.now a.at (joined (little 4) (take a.n a.ends.now)) (take a.len a.items.now) (c.write_ends-to.ensures.value, c.write_ends-to.ensures.out_after)
    (laws.laid-items c.write_ends-to.result a.len a.items.now c.requires.0 c.write_ends-to.new.out c.copy-in-Blob.ensures)) in
    record { value = all.0; out_after = all.1 }
