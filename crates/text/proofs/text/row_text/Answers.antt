-- `row_text` meets its contract: the text of the row's case, laid over the memory. Assumes nothing.
use mir.Facts.{to_z-of_z}
use Rattle.text.proofs.Laying as laws
use Rattle.text.proofs.text.row_text.Goals as goal

pub returns-then-not-present : goal.returns-then-not-present
returns-then-not-present c =
    let a = c.args in
    let all = laws.lays-same a.out.now
    (laws.row-null a.kind a.value a.bytes.now c.if-not-present.true)
    (c.lay.ensures.value, c.lay.ensures.out_after) in
    record { value = all.0; out_after = all.1 }

pub returns-in-Fixed : goal.returns-in-Fixed
returns-in-Fixed c =
    let a = c.args in
    let all = laws.lays-same a.out.now
    (laws.row-value a.kind a.value a.bytes.now (to_z-of_z c.ranges.value)
    c.if-not-present.false c.in-Fixed.is)
    (c.value_text.ensures.value, c.value_text.ensures.out_after) in
    record { value = all.0; out_after = all.1 }

pub returns-in-Char : goal.returns-in-Char
returns-in-Char c =
    let a = c.args in
    let all = laws.lays-same a.out.now
    (laws.row-char a.kind a.value a.bytes.now
    c.if-not-present.false c.in-Char.is)
    (c.bytes_text.ensures.value, c.bytes_text.ensures.out_after) in
    record { value = all.0; out_after = all.1 }

pub returns-in-Blob : goal.returns-in-Blob
returns-in-Blob c =
    let a = c.args in
    let all = laws.lays-same a.out.now
    (laws.row-blob a.kind a.value a.bytes.now
    c.if-not-present.false c.in-Blob.is)
    (c.bytes_text-in-Blob.ensures.value, c.bytes_text-in-Blob.ensures.out_after) in
    record { value = all.0; out_after = all.1 }
