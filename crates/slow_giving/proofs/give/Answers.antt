-- `give` meets its contract: null, or the item that the entry names, by its kind. Assumes nothing.
use mathlib.Core.Path.{refl}
use native.Mathlib.Omega.{arith}
use borrow.Author.Rules.{rules}
use Rattle.plain.specs.Rows.{int, bytes, int_in, bytes_in}
use Rattle.plain.specs.Plain.{char_at, blob_at}
use Rattle.plain.proofs.Numbers.{plain-least, plain-good}
use Rattle.plain.proofs.Ranges.{least-found, blob-least, blob-good}
use Rattle.nullable.specs.Nullable.{presence}
use Rattle.fill.specs.Areas.{areas}
use Rattle.fill.proofs.FilledAreas.{is-fixed, is-char}
use Rattle.slow_giving.proofs.Entries.{given-as, null-shown, item-there, fixed-shown, char-shown, blob-shown, fixed-room, is-blob}
use Rattle.slow_giving.proofs.give.Goals as goal

pub returns-in_default : goal.returns-in_default
returns-in_default c =
    let a = c.args in
    let all = given-as a.kind (areas a.values.now a.flags.now a.ends.now a.bytes.now) c.give_null.result (null-shown a.kind a.n a.s.now c.in_default.is)
    c.give_null.ensures in
    record { value = all.0; bytes_after = all.1 }

pub value_at-requires : goal.value_at-requires
value_at-requires c =
    let a = c.args in
    let l = item-there a.kind a.n a.s.now c.in-Some.is c.requires.3 in
    (omega arith, fixed-room a.kind a.n a.s.now c.in-Fixed.p c.in-Some.i c.in-Fixed.is c.requires.2 (omega arith))

pub char_at-piece-requires : goal.char_at-piece-requires
char_at-piece-requires c =
    let a = c.args in
    let l = item-there a.kind a.n a.s.now c.in-Some.is c.requires.3 in
    (omega arith, c.requires.0, search rules, least-found c.in-Char.is a.n a.s.now (plain-least a.kind a.n a.s.now c.requires.2))

pub give_bytes-requires : goal.give_bytes-requires
give_bytes-requires c = let h = c.char_at-piece.ensures.0 in (h, omega arith)

pub blob_at-piece-requires : goal.blob_at-piece-requires
blob_at-piece-requires c =
    let a = c.args in
    let l = item-there a.kind a.n a.s.now c.in-Some.is c.requires.3 in (
      omega arith,
      c.requires.0,
      blob-least c.in-Blob.is a.n a.s.now (plain-least a.kind a.n a.s.now c.requires.2),
      blob-good c.in-Blob.is a.n a.s.now c.in-Some.i (plain-good a.kind a.n a.s.now c.requires.2 c.in-Some.i (omega arith)),
    )

pub give_bytes-requires-in-Blob : goal.give_bytes-requires-in-Blob
give_bytes-requires-in-Blob c = let h = c.blob_at-piece.ensures.0 in (h, omega arith)

pub returns-in-Fixed : goal.returns-in-Fixed
unfolding int_in presence
returns-in-Fixed c =
    let a = c.args in
    let all = given-as a.kind (areas a.values.now a.flags.now a.ends.now a.bytes.now) c.give_value.result
    (fixed-shown a.kind a.n a.s.now c.in-Some.is c.in-Fixed.p c.in-Fixed.is c.value_at.ensures)
    (c.give_value.ensures a.kind (int c.value_at.result) a.ends.now a.bytes.now (is-fixed a.kind _ c.in-Fixed.is) (search rules) refl) in
    record { value = all.0; bytes_after = all.1 }

pub returns-in-Char : goal.returns-in-Char
unfolding bytes_in presence
returns-in-Char c =
    let a = c.args in
    let all = given-as a.kind (areas a.values.now a.flags.now a.ends.now a.bytes.now) c.give_bytes.result
    (char-shown a.kind a.n a.s.now c.in-Some.is c.in-Char.w c.in-Char.is)
    (c.give_bytes.ensures a.kind (bytes (char_at c.in-Char.w a.s.now c.in-Some.i)) a.values.now (is-char a.kind c.in-Char.w c.in-Char.is) c.char_at-piece.ensures.1 refl) in
    record { value = all.0; bytes_after = all.1 }

pub returns-in-Blob : goal.returns-in-Blob
unfolding bytes_in presence
returns-in-Blob c =
    let a = c.args in
    let all = given-as a.kind (areas a.values.now a.flags.now a.ends.now a.bytes.now) c.give_bytes-in-Blob.result
    (blob-shown a.kind a.n a.s.now c.in-Some.is _ c.in-Blob.is)
    (c.give_bytes-in-Blob.ensures a.kind (bytes (blob_at a.n a.s.now c.in-Some.i)) a.values.now (is-blob a.kind _ c.in-Blob.is) c.blob_at-piece.ensures.1 refl) in
    record { value = all.0; bytes_after = all.1 }
