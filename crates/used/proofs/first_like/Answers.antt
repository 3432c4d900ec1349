-- `used::first_like` meets its contract: a fixed kind is looked for by value, every other by the bytes of the item. Assumes nothing.
use mathlib.Core.Path.{◌∙◌}
use native.Mathlib.Omega.{arith}
use borrow.Author.Rules.{rules}
use mir.Syntax.{w64}
use mir.Facts.{to_z-of_z}
use Rattle.used.proofs.Cuts.{item-cut}
use Rattle.used.proofs.Finding.{values-there, value_there, value_found, chars-there, char-found, blobs-there, blobs-good, blob-found}
use Rattle.used.proofs.first_like.Goals as goal

-- ---- by value
pub value_at-requires : goal.value_at-requires
value_at-requires c =
    let p = c.requires in
    (omega arith, value_there c.in-Fixed.is _ _ _ p.3 p.4 p.5)

pub find_fixed-requires : goal.find_fixed-requires
find_fixed-requires c = values-there c.in-Fixed.is _ _ c.requires.1

pub returns-in-Fixed : goal.returns-in-Fixed
returns-in-Fixed c =
    let a = c.args in
    value_found c.in-Fixed.is a.n a.items.now a.m a.others.now a.slot c.requires.4
    (to_z-of_z {w = w64} (record { sfits = c.value_at.type_inv }) ∙ c.value_at.ensures) c.find_fixed.ensures

-- ---- by the bytes of a char item, of a blob item
pub char_at-want-requires : goal.char_at-want-requires
char_at-want-requires c =
    let p = c.requires in
    (omega arith, p.2, search rules, chars-there _ _ p.3 c.in-Char.is)

pub first_char-requires : goal.first_char-requires
first_char-requires c =
    let p = c.requires in
    (p.0, search rules, chars-there _ _ p.1 c.in-Char.is, item-cut _ c.args.m _ _ _ _ c.char_at-want.ensures)

pub returns-in-Char : goal.returns-in-Char
returns-in-Char c =
    let a = c.args in
    char-found a.n a.items.now a.m a.others.now a.slot c.requires.4 _ _ c.in-Char.is c.char_at-want.ensures c.first_char.ensures

pub blob_at-want-requires : goal.blob_at-want-requires
blob_at-want-requires c =
    let p = c.requires in
    (omega arith, p.2, blobs-there _ _ p.3 c.in-Blob.is, blobs-good _ _ p.3 c.in-Blob.is _ (omega arith))

pub first_blob-requires : goal.first_blob-requires
first_blob-requires c =
    let p = c.requires in
    (p.0, blobs-there _ _ p.1 c.in-Blob.is, blobs-good _ _ p.1 c.in-Blob.is, c.blob_at-want.ensures.0)

pub returns-in-Blob : goal.returns-in-Blob
returns-in-Blob c =
    let a = c.args in
    blob-found a.n a.items.now a.m a.others.now a.slot c.requires.4 _ _ c.in-Blob.is c.blob_at-want.ensures c.first_blob.ensures
