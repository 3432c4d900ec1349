-- `slots::put_item` meets its contract: each arm writes the item of the kind that it found. Assumes nothing.
use Rattle.slots.proofs.Items as laws
use Rattle.slots.proofs.put_item.Goals as goal

pub put_value-requires : goal.put_value-requires
put_value-requires c =
    let a = c.args in
    laws.fixed-asked a.kind a.present a.value a.item.now a.items.now a.at _ c.in-Fixed.is c.ranges.value c.requires.1

pub put_char-requires : goal.put_char-requires
put_char-requires c =
    let a = c.args in
    let e = c.in-Char.is in (
      laws.char-fits a.kind a.present a.value a.item.now _ e c.requires.0,
      laws.char-asked a.kind a.present a.value a.item.now a.items.now a.at _ e c.requires.1,
    )

pub put_blob-requires : goal.put_blob-requires
put_blob-requires c =
    let a = c.args in
    laws.blob-asked a.kind a.present a.value a.item.now a.items.now a.at c.in-Blob.is c.requires.1

pub returns-in-Fixed : goal.returns-in-Fixed
returns-in-Fixed c =
    let a = c.args in
    laws.fixed-found a.kind a.present a.value a.item.now a.items.now a.at _ c.in-Fixed.is c.ranges.value
    c.put_value.ensures

pub returns-in-Char : goal.returns-in-Char
returns-in-Char c =
    let a = c.args in
    laws.char-found a.kind a.present a.value a.item.now a.items.now a.at _ c.in-Char.is
    c.put_char.ensures

pub returns-in-Blob : goal.returns-in-Blob
returns-in-Blob c =
    let a = c.args in
    laws.blob-found a.kind a.present a.value a.item.now a.items.now a.at c.in-Blob.is
    c.put_blob.ensures
