-- `lookup::finding::look_up` meets its contract: each arm is the law of its kind. Assumes nothing.
use mathlib.Core.Path.{ap, ◌∙◌}
use mir.Facts.{to_z-of_z}
use Rattle.lookup.specs.First.{first_value}
use Rattle.lookup.specs.Held.{Held, held}
use Rattle.lookup.proofs.There.{fixed-bytes, fixed-up, char-fields, char-bytes, char_up, blob-fields, blob-bytes, blob-up}
use Rattle.lookup.proofs.finding.look_up.Goals as goal

pub find_fixed-requires : goal.find_fixed-requires
find_fixed-requires c =
    let areas : Held = held c.args.items.now c.args.ends.now c.args.lens.now in
    fixed-bytes _ c.in-Fixed.is c.args.n c.args.len (areas) c.requires.2

pub find_char-requires : goal.find_char-requires
find_char-requires c =
    let areas : Held = held c.args.items.now c.args.ends.now c.args.lens.now in
    let k = c.in-Char.is in
    (c.requires.0, char-fields _ k c.args.n (areas) c.requires.1, char-bytes _ k c.args.n c.args.len (areas) c.requires.2)

pub find_blob-requires : goal.find_blob-requires
find_blob-requires c =
    let areas : Held = held c.args.items.now c.args.ends.now c.args.lens.now in
    let k = c.in-Blob.is in
    (blob-fields k c.args.n (areas) c.requires.1, blob-bytes k c.args.n c.args.len (areas) c.requires.2)

pub returns-in-Fixed : goal.returns-in-Fixed
returns-in-Fixed c =
    let areas : Held = held c.args.items.now c.args.ends.now c.args.lens.now in
    let a = c.args in
    let found = c.find_fixed.ensures ∙ ap (first_value _ a.items.now a.n) (to_z-of_z c.ranges.value) in
    fixed-up _ c.in-Fixed.is a.n a.len (areas) a.value a.item.now found

pub returns-in-Char : goal.returns-in-Char
returns-in-Char c =
    let a = c.args in
    char_up _ c.in-Char.is a.items.now a.ends.now a.lens.now a.value a.item.now a.n a.len
    c.find_char.ensures

pub returns-in-Blob : goal.returns-in-Blob
returns-in-Blob c =
    let a = c.args in
    blob-up c.in-Blob.is a.items.now a.ends.now a.lens.now a.value a.item.now a.n a.len
    c.find_blob.ensures
