-- `lookup::finding::same_item` meets its contract: each arm is the law of its kind. Assumes nothing.
use mathlib.Core.Path.{ap, ◌∙◌}
use mathlib.Core.List.{[]}
use native.Mathlib.Omega.{arith}
use borrow.Author.Rules.{rules}
use Rattle.encode.specs.Kinds.{blob}
use Rattle.plain.specs.Rows.{same_int}
use Rattle.lookup.specs.Held.{Held, held}
use Rattle.lookup.specs.Asking.{ItemThere}
use Rattle.lookup.proofs.Alike.{int-bits}
use Rattle.lookup.proofs.There.{fixed-item, fixed_same, char-item, char-same, blob-item, blob-same}
use Rattle.lookup.proofs.finding.same_item.Goals as goal

pub value_at-requires : goal.value_at-requires
value_at-requires c =
    let areas : Held = held c.args.items.now c.args.ends.now c.args.lens.now in
    fixed-item _ c.in-Fixed.is (areas) c.args.i c.requires

pub same_char-requires : goal.same_char-requires
same_char-requires c =
    let a = c.args in
    char-item _ c.in-Char.is a.items.now a.ends.now a.lens.now a.i c.requires

pub start_in-requires : goal.start_in-requires
unfolding ItemThere
start_in-requires c =
    let there : let a = c.args in
    ItemThere blob (held a.items.now a.ends.now []) a.i = let a = c.args in
    blob-item c.in-Blob.is a.items.now a.ends.now a.lens.now a.i c.requires in
    omega (arith, (there).0)

pub same_blob-requires : goal.same_blob-requires
same_blob-requires c =
    let there : let a = c.args in
    ItemThere blob (held a.items.now a.ends.now []) a.i = let a = c.args in
    blob-item c.in-Blob.is a.items.now a.ends.now a.lens.now a.i c.requires in
    (there, c.start_in.ensures.0)

pub returns-in-Fixed : goal.returns-in-Fixed
returns-in-Fixed c =
    let areas : Held = held c.args.items.now c.args.ends.now c.args.lens.now in
    let a = c.args in
    let equal = int-bits c.value_at.result a.value (search rules) c.ranges.value ∙ ap (same_int a.value) c.value_at.ensures in
    fixed_same _ c.in-Fixed.is (areas) a.i a.value a.item.now equal

pub returns-in-Char : goal.returns-in-Char
returns-in-Char c =
    let a = c.args in
    char-same _ c.in-Char.is a.items.now a.ends.now a.lens.now a.value a.item.now a.i
    c.same_char.ensures

pub returns-in-Blob : goal.returns-in-Blob
returns-in-Blob c =
    let a = c.args in
    blob-same c.in-Blob.is a.items.now a.ends.now a.lens.now a.value a.item.now a.i c.same_blob.ensures
