-- `repaired_entries::write_entries` meets its contract, by the kind: the items, or a blob's ends and then its items. Assumes nothing.
use native.Mathlib.Omega.{arith}
use Prim.Native.Nat.{◌<◌, ◌^◌}
use mathlib.Core.List.{List}
use lib.ListN.{length}
use Rattle.plain.specs.Rows.{Row}
use Rattle.repaired_entries.proofs.Going.{all}
use Rattle.repaired_entries.proofs.Plain as laws
use borrow.Enum.Refused.{opened}
use Rattle.repaired_entries.proofs.write_entries.Goals as goal

-- ---- fixed kinds and char
pub write_items-requires : goal.write_items-requires
write_items-requires c =
    let es : List Row = let a = c.args in all a.kind a.entries a.runs a.counts.now a.keys.now a.items.now a.n in
    let p = c.requires in
    let a = c.args in
    (p.0, p.1, p.2, p.3, laws.alone-room a.kind (es) a.out.now a.at (opened c.in-Fixed.in-Fixed-own.keys1) p.7)

pub returns-in-Fixed : goal.returns-in-Fixed
returns-in-Fixed c =
    let es : List Row = let a = c.args in all a.kind a.entries a.runs a.counts.now a.keys.now a.items.now a.n in
    let a = c.args in
    laws.alone-laid a.kind (es) a.out.now a.at (opened c.in-Fixed.in-Fixed-own.keys1) c.write_items.ensures

-- ---- blob and string
pub write_ends-requires : goal.write_ends-requires
write_ends-requires c =
    let es : List Row = let a = c.args in all a.kind a.entries a.runs a.counts.now a.keys.now a.items.now a.n in
    let p = c.requires in
    let a = c.args in
    let r = laws.parts-room a.kind (es) a.out.now a.at c.in-Blob.is p.7 in
    (p.0, p.1, p.2, p.3, p.4, p.6, omega arith)

pub write_items-requires-in-Blob : goal.write_items-requires-in-Blob
write_items-requires-in-Blob c =
    let es : List Row = let a = c.args in all a.kind a.entries a.runs a.counts.now a.keys.now a.items.now a.n in
    let p = c.requires in
    let a = c.args in
    (p.0, p.1, p.2, p.3, laws.behind-room a.kind (es) a.out.now a.at c.in-Blob.is c.write_ends.ensures p.5 p.7)

pub overflow_add-at : goal.overflow_add-at
overflow_add-at c =
    let es : List Row = let a = c.args in all a.kind a.entries a.runs a.counts.now a.keys.now a.items.now a.n in
    let room_fits : length c.args.out.now < 2 ^ 64 = omega arith in
    let a = c.args in
    let r = laws.parts-room a.kind (es) a.out.now a.at c.in-Blob.is c.requires.7 in
    omega (arith, c.requires.5, room_fits)

pub overflow_mul-kept : goal.overflow_mul-kept
overflow_mul-kept c =
    let es : List Row = let a = c.args in all a.kind a.entries a.runs a.counts.now a.keys.now a.items.now a.n in
    let a = c.args in
    let r = laws.parts-room a.kind (es) a.out.now a.at c.in-Blob.is c.requires.7 in
    omega (arith, c.requires.5)

pub returns-in-Blob : goal.returns-in-Blob
returns-in-Blob c =
    let es : List Row = let a = c.args in all a.kind a.entries a.runs a.counts.now a.keys.now a.items.now a.n in
    let a = c.args in
    laws.parts-laid a.kind (es) a.out.now a.at c.in-Blob.is c.write_ends.ensures c.requires.5 c.write_items-in-Blob.ensures
