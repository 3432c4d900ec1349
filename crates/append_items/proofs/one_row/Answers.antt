-- `append_items::one_row` meets its contract: the row is counted in, and then written. Assumes nothing.
use native.Mathlib.Omega.{arith}
use mathlib.Core.Path.{◌≡◌, refl, sym, ap, ◌∙◌}
use mathlib.Core.Bool.{true, false, cond}
use lib.IntN.{ℤ, pos}
use mir.Syntax.{w64}
use mir.Val.{of_z, to_z}
use mir.Facts.{to_z-of_z}
use Rattle.std.specs.Prelude.{Result}
use Rattle.limits.specs.declared.refusal.Refusal.{Refusal}
use Rattle.limits.specs.Refusals.{refusal_number}
use Rattle.needs.specs.declared.Counted.{Counted}
use Rattle.step.specs.Counting.{next_of, answered}
use Rattle.limits.proofs.Refused.{refusal-some}
use Rattle.step.proofs.Answered.{passed_on}
use Rattle.plain.specs.Rows.{Row, row_of}
use Rattle.needs.specs.Tests.{rows_by}
use Rattle.needs.proofs.Encodings.{rows-stored, rows-flagged, rows-coded, rows-keyed}
use Rattle.step.proofs.Growth.{row-answer}
use Rattle.append.specs.Appending.{Lent, lent, room_of, added_to}
use Rattle.append.specs.Asking.{Stores}
use Rattle.append.proofs.Items as items
use Rattle.append.proofs.Passed as laws
use Rattle.append.proofs.Passed.{Taken}
use Rattle.append_items.proofs.one_row.Goals as goal

-- ---- the needs
pub row_counted-requires : goal.row_counted-requires
row_counted-requires c =
    let areas : Lent = let a = c.args in lent a.items.now a.ends.now a.flags.now a.counts.now a.keys.now a.lens.now in
    let a = c.args in
    laws.are-right a.kind (rows_by a.nullable) a.c (areas) c.requires.0.agrees

pub returns-in_err-next : goal.returns-in_err-next
unfolding room_of
returns-in_err-next c =
    let areas : Lent = let a = c.args in lent a.items.now a.ends.now a.flags.now a.counts.now a.keys.now a.lens.now in
    let row : Row = let a = c.args in row_of a.kind a.present a.value a.item.now in
    let counted : let a = c.args in
    laws.CountedIn a.kind (rows_by a.nullable) a.c (areas) (row) true false (next_of (refusal_number c.in_err-next.field-0.0) a.c) = let a = c.args in
    laws.counted-row a.kind (rows_by a.nullable) a.c (room_of (areas)) a.present a.value a.item.now true false c.requires.1
    (row-answer a.kind a.nullable a.c (room_of (areas)) (cond a.present 1 0) _ c.in_err-next.ensures) in
    let a = c.args in
    ap (λ (x : Result Counted Refusal). added_to (answered a.c x) (areas)) (passed_on _ c.from_residual.ensures.1)
    ∙ laws.count-refused a.kind (rows_by a.nullable) a.c (areas) (row) c.requires.0 (counted) (refusal-some _)

pub overflow_add-c : goal.overflow_add-c
unfolding room_of
overflow_add-c c =
    let row : Row = let a = c.args in row_of a.kind a.present a.value a.item.now in
    let areas : Lent = let a = c.args in lent a.items.now a.ends.now a.flags.now a.counts.now a.keys.now a.lens.now in
    let counted : let a = c.args in
    laws.CountedIn a.kind (rows_by a.nullable) a.c (areas) (row) true false (next_of 0 c.in_ok-next.next) = let a = c.args in
    laws.counted-row a.kind (rows_by a.nullable) a.c (room_of (areas)) a.present a.value a.item.now true false c.requires.1
    (row-answer a.kind a.nullable a.c (room_of (areas)) (cond a.present 1 0) _ c.in_ok-next.ensures) in
    let taken : let a = c.args in
    Taken a.kind (rows_by a.nullable) a.c (areas) (row) true false (pos 0) a.len (next_of 0 c.in_ok-next.next) =
    record { found = c.requires.0; long = c.requires.1; counted = counted; done = refl } in
    let stores : let a = c.args in
    Stores a.kind a.nullable a.c.rows a.c.bytes (row) a.len a.items.now a.ends.now a.flags.now a.lens.now = let a = c.args in
    laws.item-asks a.kind (rows_by a.nullable) a.c (areas) (row) (taken) refl (rows-stored a.nullable a.c) (rows-flagged a.nullable) in
    let z = (stores).small in record { fits = omega arith }

pub write_item-requires : goal.write_item-requires
unfolding room_of
write_item-requires c =
    let row : Row = let a = c.args in row_of a.kind a.present a.value a.item.now in
    let passed : let a = c.args in row_of a.kind a.present (to_z w64 (of_z w64 a.value)) a.item.now ≡ row = let a = c.args in
    ap (λ (v : ℤ). row_of a.kind a.present v a.item.now) (to_z-of_z c.ranges.value) in
    let areas : Lent = let a = c.args in lent a.items.now a.ends.now a.flags.now a.counts.now a.keys.now a.lens.now in
    let counted : let a = c.args in
    laws.CountedIn a.kind (rows_by a.nullable) a.c (areas) (row) true false (next_of 0 c.in_ok-next.next) = let a = c.args in
    laws.counted-row a.kind (rows_by a.nullable) a.c (room_of (areas)) a.present a.value a.item.now true false c.requires.1
    (row-answer a.kind a.nullable a.c (room_of (areas)) (cond a.present 1 0) _ c.in_ok-next.ensures) in
    let taken : let a = c.args in
    Taken a.kind (rows_by a.nullable) a.c (areas) (row) true false (pos 0) a.len (next_of 0 c.in_ok-next.next) =
    record { found = c.requires.0; long = c.requires.1; counted = counted; done = refl } in
    let stores : let a = c.args in
    Stores a.kind a.nullable a.c.rows a.c.bytes (row) a.len a.items.now a.ends.now a.flags.now a.lens.now = let a = c.args in
    laws.item-asks a.kind (rows_by a.nullable) a.c (areas) (row) (taken) refl (rows-stored a.nullable a.c) (rows-flagged a.nullable) in
    let a = c.args in
    items.write-asks a.kind a.nullable a.c.rows a.c.bytes (row) a.items.now a.ends.now a.flags.now a.lens.now (passed) (stores)

pub returns : goal.returns
unfolding room_of
returns c =
    let row : Row = let a = c.args in row_of a.kind a.present a.value a.item.now in
    let passed : let a = c.args in row_of a.kind a.present (to_z w64 (of_z w64 a.value)) a.item.now ≡ row = let a = c.args in
    ap (λ (v : ℤ). row_of a.kind a.present v a.item.now) (to_z-of_z c.ranges.value) in
    let areas : Lent = let a = c.args in lent a.items.now a.ends.now a.flags.now a.counts.now a.keys.now a.lens.now in
    let counted : let a = c.args in
    laws.CountedIn a.kind (rows_by a.nullable) a.c (areas) (row) true false (next_of 0 c.in_ok-next.next) = let a = c.args in
    laws.counted-row a.kind (rows_by a.nullable) a.c (room_of (areas)) a.present a.value a.item.now true false c.requires.1
    (row-answer a.kind a.nullable a.c (room_of (areas)) (cond a.present 1 0) _ c.in_ok-next.ensures) in
    let taken : let a = c.args in
    Taken a.kind (rows_by a.nullable) a.c (areas) (row) true false (pos 0) a.len (next_of 0 c.in_ok-next.next) =
    record { found = c.requires.0; long = c.requires.1; counted = counted; done = refl } in
    let a = c.args in
    let put = items.put a.kind a.nullable a.c.rows a.c.bytes (row) a.items.now a.ends.now a.flags.now a.lens.now (passed)
    true refl (taken).long (c.write_item.ensures.after, (c.write_item.ensures.ends_after, (c.write_item.ensures.flags_after, c.write_item.ensures.lens_after))) in
    laws.row_done a.kind (rows_by a.nullable) a.c (areas) (row) (taken) (rows-stored a.nullable a.c) (rows-flagged a.nullable)
    (sym (rows-coded a.nullable)) (sym (rows-keyed a.nullable)) put refl refl
