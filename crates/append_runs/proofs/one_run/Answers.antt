-- `append_runs::one_run` meets its contract: the row is counted in, and then written. Assumes nothing.
use mathlib.Core.Path.{◌≡◌, refl, sym, ap, ◌∙◌}
use mathlib.Core.Bool.{not}
use lib.IntN.{ℤ, pos}
use mir.Syntax.{w64}
use mir.Val.{of_z, to_z}
use mir.Facts.{to_z-of_z}
use Rattle.std.specs.Prelude.{Result}
use Rattle.limits.specs.declared.refusal.Refusal.{Refusal}
use Rattle.limits.specs.Refusals.{refusal_number}
use Rattle.needs.specs.declared.Counted.{Counted}
use Rattle.step.specs.Counting.{next_of, answered}
use Rattle.limits.proofs.Refused.{refusal-some}
use Rattle.step.proofs.Answered.{passed_on}
use Rattle.plain.specs.Rows.{Row, row_of}
use Rattle.needs.specs.Tests.{runs_by}
use Rattle.needs.proofs.Encodings.{runs-stored, runs-flagged, runs-coded, runs-keyed}
use Rattle.append.specs.Appending.{Lent, lent, room_of, added_to}
use Rattle.append.proofs.Passed as laws
use Rattle.append.proofs.Passed.{Taken}
use Rattle.append_runs.proofs.one_run.Goals as goal

-- ---- the needs
pub run_counted-requires : goal.run_counted-requires
run_counted-requires c =
    let areas : Lent = let a = c.args in lent a.items.now a.ends.now a.flags.now a.counts.now a.keys.now a.lens.now in
    let row : Row = let a = c.args in row_of a.kind a.present a.value a.item.now in
    let a = c.args in
    let z = laws.count-asks a.kind (runs_by a.nullable) a.c (areas) (row) c.requires.0 in
    (z.0, z.1, z.2 (runs-keyed a.nullable))

pub returns-in_err-next : goal.returns-in_err-next
unfolding room_of
returns-in_err-next c =
    let areas : Lent = let a = c.args in lent a.items.now a.ends.now a.flags.now a.counts.now a.keys.now a.lens.now in
    let row : Row = let a = c.args in row_of a.kind a.present a.value a.item.now in
    let counted : let a = c.args in
    laws.CountedIn a.kind (runs_by a.nullable) a.c (areas) (row) (not a.joins) a.joins (next_of (refusal_number c.in_err-next.field-0.0) a.c) = let a = c.args in
    laws.counted-row a.kind (runs_by a.nullable) a.c (room_of (areas)) a.present a.value a.item.now (not a.joins) a.joins c.requires.1 c.in_err-next.ensures in
    let a = c.args in
    ap (λ (x : Result Counted Refusal). added_to (answered a.c x) (areas)) (passed_on _ c.from_residual.ensures.1)
    ∙ laws.count-refused a.kind (runs_by a.nullable) a.c (areas) (row) c.requires.0 (counted) (refusal-some _)

pub write_stored-requires : goal.write_stored-requires
unfolding room_of
write_stored-requires c =
    let row : Row = let a = c.args in row_of a.kind a.present a.value a.item.now in
    let passed : let a = c.args in row_of a.kind a.present (to_z w64 (of_z w64 a.value)) a.item.now ≡ row = let a = c.args in
    ap (λ (v : ℤ). row_of a.kind a.present v a.item.now) (to_z-of_z c.ranges.value) in
    let areas : Lent = let a = c.args in lent a.items.now a.ends.now a.flags.now a.counts.now a.keys.now a.lens.now in
    let counted : let a = c.args in
    laws.CountedIn a.kind (runs_by a.nullable) a.c (areas) (row) (not a.joins) a.joins (next_of 0 c.in_ok-next.next) = let a = c.args in
    laws.counted-row a.kind (runs_by a.nullable) a.c (room_of (areas)) a.present a.value a.item.now (not a.joins) a.joins c.requires.1 c.in_ok-next.ensures in
    let taken : let a = c.args in
    Taken a.kind (runs_by a.nullable) a.c (areas) (row) (not a.joins) a.joins (pos 0) a.len (next_of 0 c.in_ok-next.next) =
    record { found = c.requires.0; long = c.requires.1; counted = counted; done = refl } in
    let a = c.args in
    λ t. laws.stores-passed a.kind a.nullable a.c.runs a.c.bytes (passed)
    (laws.item-asks a.kind (runs_by a.nullable) a.c (areas) (row) (taken) t (runs-stored a.nullable a.c) (runs-flagged a.nullable))

pub write_run-requires : goal.write_run-requires
unfolding room_of
write_run-requires c =
    let areas : Lent = let a = c.args in lent a.items.now a.ends.now a.flags.now a.counts.now a.keys.now a.lens.now in
    let row : Row = let a = c.args in row_of a.kind a.present a.value a.item.now in
    let counted : let a = c.args in
    laws.CountedIn a.kind (runs_by a.nullable) a.c (areas) (row) (not a.joins) a.joins (next_of 0 c.in_ok-next.next) = let a = c.args in
    laws.counted-row a.kind (runs_by a.nullable) a.c (room_of (areas)) a.present a.value a.item.now (not a.joins) a.joins c.requires.1 c.in_ok-next.ensures in
    let taken : let a = c.args in
    Taken a.kind (runs_by a.nullable) a.c (areas) (row) (not a.joins) a.joins (pos 0) a.len (next_of 0 c.in_ok-next.next) =
    record { found = c.requires.0; long = c.requires.1; counted = counted; done = refl } in
    let a = c.args in
    laws.run-asks a.kind (runs_by a.nullable) a.c (areas) (row) (taken) (runs-coded a.nullable) (sym (runs-keyed a.nullable))

pub returns : goal.returns
unfolding room_of
returns c =
    let areas : Lent = let a = c.args in lent a.items.now a.ends.now a.flags.now a.counts.now a.keys.now a.lens.now in
    let row : Row = let a = c.args in row_of a.kind a.present a.value a.item.now in
    let counted : let a = c.args in
    laws.CountedIn a.kind (runs_by a.nullable) a.c (areas) (row) (not a.joins) a.joins (next_of 0 c.in_ok-next.next) = let a = c.args in
    laws.counted-row a.kind (runs_by a.nullable) a.c (room_of (areas)) a.present a.value a.item.now (not a.joins) a.joins c.requires.1 c.in_ok-next.ensures in
    let taken : let a = c.args in
    Taken a.kind (runs_by a.nullable) a.c (areas) (row) (not a.joins) a.joins (pos 0) a.len (next_of 0 c.in_ok-next.next) =
    record { found = c.requires.0; long = c.requires.1; counted = counted; done = refl } in
    let passed : let a = c.args in row_of a.kind a.present (to_z w64 (of_z w64 a.value)) a.item.now ≡ row = let a = c.args in
    ap (λ (v : ℤ). row_of a.kind a.present v a.item.now) (to_z-of_z c.ranges.value) in
    let a = c.args in
    laws.row_done a.kind (runs_by a.nullable) a.c (areas) (row) (taken) (runs-stored a.nullable a.c) (runs-flagged a.nullable)
    (sym (runs-coded a.nullable)) (sym (runs-keyed a.nullable))
    (laws.put-passed a.kind a.nullable a.c.runs a.c.bytes (passed) (not a.joins) (areas)
    (c.write_stored.ensures.after, (c.write_stored.ensures.ends_after, (c.write_stored.ensures.flags_after, c.write_stored.ensures.lens_after))))
    c.write_run.ensures.counts_after c.write_run.ensures.keys_after
