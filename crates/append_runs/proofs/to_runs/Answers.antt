-- `append_runs::to_runs` meets its contract: each test's fact is said once, at its place, and each return cites what the tests have shown. Assumes nothing.
use mathlib.Core.Path.{◌≡◌, refl, sym, ap, ◌∙◌}
use mathlib.Core.Bool.{Bool, true, false, not}
use lib.IntN.{ℤ, pos}
use lib.ListN.{length}
use mir.Syntax.{w64}
use mir.Val.{of_z, to_z}
use mir.Facts.{to_z-of_z}
use Rattle.plain.specs.Rows.{Row, row_of, fits}
use Rattle.plain.specs.Plain.{item_of}
use Rattle.needs.specs.Needs.{disagree}
use Rattle.needs.specs.Tests.{runs_by}
use Rattle.step.specs.Steps.{adds, run_step, step_of}
use Rattle.step.proofs.Steps.{step-runs}
use Rattle.append.specs.Appending.{Lent, lent, room_of, held_in}
use Rattle.append.specs.Asking.{Found}
use Rattle.append.proofs.Passed as laws
use Rattle.copies.proofs.Refused as refused
use Rattle.copies_laws.proofs.RunsAgain.{run-found}
use Rattle.append_times.proofs.Ways as ways
use Rattle.append_runs.proofs.to_runs.Goals as goal

-- ---- the needs
pub returns-then-runs_disagree : goal.returns-then-runs_disagree
unfolding room_of
returns-then-runs_disagree c =
    let areas : Lent = let a = c.args in lent a.items.now a.ends.now a.flags.now a.counts.now a.keys.now a.lens.now in
    let row : Row = let a = c.args in row_of a.kind a.present a.value a.item.now in
    let a = c.args in
    refused.not-agreed a.kind (runs_by a.nullable) a.c (areas) a.n (row) (sym c.runs_disagree.ensures ∙ c.if-runs_disagree.true) refl

pub run_step-requires : goal.run_step-requires
unfolding room_of
run_step-requires c =
    let areas : Lent = let a = c.args in lent a.items.now a.ends.now a.flags.now a.counts.now a.keys.now a.lens.now in
    let agrees : disagree c.args.kind (runs_by c.args.nullable) c.args.c (room_of (areas)) ≡ false = sym c.runs_disagree.ensures ∙ c.if-runs_disagree.false in
    let a = c.args in
    laws.runs-there a.kind a.nullable a.c (areas) (agrees)

pub returns-in_default : goal.returns-in_default
unfolding room_of
returns-in_default c =
    let areas : Lent = let a = c.args in lent a.items.now a.ends.now a.flags.now a.counts.now a.keys.now a.lens.now in
    let row : Row = let a = c.args in row_of a.kind a.present a.value a.item.now in
    let agrees : disagree c.args.kind (runs_by c.args.nullable) c.args.c (room_of (areas)) ≡ false = sym c.runs_disagree.ensures ∙ c.if-runs_disagree.false in
    let passed : let a = c.args in row_of a.kind a.present (to_z w64 (of_z w64 a.value)) a.item.now ≡ row = let a = c.args in
    ap (λ (v : ℤ). row_of a.kind a.present v a.item.now) (to_z-of_z c.ranges.value) in
    let run-stepped : c.run_step.result ≡ run_step c.args.kind c.args.c (held_in (areas)) (row) = c.run_step.ensures ∙ ap (run_step c.args.kind c.args.c (held_in (areas))) (passed) in
    let stepped : c.run_step.result ≡ step_of c.args.kind (runs_by c.args.nullable) c.args.c (held_in (areas)) c.args.keys.now (row) = let a = c.args in
    step-runs a.kind a.c (held_in (areas)) a.keys.now (row) a.nullable (run-stepped) in
    let a = c.args in
    refused.field-wrong a.kind (runs_by a.nullable) a.c (areas) a.n (row) (agrees) (sym c.in_default.is ∙ stepped) refl

pub returns-then-not-row_fits : goal.returns-then-not-row_fits
unfolding room_of
returns-then-not-row_fits c =
    let areas : Lent = let a = c.args in lent a.items.now a.ends.now a.flags.now a.counts.now a.keys.now a.lens.now in
    let row : Row = let a = c.args in row_of a.kind a.present a.value a.item.now in
    let agrees : disagree c.args.kind (runs_by c.args.nullable) c.args.c (room_of (areas)) ≡ false = sym c.runs_disagree.ensures ∙ c.if-runs_disagree.false in
    let passed : let a = c.args in row_of a.kind a.present (to_z w64 (of_z w64 a.value)) a.item.now ≡ row = let a = c.args in
    ap (λ (v : ℤ). row_of a.kind a.present v a.item.now) (to_z-of_z c.ranges.value) in
    let run-stepped : c.run_step.result ≡ run_step c.args.kind c.args.c (held_in (areas)) (row) = c.run_step.ensures ∙ ap (run_step c.args.kind c.args.c (held_in (areas))) (passed) in
    let stepped : c.run_step.result ≡ step_of c.args.kind (runs_by c.args.nullable) c.args.c (held_in (areas)) c.args.keys.now (row) = let a = c.args in
    step-runs a.kind a.c (held_in (areas)) a.keys.now (row) a.nullable (run-stepped) in
    let step : adds c.in-Some.found.stored c.in-Some.found.joins c.in-Some.found.key
    ≡ step_of c.args.kind (runs_by c.args.nullable) c.args.c (held_in (areas)) c.args.keys.now (row) = sym c.in-Some.is ∙ stepped in
    let a = c.args in
    refused.not-fit a.kind (runs_by a.nullable) a.c (areas) a.n (row) (agrees) (step)
    (sym (c.row_fits.ensures ∙ ap (fits a.kind) (passed)) ∙ c.if-not-row_fits.true) refl

pub item_len-len-requires : goal.item_len-len-requires
item_len-len-requires c = sym c.row_fits.ensures ∙ c.if-not-row_fits.false

pub run_found-requires : goal.run_found-requires
unfolding room_of
run_found-requires c =
    let row : Row = let a = c.args in row_of a.kind a.present a.value a.item.now in
    let passed : let a = c.args in row_of a.kind a.present (to_z w64 (of_z w64 a.value)) a.item.now ≡ row = let a = c.args in
    ap (λ (v : ℤ). row_of a.kind a.present v a.item.now) (to_z-of_z c.ranges.value) in
    let areas : Lent = let a = c.args in lent a.items.now a.ends.now a.flags.now a.counts.now a.keys.now a.lens.now in
    let run-stepped : c.run_step.result ≡ run_step c.args.kind c.args.c (held_in (areas)) (row) = c.run_step.ensures ∙ ap (run_step c.args.kind c.args.c (held_in (areas))) (passed) in
    let agrees : disagree c.args.kind (runs_by c.args.nullable) c.args.c (room_of (areas)) ≡ false = sym c.runs_disagree.ensures ∙ c.if-runs_disagree.false in
    let stepped : c.run_step.result ≡ step_of c.args.kind (runs_by c.args.nullable) c.args.c (held_in (areas)) c.args.keys.now (row) = let a = c.args in
    step-runs a.kind a.c (held_in (areas)) a.keys.now (row) a.nullable (run-stepped) in
    let step : adds c.in-Some.found.stored c.in-Some.found.joins c.in-Some.found.key
    ≡ step_of c.args.kind (runs_by c.args.nullable) c.args.c (held_in (areas)) c.args.keys.now (row) = sym c.in-Some.is ∙ stepped in
    let fit : fits c.args.kind (row) ≡ true = sym (c.row_fits.ensures ∙ ap (fits c.args.kind) (passed)) ∙ c.if-not-row_fits.false in
    let joined : Found c.args.kind (runs_by c.args.nullable) c.args.c (areas) (row) (not c.in-Some.found.joins) c.in-Some.found.joins (pos 0) = let a = c.args in
    let f = run-found a.kind (row) a.c (held_in (areas)) c.in-Some.found.stored c.in-Some.found.joins c.in-Some.found.key (sym c.in-Some.is ∙ run-stepped) in
    record {
      agrees = agrees;
      step = ap (λ (x : Bool). adds x c.in-Some.found.joins (pos 0)) (sym f.stored) ∙ ap (adds c.in-Some.found.stored c.in-Some.found.joins) (sym f.bare) ∙ step;
      fit = fit;
    } in
    let long : c.item_len-len.result ≡ length (item_of c.args.kind (row)) = c.item_len-len.ensures ∙ ap (λ (x : Row). length (item_of c.args.kind x)) (passed) in
    (ways.found_passed refl (passed) refl (joined), ways.long-passed c.args.kind (passed) (long))

pub returns : goal.returns
returns c =
    let areas : Lent = let a = c.args in lent a.items.now a.ends.now a.flags.now a.counts.now a.keys.now a.lens.now in
    let row : Row = let a = c.args in row_of a.kind a.present a.value a.item.now in
    let passed : let a = c.args in row_of a.kind a.present (to_z w64 (of_z w64 a.value)) a.item.now ≡ row = let a = c.args in
    ap (λ (v : ℤ). row_of a.kind a.present v a.item.now) (to_z-of_z c.ranges.value) in
    let a = c.args in
    ways.times-passed a.kind refl a.c (areas) a.n (passed) c.run_found.ensures
