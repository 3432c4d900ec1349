-- `append_keys::to_keys` meets its contract: each test's fact is said once, at its place, and each return cites what the tests have shown. Assumes nothing.
use mathlib.Core.Path.{◌≡◌, refl, sym, ap, ◌∙◌}
use mathlib.Core.Bool.{true, false}
use lib.IntN.{ℤ}
use lib.ListN.{length}
use mir.Syntax.{w64}
use mir.Val.{of_z, to_z}
use mir.Facts.{to_z-of_z}
use Rattle.plain.specs.Rows.{Row, row_of, fits}
use Rattle.plain.specs.Plain.{item_of}
use Rattle.format.specs.declared.Encoding.TheVariants.{Dictionary}
use Rattle.needs.specs.Needs.{disagree}
use Rattle.step.specs.Steps.{adds, key_step, step_of}
use Rattle.step.proofs.Steps.{step-keys}
use Rattle.append.specs.Appending.{Lent, lent, room_of, held_in}
use Rattle.append.specs.Asking.{Found}
use Rattle.append.proofs.Passed as laws
use Rattle.copies.proofs.Refused as refused
use Rattle.append_times.proofs.Ways as ways
use Rattle.append_keys.proofs.to_keys.Goals as goal

-- ---- the needs
pub returns-then-keys_disagree : goal.returns-then-keys_disagree
unfolding room_of
returns-then-keys_disagree c =
    let areas : Lent = let a = c.args in lent a.items.now a.ends.now a.flags.now a.counts.now a.keys.now a.lens.now in
    let row : Row = let a = c.args in row_of a.kind a.present a.value a.item.now in
    let a = c.args in
    refused.not-agreed a.kind Dictionary a.c (areas) a.n (row) (sym c.keys_disagree.ensures ∙ c.if-keys_disagree.true) refl

pub key_step-requires : goal.key_step-requires
unfolding room_of
key_step-requires c =
    let areas : Lent = let a = c.args in lent a.items.now a.ends.now a.flags.now a.counts.now a.keys.now a.lens.now in
    let agrees : disagree c.args.kind Dictionary c.args.c (room_of (areas)) ≡ false = sym c.keys_disagree.ensures ∙ c.if-keys_disagree.false in
    let a = c.args in
    laws.entries-there a.kind a.c (areas) (agrees)

pub returns-in_default : goal.returns-in_default
unfolding room_of
returns-in_default c =
    let areas : Lent = let a = c.args in lent a.items.now a.ends.now a.flags.now a.counts.now a.keys.now a.lens.now in
    let row : Row = let a = c.args in row_of a.kind a.present a.value a.item.now in
    let agrees : disagree c.args.kind Dictionary c.args.c (room_of (areas)) ≡ false = sym c.keys_disagree.ensures ∙ c.if-keys_disagree.false in
    let passed : let a = c.args in row_of a.kind a.present (to_z w64 (of_z w64 a.value)) a.item.now ≡ row = let a = c.args in
    ap (λ (v : ℤ). row_of a.kind a.present v a.item.now) (to_z-of_z c.ranges.value) in
    let stepped : c.key_step.result ≡ step_of c.args.kind Dictionary c.args.c (held_in (areas)) c.args.keys.now (row) = let a = c.args in
    step-keys a.kind a.c (held_in (areas)) a.keys.now (row)
    (c.key_step.ensures ∙ ap (key_step a.kind a.c (held_in (areas)) a.keys.now) (passed)) in
    let a = c.args in
    refused.field-wrong a.kind Dictionary a.c (areas) a.n (row) (agrees) (sym c.in_default.is ∙ stepped) refl

pub returns-then-not-row_fits : goal.returns-then-not-row_fits
unfolding room_of
returns-then-not-row_fits c =
    let areas : Lent = let a = c.args in lent a.items.now a.ends.now a.flags.now a.counts.now a.keys.now a.lens.now in
    let row : Row = let a = c.args in row_of a.kind a.present a.value a.item.now in
    let agrees : disagree c.args.kind Dictionary c.args.c (room_of (areas)) ≡ false = sym c.keys_disagree.ensures ∙ c.if-keys_disagree.false in
    let passed : let a = c.args in row_of a.kind a.present (to_z w64 (of_z w64 a.value)) a.item.now ≡ row = let a = c.args in
    ap (λ (v : ℤ). row_of a.kind a.present v a.item.now) (to_z-of_z c.ranges.value) in
    let stepped : c.key_step.result ≡ step_of c.args.kind Dictionary c.args.c (held_in (areas)) c.args.keys.now (row) = let a = c.args in
    step-keys a.kind a.c (held_in (areas)) a.keys.now (row)
    (c.key_step.ensures ∙ ap (key_step a.kind a.c (held_in (areas)) a.keys.now) (passed)) in
    let step : adds c.in-Some.found.stored c.in-Some.found.joins c.in-Some.found.key ≡ step_of c.args.kind Dictionary c.args.c (held_in (areas)) c.args.keys.now (row) = sym c.in-Some.is ∙ stepped in
    let a = c.args in
    refused.not-fit a.kind Dictionary a.c (areas) a.n (row) (agrees) (step)
    (sym (c.row_fits.ensures ∙ ap (fits a.kind) (passed)) ∙ c.if-not-row_fits.true) refl

pub item_len-len-requires : goal.item_len-len-requires
item_len-len-requires c = sym c.row_fits.ensures ∙ c.if-not-row_fits.false

pub key_found-requires : goal.key_found-requires
unfolding room_of
key_found-requires c =
    let areas : Lent = let a = c.args in lent a.items.now a.ends.now a.flags.now a.counts.now a.keys.now a.lens.now in
    let row : Row = let a = c.args in row_of a.kind a.present a.value a.item.now in
    let agrees : disagree c.args.kind Dictionary c.args.c (room_of (areas)) ≡ false = sym c.keys_disagree.ensures ∙ c.if-keys_disagree.false in
    let passed : let a = c.args in row_of a.kind a.present (to_z w64 (of_z w64 a.value)) a.item.now ≡ row = let a = c.args in
    ap (λ (v : ℤ). row_of a.kind a.present v a.item.now) (to_z-of_z c.ranges.value) in
    let stepped : c.key_step.result ≡ step_of c.args.kind Dictionary c.args.c (held_in (areas)) c.args.keys.now (row) = let a = c.args in
    step-keys a.kind a.c (held_in (areas)) a.keys.now (row)
    (c.key_step.ensures ∙ ap (key_step a.kind a.c (held_in (areas)) a.keys.now) (passed)) in
    let step : adds c.in-Some.found.stored c.in-Some.found.joins c.in-Some.found.key ≡ step_of c.args.kind Dictionary c.args.c (held_in (areas)) c.args.keys.now (row) = sym c.in-Some.is ∙ stepped in
    let fit : fits c.args.kind (row) ≡ true = sym (c.row_fits.ensures ∙ ap (fits c.args.kind) (passed)) ∙ c.if-not-row_fits.false in
    let found : Found c.args.kind Dictionary c.args.c (areas) (row) c.in-Some.found.stored c.in-Some.found.joins c.in-Some.found.key = record { agrees = agrees; step = step; fit = fit } in
    let long : c.item_len-len.result ≡ length (item_of c.args.kind (row)) = c.item_len-len.ensures ∙ ap (λ (x : Row). length (item_of c.args.kind x)) (passed) in
    let small = laws.key-small c.args.kind Dictionary c.args.c (areas) (row) (found) in
    (ways.found_passed refl (passed) (to_z-of_z small) (found), ways.long-passed c.args.kind (passed) (long))

pub returns : goal.returns
returns c =
    let areas : Lent = let a = c.args in lent a.items.now a.ends.now a.flags.now a.counts.now a.keys.now a.lens.now in
    let row : Row = let a = c.args in row_of a.kind a.present a.value a.item.now in
    let passed : let a = c.args in row_of a.kind a.present (to_z w64 (of_z w64 a.value)) a.item.now ≡ row = let a = c.args in
    ap (λ (v : ℤ). row_of a.kind a.present v a.item.now) (to_z-of_z c.ranges.value) in
    let a = c.args in
    ways.times-passed a.kind refl a.c (areas) a.n (passed) c.key_found.ensures
