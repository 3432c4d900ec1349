-- `append_items::to_rows` meets its contract: each test's fact is said once, at its place, and each return cites what the tests have shown. Assumes nothing.
use mathlib.Core.Path.{◌≡◌, refl, sym, ap, ◌∙◌}
use mathlib.Core.Bool.{true, false}
use lib.IntN.{ℤ, pos}
use lib.ListN.{length}
use mir.Syntax.{w64}
use mir.Val.{of_z, to_z}
use mir.Facts.{to_z-of_z}
use Rattle.plain.specs.Rows.{Row, row_of, fits}
use Rattle.plain.specs.Plain.{item_of}
use Rattle.needs.specs.Needs.{disagree}
use Rattle.needs.specs.Tests.{rows_by}
use Rattle.step.proofs.Steps.{step-rows}
use Rattle.append.specs.Appending.{Lent, lent, room_of, held_in}
use Rattle.append.specs.Asking.{Found}
use Rattle.copies.proofs.Refused as refused
use Rattle.append_times.proofs.Ways as ways
use Rattle.append_items.proofs.to_rows.Goals as goal

-- ---- the needs
pub returns-then-rows_disagree : goal.returns-then-rows_disagree
unfolding room_of
returns-then-rows_disagree c =
    let areas : Lent = let a = c.args in lent a.items.now a.ends.now a.flags.now a.counts.now a.keys.now a.lens.now in
    let row : Row = let a = c.args in row_of a.kind a.present a.value a.item.now in
    let a = c.args in
    refused.not-agreed a.kind (rows_by a.nullable) a.c (areas) a.n (row) (sym c.rows_disagree.ensures ∙ c.if-rows_disagree.true) refl

pub returns-then-not-row_fits : goal.returns-then-not-row_fits
unfolding room_of
returns-then-not-row_fits c =
    let areas : Lent = let a = c.args in lent a.items.now a.ends.now a.flags.now a.counts.now a.keys.now a.lens.now in
    let row : Row = let a = c.args in row_of a.kind a.present a.value a.item.now in
    let agrees : disagree c.args.kind (rows_by c.args.nullable) c.args.c (room_of (areas)) ≡ false = sym c.rows_disagree.ensures ∙ c.if-rows_disagree.false in
    let passed : let a = c.args in row_of a.kind a.present (to_z w64 (of_z w64 a.value)) a.item.now ≡ row = let a = c.args in
    ap (λ (v : ℤ). row_of a.kind a.present v a.item.now) (to_z-of_z c.ranges.value) in
    let a = c.args in
    refused.not-fit a.kind (rows_by a.nullable) a.c (areas) a.n (row) (agrees)
    (step-rows a.kind a.c (held_in (areas)) a.keys.now (row) a.nullable)
    (sym (c.row_fits.ensures ∙ ap (fits a.kind) (passed)) ∙ c.if-not-row_fits.true) refl

pub item_len-len-requires : goal.item_len-len-requires
item_len-len-requires c = sym c.row_fits.ensures ∙ c.if-not-row_fits.false

pub row_found-requires : goal.row_found-requires
unfolding room_of
row_found-requires c =
    let row : Row = let a = c.args in row_of a.kind a.present a.value a.item.now in
    let passed : let a = c.args in row_of a.kind a.present (to_z w64 (of_z w64 a.value)) a.item.now ≡ row = let a = c.args in
    ap (λ (v : ℤ). row_of a.kind a.present v a.item.now) (to_z-of_z c.ranges.value) in
    let areas : Lent = let a = c.args in lent a.items.now a.ends.now a.flags.now a.counts.now a.keys.now a.lens.now in
    let agrees : disagree c.args.kind (rows_by c.args.nullable) c.args.c (room_of (areas)) ≡ false = sym c.rows_disagree.ensures ∙ c.if-rows_disagree.false in
    let fit : fits c.args.kind (row) ≡ true = sym (c.row_fits.ensures ∙ ap (fits c.args.kind) (passed)) ∙ c.if-not-row_fits.false in
    let found : let a = c.args in Found a.kind (rows_by a.nullable) a.c (areas) (row) true false (pos 0) = let a = c.args in
    record { agrees = agrees; step = step-rows a.kind a.c (held_in (areas)) a.keys.now (row) a.nullable; fit = fit } in
    let long : c.item_len-len.result ≡ length (item_of c.args.kind (row)) = c.item_len-len.ensures ∙ ap (λ (x : Row). length (item_of c.args.kind x)) (passed) in
    (ways.found_passed refl (passed) refl (found), ways.long-passed c.args.kind (passed) (long))

pub returns : goal.returns
returns c =
    let areas : Lent = let a = c.args in lent a.items.now a.ends.now a.flags.now a.counts.now a.keys.now a.lens.now in
    let row : Row = let a = c.args in row_of a.kind a.present a.value a.item.now in
    let passed : let a = c.args in row_of a.kind a.present (to_z w64 (of_z w64 a.value)) a.item.now ≡ row = let a = c.args in
    ap (λ (v : ℤ). row_of a.kind a.present v a.item.now) (to_z-of_z c.ranges.value) in
    let a = c.args in
    ways.times-passed a.kind refl a.c (areas) a.n (passed) c.row_found.ensures
