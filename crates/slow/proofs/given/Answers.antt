-- `given` meets its contract: opening's refusals, then 7 behind the last row, then what the row's place shows. Assumes nothing.
use mathlib.Core.Path.{refl, sym, ◌∙◌}
use Rattle.std.proofs.lemmas.Result.{err_from_is_err_and}
use Rattle.limits.specs.declared.refusal.Refusal.{Refusal}
use Rattle.fill.specs.Areas.{areas}
use Rattle.slow.proofs.Shown.{gives_as, refused_as, not_opened, unknown-shown, far-shown, place-shown, rules-kept, opened, found, part-short}
use Rattle.slow.proofs.given.Goals as goal

pub returns-in_err-open_number : goal.returns-in_err-open_number
returns-in_err-open_number c =
    let a = c.args in
    let p = err_from_is_err_and c.from_residual.result c.from_residual.ensures.1 in
    let all = refused_as c.from_residual.result p.0
    (not_opened a.d a.block.now a.r (areas a.values.now a.flags.now a.ends.now a.bytes.now) p.0 (rw p.2 c.in_err-open_number.ensures)) p.1 in
    record { value = all.0; bytes_after = all.1 }

pub returns-in_default : goal.returns-in_default
returns-in_default c =
    let a = c.args in
    let all = refused_as _ Refusal.Column
    (unknown-shown a.d a.block.now c.in_ok-open_number.ensures a.r (areas a.values.now a.flags.now a.ends.now a.bytes.now)
    (sym c.column_of.ensures ∙ c.in_default.is)) refl in
    record { value = all.0; bytes_after = all.1 }

pub returns-then-d-r : goal.returns-then-d-r
returns-then-d-r c =
    let a = c.args in
    let all = refused_as _ Refusal.TooFar
    (far-shown a.d a.block.now c.in_ok-open_number.ensures a.r (areas a.values.now a.flags.now a.ends.now a.bytes.now)
    (sym c.column_of.ensures ∙ c.in-Some.is) c.if-d-r.true) refl in
    record { value = all.0; bytes_after = all.1 }

pub place_of-place-requires : goal.place_of-place-requires
place_of-place-requires c =
    let a = c.args in
    (opened a.d a.block.now c.in_ok-open_number.ensures (sym c.column_of.ensures ∙ c.in-Some.is), c.if-d-r.false)

pub slice_bounds-give-count : goal.slice_bounds-give-count
slice_bounds-give-count c =
    let a = c.args in
    (found a.d a.block.now c.in_ok-open_number.ensures (sym c.column_of.ensures ∙ c.in-Some.is) c.place_of-place.ensures).ordered

pub slice_bounds-give-start : goal.slice_bounds-give-start
slice_bounds-give-start c =
    let a = c.args in
    (found a.d a.block.now c.in_ok-open_number.ensures (sym c.column_of.ensures ∙ c.in-Some.is) c.place_of-place.ensures).ordered

pub slice_bounds-give-end : goal.slice_bounds-give-end
slice_bounds-give-end c =
    let a = c.args in
    (found a.d a.block.now c.in_ok-open_number.ensures (sym c.column_of.ensures ∙ c.in-Some.is) c.place_of-place.ensures).inside

pub give-requires : goal.give-requires
give-requires c =
    let a = c.args in
    let names = sym c.column_of.ensures ∙ c.in-Some.is in
    let s = found a.d a.block.now c.in_ok-open_number.ensures names c.place_of-place.ensures in
    (s.few, part-short s (rules-kept a.d a.block.now c.in_ok-open_number.ensures names).0, s.sound, s.slot)

pub returns : goal.returns
returns c =
    let a = c.args in
    let names = sym c.column_of.ensures ∙ c.in-Some.is in
    let all = gives_as c.give.result
    (place-shown a.d a.block.now c.in_ok-open_number.ensures a.r (areas a.values.now a.flags.now a.ends.now a.bytes.now) names
    (found a.d a.block.now c.in_ok-open_number.ensures names c.place_of-place.ensures) c.if-d-r.false)
    (c.give.ensures.value, c.give.ensures.bytes_after) in
    record { value = all.0; bytes_after = all.1 }
