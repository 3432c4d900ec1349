-- `append_times::several` meets its contract: each return cites what the tests have shown. Assumes nothing.
use mathlib.Core.Path.{◌≡◌, refl, ap, ◌∙◌}
use lib.IntN.{ℤ}
use mir.Syntax.{w64}
use mir.Val.{of_z, to_z}
use mir.Facts.{to_z-of_z}
use Rattle.plain.specs.Rows.{Row, row_of}
use Rattle.std.specs.Prelude.{Result}
use Rattle.limits.specs.declared.refusal.Refusal.{Refusal}
use Rattle.limits.specs.Refusals.{refusal_number}
use Rattle.needs.specs.declared.Counted.{Counted}
use Rattle.step.specs.Counting.{next_of, answered, counted_by}
use Rattle.limits.proofs.Refused.{refusal-some}
use Rattle.step.proofs.Answered.{passed_on}
use Rattle.append.specs.Appending.{Lent, lent, room_of, added_to}
use Rattle.copies.specs.Copies.{stage}
use Rattle.append_times.proofs.Whole as laws
use Rattle.append_times.proofs.several.Goals as goal

-- ---- the needs
pub returns-then-n-eq0 : goal.returns-then-n-eq0
returns-then-n-eq0 c =
    let areas : Lent = let a = c.args in lent a.items.now a.ends.now a.flags.now a.counts.now a.keys.now a.lens.now in
    let row : Row = let a = c.args in row_of a.kind a.present a.value a.item.now in
    let a = c.args in
    laws.none_told a.kind a.e a.c (areas) a.n (row) c.requires.0 c.if-n-eq0.true refl

pub all_taken-requires : goal.all_taken-requires
all_taken-requires c =
    let areas : Lent = let a = c.args in lent a.items.now a.ends.now a.flags.now a.counts.now a.keys.now a.lens.now in
    let row : Row = let a = c.args in row_of a.kind a.present a.value a.item.now in
    let a = c.args in
    laws.count-asks a.kind a.e a.c (areas) a.n (row) c.requires.0 c.if-n-eq0.false

pub returns-in_err-all_taken : goal.returns-in_err-all_taken
unfolding room_of
returns-in_err-all_taken c =
    let areas : Lent = let a = c.args in lent a.items.now a.ends.now a.flags.now a.counts.now a.keys.now a.lens.now in
    let row : Row = let a = c.args in row_of a.kind a.present a.value a.item.now in
    let answer : let a = c.args in
    next_of (refusal_number c.in_err-all_taken.field-0.0) a.c ≡ counted_by a.kind a.e a.c (room_of (areas)) (laws.all_counted a.kind a.e a.c a.n (row) a.stored a.joins) = let a = c.args in
    laws.counted-row a.kind a.e a.c (room_of (areas)) a.n a.present a.value a.item.now a.stored a.joins c.requires.1 c.in_err-all_taken.ensures in
    let a = c.args in
    ap (λ (x : Result Counted Refusal). added_to (answered a.c x) (areas)) (passed_on _ c.from_residual.ensures.1)
    ∙ laws.refused-told a.kind a.e a.c (areas) a.n (row) c.requires.0 c.if-n-eq0.false (answer) (refusal-some _)

pub write_all-requires : goal.write_all-requires
unfolding room_of
write_all-requires c =
    let row : Row = let a = c.args in row_of a.kind a.present a.value a.item.now in
    let passed : let a = c.args in row_of a.kind a.present (to_z w64 (of_z w64 a.value)) a.item.now ≡ row = let a = c.args in
    ap (λ (v : ℤ). row_of a.kind a.present v a.item.now) (to_z-of_z c.ranges.value) in
    let areas : Lent = let a = c.args in lent a.items.now a.ends.now a.flags.now a.counts.now a.keys.now a.lens.now in
    let answer : let a = c.args in
    next_of 0 c.in_ok-all_taken.field-0 ≡ counted_by a.kind a.e a.c (room_of (areas)) (laws.all_counted a.kind a.e a.c a.n (row) a.stored a.joins) = let a = c.args in
    laws.counted-row a.kind a.e a.c (room_of (areas)) a.n a.present a.value a.item.now a.stored a.joins c.requires.1 c.in_ok-all_taken.ensures in
    let a = c.args in (
      laws.holds-passed a.kind a.e a.stored a.joins a.n (passed)
          (laws.write-asks a.kind a.e a.c (areas) a.n (row) c.requires.0 c.if-n-eq0.false (answer) refl),
      laws.length-passed a.kind a.e a.stored a.joins a.n (passed) c.requires.1,
    )

pub returns : goal.returns
unfolding room_of
returns c =
    let areas : Lent = let a = c.args in lent a.items.now a.ends.now a.flags.now a.counts.now a.keys.now a.lens.now in
    let row : Row = let a = c.args in row_of a.kind a.present a.value a.item.now in
    let answer : let a = c.args in
    next_of 0 c.in_ok-all_taken.field-0 ≡ counted_by a.kind a.e a.c (room_of (areas)) (laws.all_counted a.kind a.e a.c a.n (row) a.stored a.joins) = let a = c.args in
    laws.counted-row a.kind a.e a.c (room_of (areas)) a.n a.present a.value a.item.now a.stored a.joins c.requires.1 c.in_ok-all_taken.ensures in
    let passed : let a = c.args in row_of a.kind a.present (to_z w64 (of_z w64 a.value)) a.item.now ≡ row = let a = c.args in
    ap (λ (v : ℤ). row_of a.kind a.present v a.item.now) (to_z-of_z c.ranges.value) in
    let a = c.args in
    laws.all_told a.kind a.e a.c (areas) a.n (row) c.requires.0 c.if-n-eq0.false (answer) refl
    (laws.times-passed a.kind a.e a.stored a.joins a.n (passed) (to_z-of_z c.ranges.key) (stage a.c (areas)) c.write_all.ensures)
