-- `lent_same` meets its contract: each area is told by its own test. Assumes nothing.
use mathlib.Core.Path.{◌≡◌, refl}
use Rattle.std.proofs.lemmas.Bool.Decides.{Decides-eqb, Decides-int_eq}
use Rattle.std.proofs.lemmas.Slice.Eq.{slice_eq-Decides}
use Rattle.night_rows.specs.Night.{Tells}
use Rattle.night_rows.proofs.Lent as laws
use Rattle.night_rows.proofs.lent_same.Goals as goal
use Rattle.night_rows.proofs.lent_same.Goals.{then-eq, else-eq, then-eq-2, else-eq-2}

pub returns-then-eq-3 : goal.returns-then-eq-3
returns-then-eq-3 c =
    let a = c.args in
    let values = laws.told (slice_eq-Decides Decides-int_eq _ _ _ c.eq.ensures) in
    let two : Tells c.if-eq.value ((a.v.now ≡ a.w.now) × (a.f.now ≡ a.g.now)) = elim c.if-eq.branch [
      | then-eq w ↦ laws.both values (laws.told (slice_eq-Decides Decides-eqb _ _ _ w.eq-then-eq.ensures)) w.if-eq.true w.value-is
      | else-eq w ↦ laws.neither values w.if-eq.false w.value-is
    ] in
    let three : Tells c.if-eq-2.value (((a.v.now ≡ a.w.now) × (a.f.now ≡ a.g.now)) × (a.e.now ≡ a.h.now)) = elim c.if-eq-2.branch [
      | then-eq-2 w ↦ laws.both two (laws.told (slice_eq-Decides Decides-eqb _ _ _ w.eq-then-eq-2.ensures)) w.if-eq-2.true w.value-is
      | else-eq-2 w ↦ laws.neither two w.if-eq-2.false w.value-is
    ] in
    laws.parts-tell (laws.both three (laws.told (slice_eq-Decides Decides-eqb _ _ _ c.eq-then-eq-3.ensures)) c.if-eq-3.true refl)

pub returns-else-eq-3 : goal.returns-else-eq-3
returns-else-eq-3 c =
    let a = c.args in
    let values = laws.told (slice_eq-Decides Decides-int_eq _ _ _ c.eq.ensures) in
    let two : Tells c.if-eq.value ((a.v.now ≡ a.w.now) × (a.f.now ≡ a.g.now)) = elim c.if-eq.branch [
      | then-eq w ↦ laws.both values (laws.told (slice_eq-Decides Decides-eqb _ _ _ w.eq-then-eq.ensures)) w.if-eq.true w.value-is
      | else-eq w ↦ laws.neither values w.if-eq.false w.value-is
    ] in
    let three : Tells c.if-eq-2.value (((a.v.now ≡ a.w.now) × (a.f.now ≡ a.g.now)) × (a.e.now ≡ a.h.now)) = elim c.if-eq-2.branch [
      | then-eq-2 w ↦ laws.both two (laws.told (slice_eq-Decides Decides-eqb _ _ _ w.eq-then-eq-2.ensures)) w.if-eq-2.true w.value-is
      | else-eq-2 w ↦ laws.neither two w.if-eq-2.false w.value-is
    ] in
    laws.parts-tell (laws.neither three c.if-eq-3.false refl)
