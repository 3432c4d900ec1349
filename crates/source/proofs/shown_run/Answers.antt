-- `source::shown_run` meets its contract: a piece that is good is there, and its place shows an item where it has rows. Assumes nothing.
use mathlib.Core.Bool.{true}
use mathlib.Core.Path.{◌≡◌, refl, sym}
use native.Mathlib.Omega.{arith}
use Rattle.source.specs.Rows.{good_by}
use Rattle.source.proofs.AtPlace as places
use Rattle.source.proofs.Progress as pieces
use Rattle.source.proofs.shown_run.Goals as goal

pub returns-in_default : goal.returns-in_default
returns-in_default c =
    absurd (pieces.good-there _ _ c.requires.2 c.in_default.ensures refl)

pub returns-then-rows-eq0 : goal.returns-then-rows-eq0
returns-then-rows-eq0 c = (
  sym c.in-Some.ensures,
  (λ h. absurd (omega (arith, h, c.if-rows-eq0.true))),
  omega arith,
  (λ h. absurd (omega (arith, h))),
)

pub shown_at-slot-requires : goal.shown_at-slot-requires
shown_at-slot-requires c =
    let good : let a = c.args in good_by a.s a.marks.now a.items.now a.at.run ≡ true = pieces.good-shows _ _ c.requires.2 c.in-Some.ensures refl (omega arith) in
    (c.requires.0, good)

pub returns : goal.returns
returns c =
    let good : let a = c.args in good_by a.s a.marks.now a.items.now a.at.run ≡ true = pieces.good-shows _ _ c.requires.2 c.in-Some.ensures refl (omega arith) in (
      sym c.in-Some.ensures,
      (λ h. c.shown_at-slot.ensures.0),
      c.shown_at-slot.ensures.1,
      (λ h. places.slot-ends c.requires.0 c.args.at.run (good) c.shown_at-slot.ensures.0 (λ z. omega (arith, h, z))),
    )
