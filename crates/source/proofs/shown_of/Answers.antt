-- `source::shown_of` meets its contract: what is shown is what is looked at, but for a null bit. Assumes nothing.
use mathlib.Core.Path.{refl, sym, ◌∙◌}
use native.Mathlib.Omega.{arith}
use Rattle.source.proofs.AtPlace as places
use borrow.Enum.Refused.{opened}
use Rattle.source.proofs.shown_of.Goals as goal

pub returns-then-seen-eq0 : goal.returns-then-seen-eq0
returns-then-seen-eq0 c =
    let a = c.args in
    ((λ h. absurd (omega (arith, h))), (λ h. sym (places.shown-none a.s.marks a.marks.now a.i (sym h ∙ c.if-seen-eq0.true))))

pub bit_at-requires : goal.bit_at-requires
bit_at-requires c =
    places.bit-place c.requires.0 c.args.i c.in-Bits.is (omega (arith, c.requires.2 (omega (arith, c.if-seen-eq0.false)), places.bits-seen c.args.marks.now c.args.i c.in-Bits.is))

pub returns-then-bit_at-eq0 : goal.returns-then-bit_at-eq0
returns-then-bit_at-eq0 c =
    let a = c.args in
    ((λ h. absurd (omega (arith, h))), (λ h. places.shown-null a.marks.now a.i c.in-Bits.is c.bit_at.ensures.0 c.if-bit_at-eq0.true))

pub returns-else-bit_at-eq0 : goal.returns-else-bit_at-eq0
returns-else-bit_at-eq0 c =
    let a = c.args in
    ((λ h. refl), (λ h. h ∙ places.bits-seen a.marks.now a.i c.in-Bits.is ∙ places.shown-bit a.marks.now a.i c.in-Bits.is c.bit_at.ensures.0 c.if-bit_at-eq0.false))

pub returns-in-Bare : goal.returns-in-Bare
returns-in-Bare c =
    let a = c.args in
    ((λ h. refl), (λ h. h ∙ places.shown-all a.s.marks a.marks.now a.i (opened c.in-Bare.in-Bare-own.keys2)))
