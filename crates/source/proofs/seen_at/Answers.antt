-- `source::seen_at` meets its contract: a place past the last gives a number past the items, and any other the item that it looks at. Assumes nothing.
use mathlib.Core.Path.{sym}
use native.Mathlib.Omega.{arith}
use Rattle.source.proofs.AtPlace as places
use borrow.Enum.Refused.{opened}
use Rattle.source.proofs.seen_at.Goals as goal

pub returns-then-s-i : goal.returns-then-s-i
returns-then-s-i c =
    let a = c.args in
    let m = places.keys-most a.s.items a.s.runs c.in-Keys.is in
    ((λ h. omega arith), (λ h. absurd (omega (arith, m, h, c.if-s-i.true))))

pub slot_at-requires : goal.slot_at-requires
slot_at-requires c =
    places.key-place c.requires.0 c.args.i c.in-Keys.is c.if-s-i.false

pub returns-in-Bare : goal.returns-in-Bare
returns-in-Bare c =
    let a = c.args in
    let m = places.rows-most a.s.marks a.s.items a.s.runs (opened c.in-Bare.in-Bare-own.keys1) in
    ((λ h. omega (arith, m, h)), (λ h. sym (places.rows_seen a.s.marks a.marks.now a.i (opened c.in-Bare.in-Bare-own.keys1))))

pub returns-else-s-i : goal.returns-else-s-i
returns-else-s-i c =
    let a = c.args in
    let m = places.keys-most a.s.items a.s.runs c.in-Keys.is in
    ((λ h. absurd (omega (arith, m, h, c.if-s-i.false))), (λ h. sym (places.keys-seen a.marks.now a.i c.in-Keys.is c.slot_at.ensures.0)))
