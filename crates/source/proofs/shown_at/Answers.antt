-- `source::shown_at` meets its contract: a good place has its bit or its key in the marks, and shows none but the items that there are. Assumes nothing.
use native.Mathlib.Omega.{arith}
use Rattle.source.proofs.AtPlace as places
use Rattle.source.proofs.shown_at.Goals as goal

pub overflow_add-result : goal.overflow_add-result
overflow_add-result c =
    omega (arith, places.good-bare c.requires.0 c.args.i c.requires.1 c.in-Bare.is, c.requires.0.few)

pub bit_at-requires : goal.bit_at-requires
bit_at-requires c =
    places.bit-place c.requires.0 c.args.i c.in-Bits.is (places.good-bits c.requires.0 c.args.i c.requires.1 c.in-Bits.is)

pub overflow_add-result-else-bit_at-eq0 : goal.overflow_add-result-else-bit_at-eq0
overflow_add-result-else-bit_at-eq0 c =
    omega (arith, places.good-bits c.requires.0 c.args.i c.requires.1 c.in-Bits.is, c.requires.0.few)

pub slot_at-requires : goal.slot_at-requires
slot_at-requires c =
    places.key-place c.requires.0 c.args.i c.in-Keys.is (places.good-keys c.requires.0 c.args.i c.requires.1 c.in-Keys.is)

pub returns-in-Bare : goal.returns-in-Bare
returns-in-Bare c =
    let e = places.shown-bare c.args.marks.now c.args.i c.in-Bare.is in
    (e, places.slot-most c.requires.0 c.args.i c.requires.1 e)

pub returns-then-bit_at-eq0 : goal.returns-then-bit_at-eq0
returns-then-bit_at-eq0 c =
    let e = places.shown-null c.args.marks.now c.args.i c.in-Bits.is c.bit_at.ensures.0 c.if-bit_at-eq0.true in
    (e, places.slot-most c.requires.0 c.args.i c.requires.1 e)

pub returns-else-bit_at-eq0 : goal.returns-else-bit_at-eq0
returns-else-bit_at-eq0 c =
    let e = places.shown-bit c.args.marks.now c.args.i c.in-Bits.is c.bit_at.ensures.0 c.if-bit_at-eq0.false in
    (e, places.slot-most c.requires.0 c.args.i c.requires.1 e)

pub returns-in-Keys : goal.returns-in-Keys
returns-in-Keys c =
    let e = places.shown-key c.args.marks.now c.args.i c.in-Keys.is c.slot_at.ensures.0 in
    (e, places.slot-most c.requires.0 c.args.i c.requires.1 e)
