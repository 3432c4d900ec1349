-- `write_bits` meets its contract: the whole bytes are copied, and the last one's unused bits are cleared. Assumes nothing.
use native.Mathlib.Omega.{arith}
use Rattle.nullable.specs.Nullable.{bitmap_length}
use Rattle.emit.proofs.Bits as laws
use Rattle.emit.proofs.write_bits.Goals as goal

pub copy-requires : goal.copy-requires
unfolding bitmap_length
copy-requires c = omega arith

pub bounds-flags-whole : goal.bounds-flags-whole
unfolding bitmap_length
bounds-flags-whole c = omega arith

pub bounds-out-at : goal.bounds-out-at
unfolding bitmap_length
bounds-out-at c = omega arith

pub returns-then-rest-ne0 : goal.returns-then-rest-ne0
unfolding bitmap_length
returns-then-rest-ne0 c =
    let a = c.args in
    laws.laid-rest
    a.n
    a.flags.now
    (λ k. omega (arith, c.type_inv.flags k))
    (omega arith)
    a.out.now
    a.at
    c.if-rest-ne0.true
    c.low_bits.ensures
    c.copy.ensures

pub returns-else-rest-ne0 : goal.returns-else-rest-ne0
unfolding bitmap_length
returns-else-rest-ne0 c =
    let a = c.args in
    laws.laid-whole
    a.n
    a.flags.now
    (λ k. omega (arith, c.type_inv.flags k))
    (omega arith)
    a.out.now
    a.at
    (omega arith)
    c.copy.ensures
