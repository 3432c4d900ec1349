-- `write_bitmap` meets its contract: the bits, and their byte length behind them. Assumes nothing.
use native.Mathlib.Omega.{arith}
use Rattle.emit.proofs.Writing as laws
use Rattle.emit.proofs.write_bitmap.Goals as goal

pub write_bits-requires : goal.write_bits-requires
write_bits-requires c =
    let r = laws.bitmap-room c.args.out.now c.args.at c.args.n c.args.flags.now c.requires.2 in
    (c.requires.1, omega arith)

pub overflow_add-at : goal.overflow_add-at
overflow_add-at c =
    let r = laws.bitmap-room c.args.out.now c.args.at c.args.n c.args.flags.now c.requires.2 in
    omega arith

pub put_low4-requires : goal.put_low4-requires
put_low4-requires c =
    let r = laws.bitmap-room c.args.out.now c.args.at c.args.n c.args.flags.now c.requires.2 in
    omega arith

pub returns : goal.returns
returns c =
    let a = c.args in
    let all = laws.laid-bitmap a.out.now a.at a.n a.flags.now c.bitmap_len-len.ensures.0 c.write_bits.ensures (c.put_low4.ensures.value, c.put_low4.ensures.out_after) in
    record { value = all.0; out_after = all.1 }
