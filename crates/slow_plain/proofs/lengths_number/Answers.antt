-- `lengths_number` meets its contract: each arm is the rule of its kind. Assumes nothing.
use Prim.Native.Nat.{◌<◌}
use native.Mathlib.Omega.{arith}
use borrow.Author.Rules.{rules}
use Rattle.plain.proofs.Numbers.{product_small}
use Rattle.slow_plain.proofs.Values.{width-eight}
use Rattle.slow_plain.proofs.Pieces.{fixed-lengths, char-lengths, blob-lengths}
use Rattle.slow_plain.proofs.lengths_number.Goals as goal

pub overflow_mul-n : goal.overflow_mul-n
overflow_mul-n c =
    let f = width-eight c.in-Fixed.p in
    let p = product_small c.args.n c.width_of.result (omega arith) (omega (arith, c.width_of.ensures)) in
    omega arith

pub overflow_mul-n-in-Char : goal.overflow_mul-n-in-Char
overflow_mul-n-in-Char c =
    let w = c.in-Char.w in
    let b : w < 256 = search rules in
    let p = product_small c.args.n w (omega arith) b in
    omega arith

pub returns-in-Fixed : goal.returns-in-Fixed
returns-in-Fixed c =
    fixed-lengths _ _ c.in-Fixed.p c.in-Fixed.is c.width_of.ensures c.whole.ensures

pub returns-in-Char : goal.returns-in-Char
returns-in-Char c = char-lengths _ _ c.in-Char.is c.whole-in-Char.ensures

pub returns-in-Blob : goal.returns-in-Blob
returns-in-Blob c = blob-lengths _ _ c.in-Blob.is c.ends_number.ensures
