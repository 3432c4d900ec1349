-- `needs::bytes_wrong` meets its contract: each return by the law of the tests and arms that led there. Assumes nothing.
use Rattle.needs.proofs.Wrong as wrong
use Prim.Native.Nat.{◌≤◌}
use native.Mathlib.Omega.{arith}
use borrow.Author.Rules.{rules}
use Rattle.needs.proofs.bytes_wrong.Goals as goal

pub overflow_mul-result : goal.overflow_mul-result
overflow_mul-result c =
    let p = wrong.fixed-few c.args.kind c.args.n 0 c.requires c.in-Fixed.p c.width.ensures in
    omega arith

pub overflow_mul-result-in-Char : goal.overflow_mul-result-in-Char
overflow_mul-result-in-Char c = let l : c.in-Char.w ≤ 255 = search rules in
    let p = wrong.char-few c.args.kind c.args.n 0 c.requires c.in-Char.w l in
    omega arith

pub returns-then-n-eq0 : goal.returns-then-n-eq0
returns-then-n-eq0 c = wrong.blob-none _ _ _ c.in-Blob.is c.if-n-eq0.true

pub returns-in-Fixed : goal.returns-in-Fixed
returns-in-Fixed c = wrong.fixed-wrong _ _ _ _ c.in-Fixed.is c.width.ensures

pub returns-in-Char : goal.returns-in-Char
returns-in-Char c = wrong.char-wrong _ _ _ _ c.in-Char.is

pub returns-else-n-eq0 : goal.returns-else-n-eq0
returns-else-n-eq0 c = wrong.blob-some _ _ _ c.in-Blob.is c.if-n-eq0.false
