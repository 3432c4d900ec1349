-- `sizes::next_fixed` meets its contract: each return by the law of the tests and arms that led there. Assumes nothing.
use Rattle.sizes.proofs.Estimates as laws
use Prim.Native.Nat.{◌≤◌}
use native.Mathlib.Omega.{arith}
use borrow.Author.Rules.{rules}
use Rattle.sizes.proofs.next_fixed.Goals as goal

pub returns-in-Fixed : goal.returns-in-Fixed
returns-in-Fixed c = laws.next-width _ _ c.in-Fixed.is c.width.ensures

pub returns-in-Char : goal.returns-in-Char
returns-in-Char c = let l : c.in-Char.w ≤ 255 = search rules in
    (laws.next-char _ c.in-Char.w c.in-Char.is, l)

pub returns-in-Blob : goal.returns-in-Blob
returns-in-Blob c = (laws.next-blob _ c.in-Blob.is, omega arith)
