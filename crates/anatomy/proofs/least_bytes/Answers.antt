-- `anatomy::least_bytes` meets its contract: each arm is the law of its kind. Assumes nothing.
use Prim.Native.Nat.{◌≤◌}
use native.Mathlib.Omega.{arith}
use borrow.Author.Rules.{rules}
use Rattle.anatomy.proofs.NumberTests as laws
use Rattle.anatomy.proofs.least_bytes.Goals as goal

pub overflow_mul-result : goal.overflow_mul-result
overflow_mul-result c =
    let p = laws.least-fixed _ c.args.n c.requires _ c.in-Fixed.is c.width.ensures in
    omega arith

pub overflow_mul-result-in-Char : goal.overflow_mul-result-in-Char
overflow_mul-result-in-Char c =
    let l : c.in-Char.w ≤ 255 = search rules in
    let p = laws.least-char _ c.args.n c.requires c.in-Char.w c.in-Char.is l in
    omega arith

pub returns-in-Fixed : goal.returns-in-Fixed
returns-in-Fixed c = laws.least-fixed _ _ c.requires _ c.in-Fixed.is c.width.ensures

pub returns-in-Char : goal.returns-in-Char
returns-in-Char c =
    let l : c.in-Char.w ≤ 255 = search rules in
    laws.least-char _ _ c.requires c.in-Char.w c.in-Char.is l

pub returns-in-Blob : goal.returns-in-Blob
returns-in-Blob c = laws.least-blob _ _ c.requires c.in-Blob.is
