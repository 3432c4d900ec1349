-- `plain_from` meets its contract: each return by the law of its kind. Assumes nothing.
use mathlib.Core.Path.{refl}
use native.Mathlib.Omega.{arith}
use Rattle.encode.specs.Kinds.{layout_of}
use Rattle.plain.proofs.Numbers.{bytes_small}
use Rattle.limits.proofs.Refused.{refusal-some}
use Rattle.arriving.proofs.Stages as laws
use Rattle.arriving.proofs.plain_from.Goals as goal

pub filled-requires : goal.filled-requires
filled-requires c =
    let b = bytes_small (layout_of c.in-Fixed.p).size in
    (c.requires, omega (arith, c.width.ensures))

pub returns-in-Err : goal.returns-in-Err
returns-in-Err c = laws.chars-wrong _ _ _ _ c.in-Char.is c.in-Err.ensures (refusal-some _) c.settled-in-Err.ensures

pub returns-then-len-n : goal.returns-then-len-n
returns-then-len-n c = laws.blobs-cut _ _ _ _ c.in-Blob.is c.if-len-n.true c.settled-then-len-n.ensures

pub returns-in-Fixed : goal.returns-in-Fixed
returns-in-Fixed c =
    laws.fixed-items _ _ _ _ _ c.in-Fixed.is c.width.ensures c.filled.ensures c.settled.ensures

pub returns-in-Ok : goal.returns-in-Ok
returns-in-Ok c = laws.chars-right _ _ _ _ c.in-Char.is c.in-Ok.ensures refl c.chars_from.ensures

pub returns-else-len-n : goal.returns-else-len-n
returns-else-len-n c = laws.blobs-fit _ _ _ _ c.in-Blob.is (omega arith) c.ends_from.ensures
