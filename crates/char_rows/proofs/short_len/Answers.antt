-- `short_len` meets its contract. The loop's invariant: the nearest NUL so far. Assumes nothing.
use mathlib.Core.Path.{refl}
use native.Mathlib.Omega.{arith}
use Rattle.char_rows.proofs.FirstNul.{nearest-start, nearest-step, nearest-end}
use Rattle.char_rows.proofs.short_len.Goals as goal

pub loop-k-init : goal.loop-k-init
loop-k-init c = nearest-start _ _ _ _ refl

pub loop-k-preserved : goal.loop-k-preserved
loop-k-preserved c = nearest-step c.loop-k.invariant (omega arith) (omega arith) c.nul_at.ensures c.lower-len.ensures

pub returns : goal.returns
returns c = (nearest-end c.loop-k.invariant (omega arith), c.loop-k.invariant.short)
