-- `nullable::blank` meets its contract. The loop's invariant is `Blanking`. Assumes nothing.
use native.Mathlib.Omega.{arith}
use mir.Syntax.{w64}
use mir.Facts.{to_z-of_z}
use borrow.Author.Rules.{rules}
use Rattle.nullable.proofs.Rows as laws
use Rattle.nullable.proofs.blank.Goals as goal

pub loop-i-init : goal.loop-i-init
loop-i-init c = laws.blanking-start _ _ _

pub loop-i-preserved : goal.loop-i-preserved
loop-i-preserved c =
    let v = rw (to_z-of_z {w = w64} (record { sfits = c.shown-arg-1.given })) at c.shown.ensures in
    laws.blanking-step c.loop-i.invariant (omega arith) v (search rules)

pub returns : goal.returns
returns c = laws.blanking-end c.loop-i.invariant (omega arith)
