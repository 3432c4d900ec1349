-- `write_keys` meets its contract. The loop's invariant is `Laying`. Assumes nothing.
use native.Mathlib.Omega.{arith}
use Prim.Native.Nat.{ℕ}
use mathlib.Core.Path.{ap, ◌∙◌}
use lib.IntN.{pos}
use mir.Syntax.{w32}
use mir.Val.{of_z, SFits}
use mir.Facts.{to_z-of_z}
use lib.ListN.{get_or}
use lib.Seq.{sets}
use Rattle.encode.specs.Bytes.{little}
use Rattle.emit.proofs.SlotLoops as laws
use Rattle.emit.proofs.write_keys.Invariants.{bytes}
use Rattle.emit.proofs.write_keys.Goals as goal

pub loop-i-init : goal.loop-i-init
loop-i-init c = laws.laying-start bytes _ _ _ _ c.requires.1

pub put_low4-to-requires : goal.put_low4-to-requires
put_low4-to-requires c = laws.laying-room bytes c.loop-i.invariant (pos 0) (omega arith) (omega arith)

pub loop-i-preserved : goal.loop-i-preserved
loop-i-preserved c =
    let l = c.loop-i in
    let key = get_or c.args.keys.now l.i (pos 0) in
    let known : SFits w32 key = record { sfits = c.key_bits-arg-1.given } in
    laws.laying-step
    bytes
    l.invariant
    (pos 0)
    (omega arith)
    (omega arith)
    c.put_low4-to.ensures.value
    (c.put_low4-to.ensures.out_after ∙ ap (λ (u : ℕ). sets l.out l.to (little 4 u)) (c.key_bits.ensures ∙ ap (of_z w32) (to_z-of_z known)))

pub shape_of-out : goal.shape_of-out
shape_of-out c = c.loop-i.invariant.long

pub returns : goal.returns
returns c =
    let all = laws.laying-end bytes c.loop-i.invariant (omega arith) in
    record { value = all.0; out_after = all.1 }
