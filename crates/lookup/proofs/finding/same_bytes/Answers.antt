-- `lookup::finding::same_bytes` meets its contract: bytes of another length are others. Assumes nothing.
use Prim.Native.Nat.{ℕ}
use native.Mathlib.Omega.{arith}
use mathlib.Core.Path.{ap, ◌∙◌}
use lib.ListN.{take, drop}
use Rattle.plain.specs.Rows.{same_bytes}
use Rattle.lookup.proofs.Alike.{length-other}
use Rattle.lookup.proofs.finding.same_bytes.Goals as goal

pub returns-then-t-n : goal.returns-then-t-n
returns-then-t-n c =
    let a = c.args in
    length-other a.s.now a.from a.n a.t.now c.requires c.if-t-n.true

pub same_as-requires : goal.same_as-requires
same_as-requires c = omega (arith, c.requires, c.if-t-n.false)

pub returns : goal.returns
returns c =
    let a = c.args in
    c.same_as.ensures ∙ ap (λ (m : ℕ). same_bytes a.t.now (take m (drop a.from a.s.now))) c.if-t-n.false
