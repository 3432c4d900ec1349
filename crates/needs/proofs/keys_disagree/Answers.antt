-- `needs::keys_disagree` meets its contract: each return by the law of the tests that led there. Assumes nothing.
use mathlib.Core.Path.{refl}
use native.Mathlib.Omega.{arith}
use Rattle.format.specs.declared.Encoding.TheVariants.{Dictionary}
use Rattle.needs.proofs.Limits.{keys-within}
use Rattle.needs.proofs.Wrong as wrong
use Rattle.needs.proofs.keys_disagree.Goals as goal

pub returns-then-keys_wrong : goal.returns-then-keys_wrong
returns-then-keys_wrong c = let a = c.args in wrong.disagree-record a.kind Dictionary a.c a.room c.keys_wrong.ensures c.if-keys_wrong.true

pub keys_short-requires : goal.keys_short-requires
keys_short-requires c =
    let a = c.args in
    let w = (keys-within a.c (wrong.past-not a.kind Dictionary a.c c.keys_wrong.ensures c.if-keys_wrong.false) refl).1 in
    omega (arith, w)

pub returns : goal.returns
returns c =
    let a = c.args in
    wrong.disagree-areas a.kind Dictionary a.c a.room c.keys_wrong.ensures c.if-keys_wrong.false c.keys_short.ensures
