-- `varint::decode_u32` meets its contract: each return by the law of the bytes looked at. Assumes nothing.
use native.Mathlib.Omega.{arith}
use mathlib.Core.Path.{◌∙◌}
use Rattle.varint.proofs.Reading as laws
use Rattle.varint.proofs.decode_u32.Goals as goal

pub returns-in_err-get : goal.returns-in_err-get
returns-in_err-get c =
    c.from_residual.ensures ∙ laws.cut0 _ _ c.in_err-get.ensures.lookup.3

pub returns-then-b0-lt128 : goal.returns-then-b0-lt128
returns-then-b0-lt128 c =
    let i0 = c.in_ok-get.ensures.lookup.3 in
    let e0 = c.from-b0.ensures ∙ i0.1 0 in
    laws.one _ _ _ (omega arith) (omega arith)

pub returns-in_err-get-2 : goal.returns-in_err-get-2
returns-in_err-get-2 c =
    let i0 = c.in_ok-get.ensures.lookup.3 in
    let e0 = c.from-b0.ensures ∙ i0.1 0 in
    c.from_residual-in_err-get-2.ensures ∙ laws.cut1 _ _ (omega arith) c.in_err-get-2.ensures.lookup.3

pub returns-then-b1-lt1 : goal.returns-then-b1-lt1
returns-then-b1-lt1 c =
    let i0 = c.in_ok-get.ensures.lookup.3 in
    let e0 = c.from-b0.ensures ∙ i0.1 0 in
    let i1 = c.in_ok-get-2.ensures.lookup.3 in
    let e1 = c.from-b1.ensures ∙ i1.1 0 in
    laws.long1 _ _ (omega arith) (omega arith) (omega arith)

pub returns-then-b1-lt128 : goal.returns-then-b1-lt128
returns-then-b1-lt128 c =
    let i0 = c.in_ok-get.ensures.lookup.3 in
    let e0 = c.from-b0.ensures ∙ i0.1 0 in
    let i1 = c.in_ok-get-2.ensures.lookup.3 in
    let e1 = c.from-b1.ensures ∙ i1.1 0 in
    laws.two _ _ _ (omega arith) (omega arith) (omega arith) (omega arith) (omega arith)
