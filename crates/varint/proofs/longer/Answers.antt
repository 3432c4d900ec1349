-- `varint::longer` meets its contract: each return by the law of the bytes looked at. Assumes nothing.
use native.Mathlib.Omega.{arith}
use mathlib.Core.Path.{◌∙◌}
use Rattle.varint.proofs.Reading as laws
use Rattle.varint.proofs.longer.Goals as goal

pub returns-in_err-get : goal.returns-in_err-get
returns-in_err-get c =
    let on0 : laws.On₀ c.args.s.now c.args.at = (omega (arith, c.requires.0), c.requires.1) in
    let on1 : laws.On c.args.s.now c.args.at 1 = (c.requires.0, c.requires.2) in
    c.from_residual.ensures ∙ laws.cut2 _ _ on0 on1 c.in_err-get.ensures.lookup.3

pub returns-then-b2-lt1 : goal.returns-then-b2-lt1
returns-then-b2-lt1 c =
    let on0 : laws.On₀ c.args.s.now c.args.at = (omega (arith, c.requires.0), c.requires.1) in
    let on1 : laws.On c.args.s.now c.args.at 1 = (c.requires.0, c.requires.2) in
    let i2 = c.in_ok-get.ensures.lookup.3 in
    let e2 = c.from-b2.ensures ∙ i2.1 0 in
    laws.long2 _ _ on0 on1 (omega arith) (omega arith)

pub returns-then-b2-lt128 : goal.returns-then-b2-lt128
returns-then-b2-lt128 c =
    let on0 : laws.On₀ c.args.s.now c.args.at = (omega (arith, c.requires.0), c.requires.1) in
    let on1 : laws.On c.args.s.now c.args.at 1 = (c.requires.0, c.requires.2) in
    let i2 = c.in_ok-get.ensures.lookup.3 in
    let e2 = c.from-b2.ensures ∙ i2.1 0 in
    laws.three _ _ _ on0 on1 (omega arith) (omega arith) (omega arith) (omega arith)

pub returns-in_err-get-2 : goal.returns-in_err-get-2
returns-in_err-get-2 c =
    let on0 : laws.On₀ c.args.s.now c.args.at = (omega (arith, c.requires.0), c.requires.1) in
    let on1 : laws.On c.args.s.now c.args.at 1 = (c.requires.0, c.requires.2) in
    let i2 = c.in_ok-get.ensures.lookup.3 in
    let e2 = c.from-b2.ensures ∙ i2.1 0 in
    let on2 : laws.On c.args.s.now c.args.at 2 = omega arith in
    c.from_residual-in_err-get-2.ensures ∙ laws.cut3 _ _ on0 on1 on2 c.in_err-get-2.ensures.lookup.3

pub returns-then-b3-lt1 : goal.returns-then-b3-lt1
returns-then-b3-lt1 c =
    let on0 : laws.On₀ c.args.s.now c.args.at = (omega (arith, c.requires.0), c.requires.1) in
    let on1 : laws.On c.args.s.now c.args.at 1 = (c.requires.0, c.requires.2) in
    let i2 = c.in_ok-get.ensures.lookup.3 in
    let e2 = c.from-b2.ensures ∙ i2.1 0 in
    let i3 = c.in_ok-get-2.ensures.lookup.3 in
    let e3 = c.from-b3.ensures ∙ i3.1 0 in
    let on2 : laws.On c.args.s.now c.args.at 2 = omega arith in
    laws.long3 _ _ on0 on1 on2 (omega arith) (omega arith)

pub returns-then-b3-lt128 : goal.returns-then-b3-lt128
returns-then-b3-lt128 c =
    let on0 : laws.On₀ c.args.s.now c.args.at = (omega (arith, c.requires.0), c.requires.1) in
    let on1 : laws.On c.args.s.now c.args.at 1 = (c.requires.0, c.requires.2) in
    let i2 = c.in_ok-get.ensures.lookup.3 in
    let e2 = c.from-b2.ensures ∙ i2.1 0 in
    let i3 = c.in_ok-get-2.ensures.lookup.3 in
    let e3 = c.from-b3.ensures ∙ i3.1 0 in
    let on2 : laws.On c.args.s.now c.args.at 2 = omega arith in
    laws.four _ _ _ on0 on1 on2 (omega arith) (omega arith) (omega arith) (omega arith)

pub returns-in_err-get-3 : goal.returns-in_err-get-3
returns-in_err-get-3 c =
    let on0 : laws.On₀ c.args.s.now c.args.at = (omega (arith, c.requires.0), c.requires.1) in
    let on1 : laws.On c.args.s.now c.args.at 1 = (c.requires.0, c.requires.2) in
    let i2 = c.in_ok-get.ensures.lookup.3 in
    let e2 = c.from-b2.ensures ∙ i2.1 0 in
    let i3 = c.in_ok-get-2.ensures.lookup.3 in
    let e3 = c.from-b3.ensures ∙ i3.1 0 in
    let on2 : laws.On c.args.s.now c.args.at 2 = omega arith in
    let on3 : laws.On c.args.s.now c.args.at 3 = omega arith in
    c.from_residual-in_err-get-3.ensures ∙ laws.cut4 _ _ on0 on1 on2 on3 c.in_err-get-3.ensures.lookup.3

pub returns-then-b4-lt1 : goal.returns-then-b4-lt1
returns-then-b4-lt1 c =
    let on0 : laws.On₀ c.args.s.now c.args.at = (omega (arith, c.requires.0), c.requires.1) in
    let on1 : laws.On c.args.s.now c.args.at 1 = (c.requires.0, c.requires.2) in
    let i2 = c.in_ok-get.ensures.lookup.3 in
    let e2 = c.from-b2.ensures ∙ i2.1 0 in
    let i3 = c.in_ok-get-2.ensures.lookup.3 in
    let e3 = c.from-b3.ensures ∙ i3.1 0 in
    let i4 = c.in_ok-get-3.ensures.lookup.3 in
    let e4 = c.from-b4.ensures ∙ i4.1 0 in
    let on2 : laws.On c.args.s.now c.args.at 2 = omega arith in
    let on3 : laws.On c.args.s.now c.args.at 3 = omega arith in
    laws.long4 _ _ on0 on1 on2 on3 (omega arith) (omega arith)

pub returns-then-b4-le15 : goal.returns-then-b4-le15
returns-then-b4-le15 c =
    let on0 : laws.On₀ c.args.s.now c.args.at = (omega (arith, c.requires.0), c.requires.1) in
    let on1 : laws.On c.args.s.now c.args.at 1 = (c.requires.0, c.requires.2) in
    let i2 = c.in_ok-get.ensures.lookup.3 in
    let e2 = c.from-b2.ensures ∙ i2.1 0 in
    let i3 = c.in_ok-get-2.ensures.lookup.3 in
    let e3 = c.from-b3.ensures ∙ i3.1 0 in
    let i4 = c.in_ok-get-3.ensures.lookup.3 in
    let e4 = c.from-b4.ensures ∙ i4.1 0 in
    let on2 : laws.On c.args.s.now c.args.at 2 = omega arith in
    let on3 : laws.On c.args.s.now c.args.at 3 = omega arith in
    laws.five _ _ _ on0 on1 on2 on3 (omega arith) (omega arith) (omega arith) (omega arith)

pub returns : goal.returns
returns c =
    let on0 : laws.On₀ c.args.s.now c.args.at = (omega (arith, c.requires.0), c.requires.1) in
    let on1 : laws.On c.args.s.now c.args.at 1 = (c.requires.0, c.requires.2) in
    let i2 = c.in_ok-get.ensures.lookup.3 in
    let e2 = c.from-b2.ensures ∙ i2.1 0 in
    let i3 = c.in_ok-get-2.ensures.lookup.3 in
    let e3 = c.from-b3.ensures ∙ i3.1 0 in
    let i4 = c.in_ok-get-3.ensures.lookup.3 in
    let e4 = c.from-b4.ensures ∙ i4.1 0 in
    let on2 : laws.On c.args.s.now c.args.at 2 = omega arith in
    let on3 : laws.On c.args.s.now c.args.at 3 = omega arith in
    laws.high _ _ on0 on1 on2 on3 (omega arith) (omega arith)
