-- `kind_of` meets its contract: each return is the way that `kind_of` goes. Assumes nothing.
use native.Mathlib.Omega.{arith}
use Rattle.encode.specs.Kinds.{kind_of}
use Rattle.encode.proofs.ByNumber.{numbers, char-above, char-within, width-refused}
use Rattle.slow_rules.proofs.Columns.{by_number}
use Rattle.slow_rules.proofs.kind_of.Goals as goal

pub returns-then-width-eq0 : goal.returns-then-width-eq0
unfolding kind_of
returns-then-width-eq0 c = numbers 8 0 c.if-kind-eq8.true c.if-width-eq0.true

pub returns-then-width-gt-MOST_WIDTH : goal.returns-then-width-gt-MOST_WIDTH
returns-then-width-gt-MOST_WIDTH c = let a = c.args in char-above a.kind a.width c.if-kind-eq8.true (λ e. omega arith) (omega arith)

pub returns-then-kind-eq8 : goal.returns-then-kind-eq8
returns-then-kind-eq8 c = let a = c.args in char-within a.kind a.width c.if-kind-eq8.true (λ e. omega arith) (omega arith)

pub returns-then-width-eq0-2 : goal.returns-then-width-eq0-2
returns-then-width-eq0-2 c =
    let a = c.args in
    by_number a.kind a.width c.if-kind-eq8.false (omega arith) c.numbered.ensures

pub returns : goal.returns
returns c = let a = c.args in width-refused a.kind a.width c.if-kind-eq8.false (λ e. omega arith)
