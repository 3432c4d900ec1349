-- `kind_of` meets its contract: each return is the way that `kind_of` goes. Assumes nothing.
use mathlib.Core.Path.{◌≡◌}
use native.Mathlib.Omega.{arith}
use Rattle.encode.specs.Kinds.{numbered, kind_of}
use Rattle.encode.proofs.ByNumber.{numbers, char-above, char-within, width-refused, number-refused}
use Rattle.encode.proofs.kind_of.Goals as goal

pub returns-then-width-eq0 : goal.returns-then-width-eq0
unfolding kind_of
returns-then-width-eq0 c = numbers 8 _ c.if-kind-eq8.true c.if-width-eq0.true

pub returns-then-width-gt-MOST_WIDTH : goal.returns-then-width-gt-MOST_WIDTH
returns-then-width-gt-MOST_WIDTH c = let a = c.args in char-above a.kind a.width c.if-kind-eq8.true (λ e. omega arith) (omega arith)

pub overflow_cast-result : goal.overflow_cast-result
overflow_cast-result c = omega arith

pub returns-then-kind-eq8 : goal.returns-then-kind-eq8
returns-then-kind-eq8 c = let a = c.args in char-within a.kind a.width c.if-kind-eq8.true (λ e. omega arith) (omega arith)

pub returns-then-width-ne0 : goal.returns-then-width-ne0
returns-then-width-ne0 c = let a = c.args in width-refused a.kind a.width c.if-kind-eq8.false (λ e. omega arith)

pub returns-in-0 : goal.returns-in-0
unfolding kind_of numbered
returns-in-0 c =
    let no-width : c.args.width ≡ 0 = omega arith in
    numbers 0 0 c.in-0.is (no-width)

pub returns-in-1 : goal.returns-in-1
unfolding kind_of numbered
returns-in-1 c =
    let no-width : c.args.width ≡ 0 = omega arith in
    numbers 1 0 c.in-1.is (no-width)

pub returns-in-2 : goal.returns-in-2
unfolding kind_of numbered
returns-in-2 c =
    let no-width : c.args.width ≡ 0 = omega arith in
    numbers 2 0 c.in-2.is (no-width)

pub returns-in-3 : goal.returns-in-3
unfolding kind_of numbered
returns-in-3 c =
    let no-width : c.args.width ≡ 0 = omega arith in
    numbers 3 0 c.in-3.is (no-width)

pub returns-in-4 : goal.returns-in-4
unfolding kind_of numbered
returns-in-4 c =
    let no-width : c.args.width ≡ 0 = omega arith in
    numbers 4 0 c.in-4.is (no-width)

pub returns-in-5 : goal.returns-in-5
unfolding kind_of numbered
returns-in-5 c =
    let no-width : c.args.width ≡ 0 = omega arith in
    numbers 5 0 c.in-5.is (no-width)

pub returns-in-6 : goal.returns-in-6
unfolding kind_of numbered
returns-in-6 c =
    let no-width : c.args.width ≡ 0 = omega arith in
    numbers 6 0 c.in-6.is (no-width)

pub returns-in-7 : goal.returns-in-7
unfolding kind_of numbered
returns-in-7 c =
    let no-width : c.args.width ≡ 0 = omega arith in
    numbers 7 0 c.in-7.is (no-width)

pub returns-in-9 : goal.returns-in-9
unfolding kind_of numbered
returns-in-9 c =
    let no-width : c.args.width ≡ 0 = omega arith in
    numbers 9 0 c.in-9.is (no-width)

pub returns-in-10 : goal.returns-in-10
unfolding kind_of numbered
returns-in-10 c =
    let no-width : c.args.width ≡ 0 = omega arith in
    numbers 10 0 c.in-10.is (no-width)

pub returns-in-11 : goal.returns-in-11
unfolding kind_of numbered
returns-in-11 c =
    let no-width : c.args.width ≡ 0 = omega arith in
    numbers 11 0 c.in-11.is (no-width)

pub returns-in_default : goal.returns-in_default
returns-in_default c =
    let no-width : c.args.width ≡ 0 = omega arith in
    let a = c.args in
    let r = c.in_default.in_default-own.rest in
    number-refused a.kind a.width c.if-kind-eq8.false (no-width)
    r.0.0.0.0.0.0.0.0.0.0.1 r.0.0.0.0.0.0.0.0.0.1 r.0.0.0.0.0.0.0.0.1 r.0.0.0.0.0.0.0.1
    r.0.0.0.0.0.0.1 r.0.0.0.0.0.1 r.0.0.0.0.1 r.0.0.0.1 r.0.0.1 r.0.1 r.1
