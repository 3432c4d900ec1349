-- `copies::next_stretch` meets its contract: the rows that join, or one that begins a run. Assumes nothing.
use native.Mathlib.Omega.{arith}
use mathlib.Core.Path.{sym, ◌∙◌}
use Rattle.copies.proofs.Numbers as laws
use Rattle.copies.proofs.limiting.next_stretch.Goals as goal

pub overflow_sub-c : goal.overflow_sub-c
overflow_sub-c c =
    let o = laws.again-open _ _ c.joins_again.ensures c.if-joins_again.true in
    omega (arith, o)

pub joined-requires : goal.joined-requires
joined-requires c =
    let o = laws.again-open _ _ c.joins_again.ensures c.if-joins_again.true in
    let w = laws.small c.args.kind c.args.e c.args.c c.requires.1 (λ _. c.requires.2) in
    (omega (arith, o, c.least-rows.ensures), laws.rows_bound _ _ w, w.counts c.requires.0)

pub returns-then-joins_again : goal.returns-then-joins_again
returns-then-joins_again c =
    let o = laws.again-open _ _ c.joins_again.ensures c.if-joins_again.true in
    laws.stretch-joined c.args.e _ c.args.len c.args.c c.requires.0 (laws.small c.args.kind c.args.e c.args.c c.requires.1 (λ _. c.requires.2))
    c.requires.2 c.args.left c.requires.4 _ (omega (arith, o, c.least-rows.ensures, c.requires.4)) (omega (arith, c.least-rows.ensures)) (omega (arith, o, c.least-rows.ensures))
    c.joined.ensures

pub begun-requires : goal.begun-requires
begun-requires c =
    let w = laws.small c.args.kind c.args.e c.args.c c.requires.1 (λ _. c.requires.2) in
    let j = sym c.joins_again.ensures ∙ c.if-joins_again.false in
    (j, w.past, w.bytes, w.counts, λ t. c.requires.3 (laws.stores-so c.args.e c.args.c j t))

pub returns : goal.returns
returns c =
    laws.stretch-begun c.args.e _ c.args.len c.args.c c.requires.0 (laws.small c.args.kind c.args.e c.args.c c.requires.1 (λ _. c.requires.2))
    c.requires.2 c.args.left c.requires.4 c.requires.3 (sym c.joins_again.ensures ∙ c.if-joins_again.false) c.begun.ensures
