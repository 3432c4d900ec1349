-- `step::joins_run` meets its contract: each return by the law of the tests and arms that led there. Assumes nothing.
use Prim.Native.Nat.{◌-◌}
use lib.IntN.{ℤ}
use Rattle.lookup.specs.Held.{held, held_row}
use Rattle.plain.specs.Rows.{value_of, same}
use Rattle.step.proofs.Steps as laws
use Rattle.step.proofs.finding.joins_run.Goals as goal

pub returns-then-c-ne0 : goal.returns-then-c-ne0
returns-then-c-ne0 c =
    let a = c.args in
    laws.joins-null a.kind a.c (held a.items.now a.ends.now a.lens.now) a.present a.value a.item.now
    c.run_open.ensures c.if-run_open.true c.if-c-ne0.true

pub returns-then-present : goal.returns-then-present
returns-then-present c =
    let a = c.args in
    laws.joins-item a.kind a.c (held a.items.now a.ends.now a.lens.now) a.present a.value a.item.now
    c.run_open.ensures c.if-run_open.true
    c.if-c-ne0.false c.if-present.true
    (laws.through (λ (v : ℤ). same (value_of a.kind v a.item.now) (held_row a.kind (held a.items.now a.ends.now a.lens.now) (a.c.runs - 1)))
    a.value c.ranges.value c.same_item.ensures)

pub returns-then-run_open : goal.returns-then-run_open
returns-then-run_open c =
    let a = c.args in
    laws.joins-none a.kind a.c (held a.items.now a.ends.now a.lens.now) a.present a.value a.item.now
    c.run_open.ensures c.if-run_open.true c.if-c-ne0.false c.if-present.false

pub returns : goal.returns
returns c =
    let a = c.args in
    laws.joins-closed a.kind a.c (held a.items.now a.ends.now a.lens.now) a.present a.value a.item.now c.run_open.ensures c.if-run_open.false
