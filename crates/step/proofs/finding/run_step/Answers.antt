-- `step::run_step` meets its contract: each return by the law of the tests and arms that led there. Assumes nothing.
use lib.IntN.{ℤ}
use Rattle.step.specs.Steps.{joins_run}
use Rattle.step.proofs.Steps as laws
use Rattle.lookup.specs.Held.{held}
use Rattle.lookup.proofs.There.{fields-apart, item-there}
use Rattle.plain.specs.Rows.{row_of}
use Rattle.step.proofs.finding.run_step.Goals as goal

pub returns-then-c-eq0 : goal.returns-then-c-eq0
returns-then-c-eq0 c =
    let a = c.args in
    laws.run-first a.kind a.c a.items.now a.ends.now a.lens.now (row_of a.kind a.present a.value a.item.now) c.if-c-eq0.true

pub field_wrong-requires : goal.field_wrong-requires
field_wrong-requires c =
    let a = c.args in
    (laws.below a.c.runs c.if-c-eq0.false, fields-apart a.kind a.c.runs a.items.now a.ends.now a.lens.now c.requires.1)

pub returns-then-field_wrong : goal.returns-then-field_wrong
returns-then-field_wrong c =
    let a = c.args in
    laws.run-wrong a.kind a.c a.items.now a.ends.now a.lens.now (row_of a.kind a.present a.value a.item.now)
    (laws.some a.c.runs c.if-c-eq0.false) c.field_wrong.ensures c.if-field_wrong.true

pub joins_run-joins-requires : goal.joins_run-joins-requires
joins_run-joins-requires c =
    let a = c.args in (
      laws.some a.c.runs c.if-c-eq0.false,
      item-there a.kind a.c.runs a.c.bytes
          (held a.items.now a.ends.now a.lens.now) _ (laws.below a.c.runs c.if-c-eq0.false) c.requires.0 c.requires.1 c.requires.2
          (laws.field-right a.kind a.c a.items.now a.ends.now a.lens.now (row_of a.kind a.present a.value a.item.now)
          c.field_wrong.ensures c.if-field_wrong.false),
    )

pub returns : goal.returns
returns c =
    let a = c.args in
    laws.run-next a.kind a.c a.items.now a.ends.now a.lens.now (row_of a.kind a.present a.value a.item.now)
    (laws.some a.c.runs c.if-c-eq0.false) c.field_wrong.ensures c.if-field_wrong.false
    (laws.through (λ (v : ℤ). joins_run a.kind a.c (held a.items.now a.ends.now a.lens.now) (row_of a.kind a.present v a.item.now))
    a.value c.ranges.value c.joins_run-joins.ensures)
