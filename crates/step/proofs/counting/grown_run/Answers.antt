-- `step::grown_run` meets its contract: each return by the law of the tests and arms that led there. Assumes nothing.
use Rattle.step.proofs.Growth as laws
use native.Mathlib.Omega.{arith}
use Rattle.step.proofs.counting.grown_run.Goals as goal

pub next_bytes-bytes-requires : goal.next_bytes-bytes-requires
next_bytes-bytes-requires c = (c.requires.2, c.requires.3)

pub overflow_add-result-then-joins : goal.overflow_add-result-then-joins
overflow_add-result-then-joins c = let h = c.requires.5 c.if-joins.true in omega (arith, h)

pub growth-requires : goal.growth-requires
growth-requires c = c.requires.5 c.if-joins.true

pub overflow_add-result-then-joins-2 : goal.overflow_add-result-then-joins-2
overflow_add-result-then-joins-2 c = let h = c.requires.4 in let g = c.growth.ensures.1 in omega (arith, h, g)

pub returns-then-joins : goal.returns-then-joins
returns-then-joins c =
    let a = c.args in
    laws.run-joined a.c a.entries a.present a.len a.stored a.joins c.next_bytes-bytes.ensures
    c.next_null-null.ensures c.if-joins.true c.growth.ensures.0

pub returns : goal.returns
returns c =
    let a = c.args in
    laws.run-begun a.c a.entries a.present a.len a.stored a.joins c.next_bytes-bytes.ensures
    c.next_null-null.ensures c.if-joins.false
