-- `step::run_counted` meets its contract: each return by the law of the tests that led there. Assumes nothing.
use mathlib.Core.Path.{◌≡◌, refl}
use mathlib.Core.Bool.{cond}
use Rattle.needs.specs.Tests.{runs_by}
use Rattle.needs.proofs.Encodings.{runs-coded}
use Rattle.needs.proofs.Limits.{runs-within, within}
use Rattle.needs.proofs.Wrong.{Right, right}
use Rattle.step.specs.Counting.{grown}
use Rattle.step.proofs.Growth as laws
use Rattle.step.proofs.counting.run_counted.Goals as goal

pub returns-then-too_long : goal.returns-then-too_long
returns-then-too_long c =
    let a = c.args in
    laws.long-past a.kind (runs_by a.nullable) a.c a.room (cond a.present 1 0) a.len a.stored a.joins (λ _. c.requires.2)
    c.too_long.ensures c.if-too_long.true

pub grown_run-next-requires : goal.grown_run-next-requires
grown_run-next-requires c =
    let given : Right c.args.kind (runs_by c.args.nullable) c.args.c = right c.args.kind (runs_by c.args.nullable) c.args.c c.requires.0 in
    let a = c.args in
    let w = given in
    let t = runs-coded a.nullable in
    (w.few.rows, w.few.runs t, w.bytes, laws.long-not a.stored a.len c.too_long.ensures c.if-too_long.false, w.counts t, c.requires.1)

pub runs_past-requires : goal.runs_past-requires
runs_past-requires c =
    let next : let a = c.args in
    c.grown_run-next.result ≡ grown (runs_by a.nullable) a.c (cond a.present 1 0) a.len a.stored a.joins = let a = c.args in
    laws.run-same a.c (cond a.present 1 0) a.len a.stored a.joins c.grown_run-next.ensures a.nullable refl in
    let given : Right c.args.kind (runs_by c.args.nullable) c.args.c = right c.args.kind (runs_by c.args.nullable) c.args.c c.requires.0 in
    let a = c.args in
    laws.next-few a.kind (runs_by a.nullable) a.c (cond a.present 1 0) a.len a.stored a.joins (next) (given)
    (laws.long-not a.stored a.len c.too_long.ensures c.if-too_long.false) c.requires.1 (runs-coded a.nullable)

pub returns-then-runs_past : goal.returns-then-runs_past
returns-then-runs_past c =
    let next : let a = c.args in
    c.grown_run-next.result ≡ grown (runs_by a.nullable) a.c (cond a.present 1 0) a.len a.stored a.joins = let a = c.args in
    laws.run-same a.c (cond a.present 1 0) a.len a.stored a.joins c.grown_run-next.ensures a.nullable refl in
    let a = c.args in
    laws.counted-limits a.kind (runs_by a.nullable) a.c a.room (next) c.runs_past.ensures c.if-runs_past.true

pub runs_short-requires : goal.runs_short-requires
runs_short-requires c =
    let a = c.args in
    runs-within _ (within a.kind (runs_by a.nullable) _ c.runs_past.ensures c.if-runs_past.false) a.nullable refl

pub returns-then-runs_short : goal.returns-then-runs_short
returns-then-runs_short c =
    let next : let a = c.args in
    c.grown_run-next.result ≡ grown (runs_by a.nullable) a.c (cond a.present 1 0) a.len a.stored a.joins = let a = c.args in
    laws.run-same a.c (cond a.present 1 0) a.len a.stored a.joins c.grown_run-next.ensures a.nullable refl in
    let a = c.args in
    laws.counted-short a.kind (runs_by a.nullable) a.c a.room (next) c.runs_past.ensures c.if-runs_past.false
    c.runs_short.ensures c.if-runs_short.true

pub returns : goal.returns
returns c =
    let next : let a = c.args in
    c.grown_run-next.result ≡ grown (runs_by a.nullable) a.c (cond a.present 1 0) a.len a.stored a.joins = let a = c.args in
    laws.run-same a.c (cond a.present 1 0) a.len a.stored a.joins c.grown_run-next.ensures a.nullable refl in
    let a = c.args in
    laws.counted-done a.kind (runs_by a.nullable) a.c a.room (next) c.runs_past.ensures c.if-runs_past.false
    c.runs_short.ensures c.if-runs_short.false
