-- `format::check_keys` meets its contract: each return by the law of what the runs and the keys were found to be. Assumes nothing.
use Rattle.std.proofs.lemmas.Result.{err_from_is_err_and}
use mathlib.Core.Path.{refl}
use native.Mathlib.Omega.{arith}
use Rattle.format.proofs.KeyBlocks as laws
use Rattle.format.proofs.check_keys.Goals as goal

pub returns-in_err-head : goal.returns-in_err-head
returns-in_err-head c =
    let p = err_from_is_err_and c.from_residual.result c.from_residual.ensures.1 in
    rw (p.1, p.2) (laws.runs-wrong _ _ _ _ c.in_err-head.ensures refl)

pub returns-then-head-eq0 : goal.returns-then-head-eq0
returns-then-head-eq0 c = laws.no_keys _ _ _ _ c.in_ok-head.ensures refl c.if-head-eq0.true

pub returns-then-not-asked : goal.returns-then-not-asked
returns-then-not-asked c = laws.not-asked _ _ _ _ c.in_ok-head.ensures refl c.if-not-asked.true

pub overflow_add-end : goal.overflow_add-end
overflow_add-end c =
    let a = c.args in
    let some = laws.some_runs a.asked a.rows a.entries a.s.now c.in_ok-head.ensures refl c.if-head-eq0.false in
    omega (arith, some.room)

pub slice_bounds-known-count : goal.slice_bounds-known-count
slice_bounds-known-count c =
    let a = c.args in
    (laws.some_runs a.asked a.rows a.entries a.s.now c.in_ok-head.ensures refl c.if-head-eq0.false).room

pub slice_bounds-known-start : goal.slice_bounds-known-start
slice_bounds-known-start c =
    let a = c.args in
    (laws.some_runs a.asked a.rows a.entries a.s.now c.in_ok-head.ensures refl c.if-head-eq0.false).room

pub known-requires : goal.known-requires
known-requires c =
    let a = c.args in
    let some = laws.some_runs a.asked a.rows a.entries a.s.now c.in_ok-head.ensures refl c.if-head-eq0.false in
    let r = laws.runs-right a.asked a.rows a.entries a.s.now c.in_ok-head.ensures refl in
    (r.many, laws.keys-there _ _ _ some.inside)

pub returns-then-known : goal.returns-then-known
returns-then-known c =
    laws.keys-right _ _ _ _ c.in_ok-head.ensures refl c.if-head-eq0.false c.known.ensures c.if-known.true

pub returns : goal.returns
returns c =
    laws.keys-wrong _ _ _ _ c.in_ok-head.ensures refl c.if-head-eq0.false c.known.ensures c.if-not-asked.false c.if-known.false
