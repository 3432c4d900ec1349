-- `copies::all_counted` meets its contract: each return by the law of the tests that led there. Assumes nothing.
use native.Mathlib.Omega.{arith}
use Prim.Native.Nat.{◌-◌}
use mathlib.Core.Bool.{cond}
use mathlib.Core.Path.{refl, sym, ap, ◌∙◌}
use Rattle.needs.specs.declared.Counted.{Counted}
use Rattle.needs.proofs.Wrong.{Right, right}
use Rattle.step.specs.Counting.{grown}
use Rattle.step.proofs.Growth.{long-not}
use Rattle.copies.specs.Stretch.{grown_times, limited}
use Rattle.copies.proofs.Numbers as laws
use Rattle.copies.proofs.limiting.all_counted.Goals as goal

pub returns-then-too_long : goal.returns-then-too_long
returns-then-too_long c =
    let first : Counted = let a = c.args in grown a.e a.c (cond a.present 1 0) a.len a.stored a.joins in
    let past-told : laws.Past c.args.kind c.args.e (first)
    → laws.Past c.args.kind c.args.e (grown_times c.args.e (cond c.args.present 1 0) c.args.len (c.args.n - 1) (first)) =
    λ h. laws.past_more c.args.kind c.args.e _ c.args.len (c.args.n - 1) (first) h in
    let a = c.args in
    laws.limited-past a.kind a.e a.c _
    (past-told (laws.item-past a.kind a.e a.c _ a.len a.stored a.joins c.requires.3 c.too_long.ensures c.if-too_long.true))
    refl

pub counted_in-first-requires : goal.counted_in-first-requires
counted_in-first-requires c =
    let given : Right c.args.kind c.args.e c.args.c = right c.args.kind c.args.e c.args.c c.requires.0 in
    let w = given in
    let a = c.args in
    (w.past, w.bytes, w.counts, long-not a.stored a.len c.too_long.ensures c.if-too_long.false, λ j. (c.requires.2 j).1, c.requires.4)

pub is_past-requires : goal.is_past-requires
is_past-requires c =
    let given : Right c.args.kind c.args.e c.args.c = right c.args.kind c.args.e c.args.c c.requires.0 in
    let w = given in
    let a = c.args in
    laws.first-few a.e a.c _ a.len a.stored a.joins w.bytes w.counts
    (long-not a.stored a.len c.too_long.ensures c.if-too_long.false) (λ j. (c.requires.2 j).1) c.counted_in-first.ensures

pub returns-then-is_past : goal.returns-then-is_past
returns-then-is_past c =
    let first : Counted = let a = c.args in grown a.e a.c (cond a.present 1 0) a.len a.stored a.joins in
    let past-told : laws.Past c.args.kind c.args.e (first)
    → laws.Past c.args.kind c.args.e (grown_times c.args.e (cond c.args.present 1 0) c.args.len (c.args.n - 1) (first)) =
    λ h. laws.past_more c.args.kind c.args.e _ c.args.len (c.args.n - 1) (first) h in
    laws.limited-past c.args.kind c.args.e c.args.c _
    (past-told (laws.same-past c.args.kind c.args.e c.counted_in-first.ensures c.is_past.ensures ∙ c.if-is_past.true)) refl

pub runs_counted-requires : goal.runs_counted-requires
runs_counted-requires c =
    let a = c.args in
    let t = sym c.is_coded.ensures ∙ c.if-is_coded.true in (
      t,
      sym c.is_past.ensures ∙ c.if-is_past.false,
      laws.first_runs a.e a.c _ a.len a.stored a.joins t (λ j. (c.requires.2 j).0) c.counted_in-first.ensures,
    )

pub returns-then-is_coded : goal.returns-then-is_coded
returns-then-is_coded c =
    let a = c.args in
    c.runs_counted.ensures
    ∙ ap (λ (x : Counted). limited a.kind a.e a.c (grown_times a.e (cond a.present 1 0) a.len (a.n - 1) x)) c.counted_in-first.ensures

pub rows_counted-requires : goal.rows_counted-requires
rows_counted-requires c =
    let a = c.args in
    let t = sym c.is_coded.ensures ∙ c.if-is_coded.false in (
      t,
      sym c.is_past.ensures ∙ c.if-is_past.false,
      long-not a.stored a.len c.too_long.ensures c.if-too_long.false (c.requires.4 t).0,
    )

pub returns : goal.returns
returns c =
    let a = c.args in
    let t = sym c.is_coded.ensures ∙ c.if-is_coded.false in
    c.rows_counted.ensures
    ∙ ap (limited a.kind a.e a.c) (laws.rows_alike a.e 0 (cond a.present 1 0) a.len t (a.n - 1) c.counted_in-first.ensures)

pub overflow_sub-n : goal.overflow_sub-n
overflow_sub-n c = let h = c.requires.1 in omega (arith, h)

pub overflow_sub-n-2 : goal.overflow_sub-n-2
overflow_sub-n-2 c = let h = c.requires.1 in omega (arith, h)
