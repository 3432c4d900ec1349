-- `append_times::all_taken` meets its contract: each return by the law of the tests that led there. Assumes nothing.
use Prim.Native.Nat.{◌-◌}
use mathlib.Core.Bool.{cond}
use mathlib.Core.Path.{refl, ap, ◌∙◌}
use Rattle.needs.specs.declared.Counted.{Counted}
use Rattle.step.specs.Counting.{grown, answered}
use Rattle.limits.proofs.Refused.{refusal-some}
use Rattle.step.proofs.Answered.{passed_on}
use Rattle.copies.specs.Stretch.{grown_times}
use Rattle.append_times.proofs.Whole as laws
use Rattle.append_times.proofs.all_taken.Goals as goal

pub returns-in_err-all : goal.returns-in_err-all
returns-in_err-all c =
    let all : Counted = let a = c.args in grown_times a.e (cond a.present 1 0) a.len (a.n - 1) (grown a.e a.c (cond a.present 1 0) a.len a.stored a.joins) in
    let a = c.args in
    ap (answered a.c) (passed_on _ c.from_residual.ensures.1) ∙ laws.past-limits a.kind a.e a.c a.room (all) c.in_err-all.ensures (refusal-some _)

pub is_short-requires : goal.is_short-requires
is_short-requires c =
    let all : Counted = let a = c.args in grown_times a.e (cond a.present 1 0) a.len (a.n - 1) (grown a.e a.c (cond a.present 1 0) a.len a.stored a.joins) in
    let a = c.args in
    laws.short-asks a.kind a.e a.c a.room (all) c.in_ok-all.ensures refl

pub returns-then-is_short : goal.returns-then-is_short
returns-then-is_short c =
    let all : Counted = let a = c.args in grown_times a.e (cond a.present 1 0) a.len (a.n - 1) (grown a.e a.c (cond a.present 1 0) a.len a.stored a.joins) in
    let a = c.args in
    laws.no_room a.kind a.e a.c a.room (all) c.in_ok-all.ensures refl c.is_short.ensures c.if-is_short.true refl

pub returns : goal.returns
returns c =
    let all : Counted = let a = c.args in grown_times a.e (cond a.present 1 0) a.len (a.n - 1) (grown a.e a.c (cond a.present 1 0) a.len a.stored a.joins) in
    let a = c.args in
    laws.has_room a.kind a.e a.c a.room (all) c.in_ok-all.ensures refl c.is_short.ensures c.if-is_short.false
