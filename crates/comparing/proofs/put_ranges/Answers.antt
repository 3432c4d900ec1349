-- `put_ranges` meets its contract: each return by the law of the tests that led there. Assumes nothing.
use native.Mathlib.Omega.{arith}
use Rattle.comparing.proofs.Marked as marked
use Rattle.comparing.proofs.Answers as laws
use Rattle.comparing.proofs.put_ranges.Goals as goal

-- ---- lists that hold any ranges
pub returns-then-holds_any : goal.returns-then-holds_any
returns-then-holds_any c =
    let p = c.requires in
    let a = c.args in
    let h = marked.hold-any p.0 p.1 c.least-n.ensures c.holds_any.ensures c.if-holds_any.true c.least.ensures in
    let all = laws.all-written a.a a.first.now a.b a.second.now a.firsts.now a.lasts.now p.2 p.3 p.0.number p.1.number
    h.0 h.1 c.mark_ranges-written.ensures.value c.mark_ranges-written.ensures.firsts_after c.mark_ranges-written.ensures.lasts_after in
    record { value = all.0; firsts_after = all.1.0; lasts_after = all.1.1 }

pub returns-then-ranges-eq0 : goal.returns-then-ranges-eq0
returns-then-ranges-eq0 c =
    let p = c.requires in
    let all = laws.none_written _ _ _ _ _ _ p.2 p.3 p.0.number p.1.number (omega arith) c.mark_ranges-ranges.ensures.value in
    record { value = all.0; firsts_after = all.1.0; lasts_after = all.1.1 }

pub returns-then-firsts-ranges : goal.returns-then-firsts-ranges
returns-then-firsts-ranges c =
    let p = c.requires in
    let all = laws.firsts-short _ _ _ _ _ _ p.2 p.3 p.0.number p.1.number (omega (arith, c.mark_ranges-ranges.ensures.value)) c.refused.ensures in
    record { value = all.0; firsts_after = all.1.0; lasts_after = all.1.1 }

pub returns-then-lasts-ranges : goal.returns-then-lasts-ranges
returns-then-lasts-ranges c =
    let p = c.requires in
    let n = c.mark_ranges-ranges.ensures.value in
    let all = laws.lasts-short _ _ _ _ _ _ p.2 p.3 p.0.number p.1.number (omega (arith, n)) (omega (arith, n)) c.refused-then-lasts-ranges.ensures in
    record { value = all.0; firsts_after = all.1.0; lasts_after = all.1.1 }

pub returns : goal.returns
returns c =
    let p = c.requires in
    let a = c.args in
    let n = c.mark_ranges-ranges.ensures.value in
    let all = laws.all-written a.a a.first.now a.b a.second.now a.firsts.now a.lasts.now p.2 p.3 p.0.number p.1.number
    (omega (arith, n, c.if-firsts-ranges.false)) (omega (arith, n, c.if-lasts-ranges.false)) n c.mark_ranges.ensures.firsts_after c.mark_ranges.ensures.lasts_after in
    record { value = all.0; firsts_after = all.1.0; lasts_after = all.1.1 }
