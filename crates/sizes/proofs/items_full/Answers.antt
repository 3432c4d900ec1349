-- `sizes::items_full` meets its contract: each return by the law of the tests and arms that led there. Assumes nothing.
use Rattle.sizes.proofs.Estimates as laws
use native.Mathlib.Omega.{arith}
use Rattle.needs.proofs.Wrong.{right}
use Rattle.sizes.proofs.items_full.Goals as goal

pub returns-then-c-eq0 : goal.returns-then-c-eq0
returns-then-c-eq0 c = let a = c.args in laws.items-empty _ _ _ a.target a.present a.len c.if-c-eq0.true

pub plain_bytes-have-requires : goal.plain_bytes-have-requires
plain_bytes-have-requires c = let w = right _ _ _ c.requires in let f = w.few.stored in let g = w.bytes in (omega (arith, c.stored.ensures), omega arith)

pub returns : goal.returns
returns c =
    let a = c.args in
    laws.items-test _ _ _ a.target a.present a.len c.if-c-eq0.false
    c.stored.ensures c.plain_bytes-have.ensures.0 c.next_len.result
    c.next_fixed.ensures.0 c.flag_more.ensures.0 c.next_len.ensures c.exceed.ensures
