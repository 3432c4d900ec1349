-- `sizes::is_full` meets its contract: each return by the law of the tests and arms that led there. Assumes nothing.
use mathlib.Core.Path.{sym, ◌∙◌}
use Rattle.sizes.proofs.Estimates as laws
use Rattle.needs.proofs.Encodings.{keyed-coded}
use Rattle.needs.proofs.Wrong.{right}
use Rattle.sizes.proofs.is_full.Goals as goal

pub returns-then-items : goal.returns-then-items
returns-then-items c = let a = c.args in laws.full-items _ _ _ a.target a.key a.present a.len c.items_full-items.ensures c.if-items.true

pub keys_full-requires : goal.keys_full-requires
keys_full-requires c =
    (right _ _ _ c.requires).few.runs (keyed-coded _ (sym c.is_keyed.ensures ∙ c.if-is_keyed.true))

pub returns-then-is_keyed : goal.returns-then-is_keyed
returns-then-is_keyed c =
    let a = c.args in
    laws.full-keys _ _ _ a.target a.key a.present a.len c.items_full-items.ensures c.if-items.false
    c.is_keyed.ensures c.if-is_keyed.true c.keys_full.ensures

pub returns : goal.returns
returns c =
    let a = c.args in
    laws.full-none _ _ _ a.target a.key a.present a.len c.items_full-items.ensures c.if-items.false
    c.is_keyed.ensures c.if-is_keyed.false
