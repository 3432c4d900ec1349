-- `step::key_step` meets its contract: each return by the law of the tests and arms that led there. Assumes nothing.
use Prim.Native.Nat.{ℕ, ◌≤◌}
use mathlib.Core.Path.{◌≡◌, ◌∙◌}
use lib.IntN.{ℤ}
use Rattle.std.specs.Prelude.{Some}
use Rattle.lookup.specs.Held.{Held, held, look_up}
use Rattle.limits.specs.Limits.{MOST_ENTRIES}
use Rattle.plain.specs.Rows.{value_of}
use Rattle.step.proofs.Steps as laws
use Rattle.step.proofs.finding.key_step.Goals as goal

pub returns-then-not-present : goal.returns-then-not-present
returns-then-not-present c =
    let areas : Held = held c.args.items.now c.args.ends.now c.args.lens.now in
    let a = c.args in
    laws.key-none a.kind a.c (areas) a.keys.now a.present a.value a.item.now
    c.if-not-present.true c.joins_key.ensures

pub returns-in_err-i : goal.returns-in_err-i
returns-in_err-i c =
    let areas : Held = held c.args.items.now c.args.ends.now c.args.lens.now in
    c.from_residual.ensures
    ∙ (let a = c.args in laws.key-some a.kind a.c (areas) a.keys.now a.present a.value a.item.now c.if-not-present.false
    (laws.through (λ (v : ℤ). look_up a.kind a.c.entries a.c.bytes (areas) (value_of a.kind v a.item.now)) a.value c.ranges.value c.look_up.ensures) (laws.entry-wrong _ _ c.in_err-i.was))

pub entry_key-key-requires : goal.entry_key-key-requires
entry_key-key-requires c =
    let areas : Held = held c.args.items.now c.args.ends.now c.args.lens.now in
    let few : (i : ℕ) → c.look_up.result ≡ Some i → i ≤ MOST_ENTRIES = λ i e. laws.look-few c.args.kind c.args.c.entries c.args.c.bytes (areas) _ c.requires.0 c.look_up.ensures i e in
    few _ c.in_ok-i.was

pub returns : goal.returns
returns c =
    let areas : Held = held c.args.items.now c.args.ends.now c.args.lens.now in
    let few : (i : ℕ) → c.look_up.result ≡ Some i → i ≤ MOST_ENTRIES = λ i e. laws.look-few c.args.kind c.args.c.entries c.args.c.bytes (areas) _ c.requires.0 c.look_up.ensures i e in
    (let a = c.args in laws.key-some a.kind a.c (areas) a.keys.now a.present a.value a.item.now c.if-not-present.false
    (laws.through (λ (v : ℤ). look_up a.kind a.c.entries a.c.bytes (areas) (value_of a.kind v a.item.now)) a.value c.ranges.value c.look_up.ensures)
    (laws.entry-as _ _ _ (few _ c.in_ok-i.was) c.in_ok-i.was c.entry_key-key.ensures c.joins_key-2.ensures))
