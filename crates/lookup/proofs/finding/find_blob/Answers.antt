-- `lookup::finding::find_blob` meets its contract: the items that the loop has passed have good ends and are not the row, and the last is left,
-- whose end is that of all. Assumes nothing.
use Prim.Native.Nat.{◌+◌}
use mathlib.Core.Path.{◌≡◌, refl, sym, ◌∙◌}
use mathlib.Core.Bool.{false}
use mathlib.Core.List.{[]}
use native.Mathlib.Omega.{arith}
use Rattle.encode.specs.Kinds.{blob}
use Rattle.plain.specs.Rows.{bytes, same}
use Rattle.lookup.specs.Held.{Held, held, item_start, held_row, field_wrong}
use Rattle.lookup.proofs.FieldTests.{start-next, wrong-falls, wrong-passes, wrong-not}
use Rattle.lookup.proofs.There.{blob-there, blob-read, wrong-apart}
use Rattle.lookup.proofs.Passed.{looking-start, looking-wrong, looking-here, looking-step, looking-end}
use Rattle.lookup.proofs.finding.find_blob.Goals as goal

pub returns-then-n-eq0 : goal.returns-then-n-eq0
returns-then-n-eq0 c = looking-end (looking-start _ _ _ _ _) (omega (arith, c.if-n-eq0.true))

pub loop-i-init : goal.loop-i-init
unfolding item_start
loop-i-init c = (looking-start _ _ _ _ _, refl, omega (arith, c.if-n-eq0.false))

-- ---- an item before the last, whose end needn't be that of all
pub end_in-end-requires : goal.end_in-end-requires
end_in-end-requires c = omega (arith, c.requires.0)

pub returns-then-end-from : goal.returns-then-end-from
returns-then-end-from c =
    let v = c.loop-i.invariant in
    looking-wrong v.0 v.2 (sym (wrong-falls _ _ _ _ c.end_in-end.ensures.0 v.1 c.if-end-from.true ∙ wrong-apart _ _ _ _ _ _ _))

pub returns-then-len-end : goal.returns-then-len-end
returns-then-len-end c =
    let v = c.loop-i.invariant in
    looking-wrong v.0 v.2 (sym (wrong-passes _ _ _ _ c.end_in-end.ensures.0 v.1 c.if-end-from.false c.if-len-end.true ∙ wrong-apart _ _ _ _ _ _ _))

pub same_bytes-requires : goal.same_bytes-requires
same_bytes-requires c = omega (arith, c.requires.1)

pub returns-then-same_bytes : goal.returns-then-same_bytes
returns-then-same_bytes c =
    let areas : Held = held c.args.items.now c.args.ends.now [] in
    let good : field_wrong blob c.args.n c.args.len (areas) c.loop-i.i ≡ false = let a = c.args in
    let before : c.loop-i.i + 1 ≡ a.n → ⊥ = λ z. omega (arith, z) in
    sym (wrong-not a.n a.len a.ends.now c.loop-i.i c.end_in-end.ensures.0 c.loop-i.invariant.1 c.if-end-from.false c.if-len-end.false before
    ∙ wrong-apart blob a.n a.len a.items.now a.ends.now [] c.loop-i.i) in
    let told : c.same_bytes.result ≡ same (bytes c.args.item.now) (held_row blob (areas) c.loop-i.i) = let a = c.args in
    blob-read a.items.now a.ends.now c.loop-i.i a.item.now c.loop-i.invariant.1 c.end_in-end.ensures.0 c.same_bytes.ensures in
    let v = c.loop-i.invariant in
    looking-here v.0 v.2 (good) (sym (told) ∙ c.if-same_bytes.true)

pub loop-i-preserved : goal.loop-i-preserved
loop-i-preserved c =
    let areas : Held = held c.args.items.now c.args.ends.now [] in
    let good : field_wrong blob c.args.n c.args.len (areas) c.loop-i.i ≡ false = let a = c.args in
    let before : c.loop-i.i + 1 ≡ a.n → ⊥ = λ z. omega (arith, z) in
    sym (wrong-not a.n a.len a.ends.now c.loop-i.i c.end_in-end.ensures.0 c.loop-i.invariant.1 c.if-end-from.false c.if-len-end.false before
    ∙ wrong-apart blob a.n a.len a.items.now a.ends.now [] c.loop-i.i) in
    let told : c.same_bytes.result ≡ same (bytes c.args.item.now) (held_row blob (areas) c.loop-i.i) = let a = c.args in
    blob-read a.items.now a.ends.now c.loop-i.i a.item.now c.loop-i.invariant.1 c.end_in-end.ensures.0 c.same_bytes.ensures in
    let v = c.loop-i.invariant in
    (looking-step v.0 v.2 (good) (sym (told) ∙ c.if-same_bytes.false), start-next _ _ c.end_in-end.ensures.0, omega arith)

-- ---- the last
pub blob_wrong-requires : goal.blob_wrong-requires
blob_wrong-requires c = (c.loop-i.invariant.2, c.requires.0, c.loop-i.invariant.1)

pub returns-then-blob_wrong : goal.returns-then-blob_wrong
returns-then-blob_wrong c =
    let v = c.loop-i.invariant in
    looking-wrong v.0 v.2 (sym (c.blob_wrong.ensures ∙ wrong-apart _ _ _ _ _ _ _) ∙ c.if-blob_wrong.true)

pub same_blob-requires : goal.same_blob-requires
same_blob-requires c =
    let areas : Held = held c.args.items.now c.args.ends.now [] in
    let last-good : field_wrong blob c.args.n c.args.len (areas) c.loop-i.i ≡ false = let a = c.args in
    sym (c.blob_wrong.ensures ∙ wrong-apart blob a.n a.len a.items.now a.ends.now [] c.loop-i.i) ∙ c.if-blob_wrong.false in
    let v = c.loop-i.invariant in
    (blob-there c.args.n c.args.len (areas) c.loop-i.i v.2 c.requires.0 c.requires.1 (last-good), v.1)

pub returns-then-same_blob : goal.returns-then-same_blob
returns-then-same_blob c =
    let areas : Held = held c.args.items.now c.args.ends.now [] in
    let last-good : field_wrong blob c.args.n c.args.len (areas) c.loop-i.i ≡ false = let a = c.args in
    sym (c.blob_wrong.ensures ∙ wrong-apart blob a.n a.len a.items.now a.ends.now [] c.loop-i.i) ∙ c.if-blob_wrong.false in
    let v = c.loop-i.invariant in
    looking-here v.0 v.2 (last-good) (sym c.same_blob.ensures ∙ c.if-same_blob.true)

pub returns : goal.returns
returns c =
    let areas : Held = held c.args.items.now c.args.ends.now [] in
    let last-good : field_wrong blob c.args.n c.args.len (areas) c.loop-i.i ≡ false = let a = c.args in
    sym (c.blob_wrong.ensures ∙ wrong-apart blob a.n a.len a.items.now a.ends.now [] c.loop-i.i) ∙ c.if-blob_wrong.false in
    let v = c.loop-i.invariant in
    looking-end (looking-step v.0 v.2 (last-good) (sym c.same_blob.ensures ∙ c.if-same_blob.false)) (omega arith)
