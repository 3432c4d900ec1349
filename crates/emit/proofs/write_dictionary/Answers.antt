-- `write_dictionary` meets its contract: the keys at their place, the head before them, the entries behind. Assumes nothing.
use native.Mathlib.Omega.{arith}
use Prim.Native.Nat.{ℕ, ◌+◌, ◌-◌, ◌≤◌}
use mathlib.Core.List.{List}
use mathlib.Core.Path.{◌≡◌, refl, ap, ◌∙◌}
use lib.ListN.{length, take}
use lib.Seq.{sets}
use Rattle.encode.specs.Bytes.{big, high-first}
use Rattle.encode.proofs.RoundTrip.{length-bytes}
use Rattle.emit.specs.Parts.{held_plain, held_keys, held_dictionary}
use Rattle.emit.proofs.Lengths.{length-dictionary}
use Rattle.emit.proofs.Writing as laws
use Rattle.emit.proofs.write_dictionary.Goals as goal

pub write_key_block-behind-requires : goal.write_key_block-behind-requires
write_key_block-behind-requires c =
    let room : let a = c.args in
    12 + length (held_keys a.n a.counts.now a.keys.now) + length (held_plain a.kind a.entries a.len a.items.now a.ends.now)
    ≤ length a.out.now = let a = c.args in
    let l = length-dictionary a.kind a.entries a.len a.n a.items.now a.ends.now a.counts.now a.keys.now in
    omega (arith, l, c.requires.7) in
    let r = room in
    (c.requires.4, c.requires.5, c.requires.6, omega arith)

pub put-requires : goal.put-requires
put-requires c =
    let room : let a = c.args in
    12 + length (held_keys a.n a.counts.now a.keys.now) + length (held_plain a.kind a.entries a.len a.items.now a.ends.now)
    ≤ length a.out.now = let a = c.args in
    let l = length-dictionary a.kind a.entries a.len a.n a.items.now a.ends.now a.counts.now a.keys.now in
    omega (arith, l, c.requires.7) in
    let r = room in (refl, omega arith)

pub put-requires-2 : goal.put-requires-2
put-requires-2 c =
    let room : let a = c.args in
    12 + length (held_keys a.n a.counts.now a.keys.now) + length (held_plain a.kind a.entries a.len a.items.now a.ends.now)
    ≤ length a.out.now = let a = c.args in
    let l = length-dictionary a.kind a.entries a.len a.n a.items.now a.ends.now a.counts.now a.keys.now in
    omega (arith, l, c.requires.7) in
    let r = room in (refl, omega arith)

pub write_plain-requires : goal.write_plain-requires
write_plain-requires c =
    let room : let a = c.args in
    12 + length (held_keys a.n a.counts.now a.keys.now) + length (held_plain a.kind a.entries a.len a.items.now a.ends.now)
    ≤ length a.out.now = let a = c.args in
    let l = length-dictionary a.kind a.entries a.len a.n a.items.now a.ends.now a.counts.now a.keys.now in
    omega (arith, l, c.requires.7) in
    let r = room in
    (c.requires.1, c.requires.2, omega arith)

pub returns : goal.returns
unfolding held_dictionary
returns c =
    let a = c.args in
    let keys = held_keys a.n a.counts.now a.keys.now in
    let m : c.write_key_block-behind.result - 12 ≡ length keys = omega arith in
    laws.laid-dictionary
    (big 8 (length keys))
    (big 4 a.entries)
    keys
    (held_plain a.kind a.entries a.len a.items.now a.ends.now)
    a.out.now
    (length-bytes high-first 8 (length keys))
    (length-bytes high-first 4 a.entries)
    (c.write_key_block-behind.ensures.value, c.write_key_block-behind.ensures.out_after)
    (c.put.ensures
    ∙ ap (λ (item : List ℕ). sets c.write_key_block-behind.new.out 0 (take 8 item)) (c.high_first.ensures ∙ ap (big 8) m))
    (c.put-2.ensures ∙ ap (λ (item : List ℕ). sets c.put.new.dst 8 (take 4 item)) c.high_first-2.ensures)
    (c.write_plain.ensures.value, c.write_plain.ensures.out_after)
