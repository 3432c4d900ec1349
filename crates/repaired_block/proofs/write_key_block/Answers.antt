-- `repaired_block::write_key_block` meets its contract: the two numbers, the counts and the keys, one behind the other. Assumes nothing.
use native.Mathlib.Omega.{arith}
use Prim.Native.Nat.{◌+◌, ◌*◌}
use mathlib.Core.Path.{◌≡◌}
use lib.ListN.{length}
use Rattle.rle.specs.RunLength.{runs_of, counts_of}
use Rattle.repaired.specs.Repaired.{rows_repaired}
use Rattle.repaired_block.proofs.KeyBlock as laws
use Rattle.repaired_block.proofs.write_key_block.Goals as goal

pub returns-then-sizes-eq0 : goal.returns-then-sizes-eq0
returns-then-sizes-eq0 c =
    laws.none_written c.args.kind _ c.requires.3 c.if-sizes-eq0.true _

pub put_low4-requires : goal.put_low4-requires
put_low4-requires c =
    let room : let a = c.args in
    let rs = runs_of (rows_repaired a.kind a.entries a.runs a.counts.now a.keys.now a.items.now a.n) in
    (a.sizes.counts ≡ length (counts_of rs)) × (20 + a.sizes.counts + 4 * length rs ≡ a.from) = laws.key-room _ _ c.requires.3 c.if-sizes-eq0.false c.requires.4 in
    let r = room in let p = c.requires in omega (arith, p.5, p.6)

pub put_low4-requires-2 : goal.put_low4-requires-2
put_low4-requires-2 c =
    let room : let a = c.args in
    let rs = runs_of (rows_repaired a.kind a.entries a.runs a.counts.now a.keys.now a.items.now a.n) in
    (a.sizes.counts ≡ length (counts_of rs)) × (20 + a.sizes.counts + 4 * length rs ≡ a.from) = laws.key-room _ _ c.requires.3 c.if-sizes-eq0.false c.requires.4 in
    let r = room in let p = c.requires in omega (arith, p.5, p.6)

pub write_counts-requires : goal.write_counts-requires
write_counts-requires c =
    let room : let a = c.args in
    let rs = runs_of (rows_repaired a.kind a.entries a.runs a.counts.now a.keys.now a.items.now a.n) in
    (a.sizes.counts ≡ length (counts_of rs)) × (20 + a.sizes.counts + 4 * length rs ≡ a.from) = laws.key-room _ _ c.requires.3 c.if-sizes-eq0.false c.requires.4 in
    let r = room in
    let p = c.requires in
    (p.0, p.1, p.2, omega (arith, p.5, p.6))

pub overflow_add-sizes : goal.overflow_add-sizes
overflow_add-sizes c =
    let room : let a = c.args in
    let rs = runs_of (rows_repaired a.kind a.entries a.runs a.counts.now a.keys.now a.items.now a.n) in
    (a.sizes.counts ≡ length (counts_of rs)) × (20 + a.sizes.counts + 4 * length rs ≡ a.from) = laws.key-room _ _ c.requires.3 c.if-sizes-eq0.false c.requires.4 in
    let r = room in
    omega (arith, c.ranges.from)

pub write_keys-requires : goal.write_keys-requires
write_keys-requires c =
    let room : let a = c.args in
    let rs = runs_of (rows_repaired a.kind a.entries a.runs a.counts.now a.keys.now a.items.now a.n) in
    (a.sizes.counts ≡ length (counts_of rs)) × (20 + a.sizes.counts + 4 * length rs ≡ a.from) = laws.key-room _ _ c.requires.3 c.if-sizes-eq0.false c.requires.4 in
    let p = c.requires in
    let r = room in
    let a = c.put_low4.ensures.out_after in
    let b = c.put_low4-2.ensures.out_after in (
      p.0,
      p.1,
      p.2,
      p.5,
      omega (arith, p.6),
      laws.still-entered _ _ p.3 c.if-sizes-eq0.false c.args.out.now a b c.write_counts.ensures p.4 c.args.end p.7,
      laws.still_read _ _ p.3 c.if-sizes-eq0.false c.args.out.now a b c.write_counts.ensures p.4 c.args.end c.args.sizes.entries p.8,
      omega arith,
    )

pub returns : goal.returns
returns c =
    let p = c.requires in
    laws.keys-written _ _ p.3 c.if-sizes-eq0.false _ c.put_low4.ensures.out_after c.put_low4-2.ensures.out_after c.write_counts.ensures c.write_keys.ensures
