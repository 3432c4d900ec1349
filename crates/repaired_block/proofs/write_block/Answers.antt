-- `repaired_block::write_block` meets its contract: the head's two numbers, the entries behind room for the key block, then the key block. Assumes nothing.
use native.Mathlib.Omega.{arith}
use Prim.Native.Nat.{ℕ, ◌+◌, ◌≤◌}
use mathlib.Core.List.{List}
use mathlib.Core.Path.{◌≡◌, refl, ap}
use lib.ListN.{length}
use Rattle.limits.specs.Limits.{MOST_BYTES}
use Rattle.plain.specs.Rows.{Row}
use Rattle.plain.specs.Plain.{plain_of}
use Rattle.dict.specs.Dictionary.{entries_of, key_block_of, dictionary_of}
use Rattle.repaired.specs.Repaired.{rows_repaired}
use Rattle.repaired_sizes.proofs.Long.{AtMost, found_within}
use Rattle.repaired_block.proofs.Block as laws
use Rattle.repaired_block.proofs.write_block.Goals as goal

pub keys_len-keys_len-requires : goal.keys_len-keys_len-requires
keys_len-keys_len-requires c =
    let rows : List Row = let a = c.args in rows_repaired a.kind a.entries a.runs a.counts.now a.keys.now a.items.now a.n in
    let small : AtMost MOST_BYTES c.args.sizes = found_within c.args.kind (rows) c.requires.5 c.requires.8 in
    let w = small in (w.0, w.1)

pub overflow_add-from : goal.overflow_add-from
overflow_add-from c =
    let p = c.requires in
    let l = laws.found-long _ _ p.5 c.keys_len-keys_len.ensures refl in
    omega (arith, l.2, p.8)

pub entries_len-requires : goal.entries_len-requires
entries_len-requires c =
    let rows : List Row = let a = c.args in rows_repaired a.kind a.entries a.runs a.counts.now a.keys.now a.items.now a.n in
    let small : AtMost MOST_BYTES c.args.sizes = found_within c.args.kind (rows) c.requires.5 c.requires.8 in
    let w = small in (w.2, w.3)

pub overflow_add-end : goal.overflow_add-end
overflow_add-end c =
    let rows : List Row = let a = c.args in rows_repaired a.kind a.entries a.runs a.counts.now a.keys.now a.items.now a.n in
    let room : (c.keys_len-keys_len.result ≡ length (key_block_of (rows)))
    × (c.entries_len.result ≡ length (plain_of c.args.kind (entries_of (rows))))
    × (12 + c.keys_len-keys_len.result + c.entries_len.result ≡ length (dictionary_of c.args.kind (rows))) = laws.found-long _ _ c.requires.5 c.keys_len-keys_len.ensures c.entries_len.ensures in
    omega (arith, (room).2, c.requires.8)

pub put-requires : goal.put-requires
put-requires c =
    let rows : List Row = let a = c.args in rows_repaired a.kind a.entries a.runs a.counts.now a.keys.now a.items.now a.n in
    let room : (c.keys_len-keys_len.result ≡ length (key_block_of (rows)))
    × (c.entries_len.result ≡ length (plain_of c.args.kind (entries_of (rows))))
    × (12 + c.keys_len-keys_len.result + c.entries_len.result ≡ length (dictionary_of c.args.kind (rows))) = laws.found-long _ _ c.requires.5 c.keys_len-keys_len.ensures c.entries_len.ensures in
    (refl, omega (arith, (room).2, c.requires.9))

pub put-requires-2 : goal.put-requires-2
put-requires-2 c =
    let rows : List Row = let a = c.args in rows_repaired a.kind a.entries a.runs a.counts.now a.keys.now a.items.now a.n in
    let room : (c.keys_len-keys_len.result ≡ length (key_block_of (rows)))
    × (c.entries_len.result ≡ length (plain_of c.args.kind (entries_of (rows))))
    × (12 + c.keys_len-keys_len.result + c.entries_len.result ≡ length (dictionary_of c.args.kind (rows))) = laws.found-long _ _ c.requires.5 c.keys_len-keys_len.ensures c.entries_len.ensures in
    (refl, omega (arith, (room).2, c.requires.9))

pub write_entries-requires : goal.write_entries-requires
write_entries-requires c =
    let rows : List Row = let a = c.args in rows_repaired a.kind a.entries a.runs a.counts.now a.keys.now a.items.now a.n in
    let room : (c.keys_len-keys_len.result ≡ length (key_block_of (rows)))
    × (c.entries_len.result ≡ length (plain_of c.args.kind (entries_of (rows))))
    × (12 + c.keys_len-keys_len.result + c.entries_len.result ≡ length (dictionary_of c.args.kind (rows))) = laws.found-long _ _ c.requires.5 c.keys_len-keys_len.ensures c.entries_len.ensures in
    let r = room in
    let p = c.requires in (
      p.0,
      p.1,
      p.2,
      p.3,
      p.4,
      laws.kept-long _ _ p.5,
      laws.items-few _ _ p.5 p.8,
      omega (arith, p.9),
    )

pub write_key_block-requires : goal.write_key_block-requires
write_key_block-requires c =
    let rows : List Row = let a = c.args in rows_repaired a.kind a.entries a.runs a.counts.now a.keys.now a.items.now a.n in
    let room : (c.keys_len-keys_len.result ≡ length (key_block_of (rows)))
    × (c.entries_len.result ≡ length (plain_of c.args.kind (entries_of (rows))))
    × (12 + c.keys_len-keys_len.result + c.entries_len.result ≡ length (dictionary_of c.args.kind (rows))) = laws.found-long _ _ c.requires.5 c.keys_len-keys_len.ensures c.entries_len.ensures in
    let a = c.args in
    let p = c.requires in
    let r = room in
    let d = c.put-2.new.dst in
    let es = plain_of a.kind (entries_of (rows)) in
    let from = 12 + c.keys_len-keys_len.result in
    let fits : from + length es ≤ length d = omega (arith, p.9) in
    let end : from + c.entries_len.result ≡ from + length es = omega arith in (
      p.0,
      p.1,
      p.2,
      p.5,
      ap (λ (n : ℕ). 12 + n) c.keys_len-keys_len.ensures,
      omega arith,
      omega (arith, p.9),
      laws.entered-there es d from fits c.write_entries.ensures end a.kind a.sizes.entries p.6,
      laws.read-there es d from fits c.write_entries.ensures end a.kind a.sizes.entries p.7,
    )

pub returns : goal.returns
returns c =
    let rows : List Row = let a = c.args in rows_repaired a.kind a.entries a.runs a.counts.now a.keys.now a.items.now a.n in
    let room : (c.keys_len-keys_len.result ≡ length (key_block_of (rows)))
    × (c.entries_len.result ≡ length (plain_of c.args.kind (entries_of (rows))))
    × (12 + c.keys_len-keys_len.result + c.entries_len.result ≡ length (dictionary_of c.args.kind (rows))) = laws.found-long _ _ c.requires.5 c.keys_len-keys_len.ensures c.entries_len.ensures in
    let p = c.requires in
    laws.block_written
    c.args.kind
    (rows)
    p.5
    c.args.out.now
    (room).0
    c.high_first.ensures
    c.put.ensures
    c.high_first-2.ensures
    c.put-2.ensures
    p.9
    c.write_entries.ensures
    c.write_key_block.ensures
