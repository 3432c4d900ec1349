-- The dictionary block of rows that fit: no rule refuses it, and the entry that a row's key names is the row, cut at a NUL. Assumes nothing.
use Prim.Native.Nat.{ℕ, ◌+◌, ◌^◌, ◌≤◌, ◌<◌}
use native.Mathlib.Nat.{zero-add}
use native.Mathlib.Omega.{arith}
use mathlib.Core.List.{List, [], ◌∷◌, map, map-map}
use mathlib.Core.Path.{◌≡◌, refl, ap, ◌∙◌}
use lib.ListN.{length, get_or, length-append, length-map}
use Rattle.encode.specs.declared.Kind.{Kind}
use Rattle.limits.specs.Limits.{MOST_ENTRIES, MOST_ITEMS}
use Rattle.plain.specs.Each.{Each}
use Rattle.plain.specs.Rows.{Row, null, int, bytes, int_in}
use Rattle.plain.specs.Plain.{joined, plain_of, plain_number, plain_row}
use Rattle.plain.proofs.Each.{each_more}
use Rattle.nullable.specs.Nullable.{presence}
use Rattle.rle.specs.RunLength.{runs_of, run_length_of, runs_in, counts_length, counts_part, inner_part, run_length_number, run_numbers}
use Rattle.dict.specs.Dictionary.{i32, index_of, entries_of, key_of, key_block_of, dictionary_of, key_length, entries_in, key_part, entries_part}
use Rattle.dict.specs.Dictionary.{slot_at, keys_number, dictionary_number, entry_row}
use Rattle.dict.proofs.Entries.{index-row}
use Rattle.dict.proofs.Parts.{key-length-of-block, entries-of-block, key-part-of-block, entries-part-of-block}
use Rattle.dict.proofs.Slots.{known-all}
use Rattle.format.specs.Blocks.{cut, filled}
use Rattle.format.specs.Sizes.{run_rows, keys_of}
use Rattle.format.proofs.Sound.{rules-kept}
use Rattle.block_laws.proofs.Lists.{each_at, each_map, map_each}
use Rattle.block_laws.proofs.Plains.{Fits, kept, plain-opens, plain_row_lem}
use Rattle.block_laws.proofs.Nullables.{present-kept}
use Rattle.block_laws.proofs.Runs.{each-run}
use Rattle.block_laws.proofs.RunLengths.{inner-small, run-length-opens, run-length-rows, run-length-each}
use Rattle.block_laws.proofs.Entries.{Entered, all-entered, each-entry, key_fits, slot_of, slot-null, slot-int, slot-bytes, slot_small}

module _ (k : Kind) (rows : List Row) (f : Each (Fits k) rows) (few : length (runs_of (keys_of rows)) ≤ MOST_ITEMS)
    (some : length (entries_of rows) ≤ MOST_ENTRIES) (small : length (dictionary_of k rows) < 2 ^ 32) where
  abbrev es : List Row
  es = entries_of rows

  abbrev block : List ℕ
  block = dictionary_of k rows

  length-block : length block ≡ 12 + length (key_block_of rows) + length (plain_of k es)
  unfolding dictionary_of
  length-block = omega (arith, length-append (key_block_of rows) (plain_of k es))

  -- ---- the keys
  keys-fit : Each (Fits i32) (keys_of rows)
  unfolding keys_of
  keys-fit =
      each_map (Fits i32) (key_of es) rows
      (each_more (Entered es) (λ r. Fits i32 (key_of es r)) rows (λ r e. key_fits es r some e) (all-entered rows))

  keys-name : Each (λ key. slot_of key ≤ length es) (keys_of rows)
  unfolding keys_of
  keys-name =
      each_map (λ key. slot_of key ≤ length es) (key_of es) rows
      (each_more (Entered es) (λ r. slot_of (key_of es r) ≤ length es) rows (λ r e. slot_small es r e) (all-entered rows))

  key-block : key_block_of rows ≡ run_length_of (plain_of i32) (keys_of rows)
  unfolding key_block_of keys_of
  key-block = refl

  key-small : length (run_length_of (plain_of i32) (keys_of rows)) < 2 ^ 32
  key-small = omega (arith, length-block, ap length key-block)

  no_bytes : length (plain_of i32 []) < 2 ^ 32
  unfolding plain_of joined
  no_bytes = omega arith

  items-small : length (plain_of i32 (run_rows (keys_of rows))) < 2 ^ 32
  items-small = inner-small (plain_of i32) (keys_of rows) no_bytes few key-small

  items-fit : Each (Fits i32) (run_rows (keys_of rows))
  items-fit = each-run (Fits i32) (keys_of rows) keys-fit

  -- the slot that is read of a run's key is the slot of its key
  item-slot :
      (i : ℕ) → i < length (run_rows (keys_of rows))
      → slot_at (plain_of i32 (run_rows (keys_of rows))) i ≡ slot_of (get_or (run_rows (keys_of rows)) i null)
  unfolding slot_at plain_row int_in cut filled
  item-slot i h = ap slot_of (plain_row_lem i32 (run_rows (keys_of rows)) items-fit items-small i h)

  -- ---- the rules
  key-block-opens : run_length_number (plain_number i32) (length rows) (key_block_of rows) ≡ 0
  unfolding keys_of
  key-block-opens =
      let m : length (keys_of rows) ≡ length rows = length-map rows (key_of es) in
      rw (key-block, ← m)
      (run-length-opens (plain_of i32) (plain_number i32) (keys_of rows) few key-small
      (plain-opens i32 (run_rows (keys_of rows)) items-fit items-small))

  keys-known : keys_number (length es) (key_block_of rows) ≡ 0
  unfolding keys_number
  keys-known =
      let each = run-length-each (plain_of i32) (λ keys i. slot_at keys i ≤ length es) (keys_of rows) few key-small
      (λ i l. let s = each_at (λ key. slot_of key ≤ length es) (run_rows (keys_of rows)) null
      (each-run (λ key. slot_of key ≤ length es) (keys_of rows) keys-name) i l in rw (item-slot i l) s) in
      rw key-block
      (simp (known-all (length es) (inner_part (counts_length (run_length_of (plain_of i32) (keys_of rows))) (run_length_of (plain_of i32) (keys_of rows)))
      (runs_in (run_length_of (plain_of i32) (keys_of rows))) 0 (λ i l. rw zero-add (each i l))))

  entries_fit : Each (Fits k) es
  entries_fit = each-entry (Fits k) rows f

  entries-small : length (plain_of k es) < 2 ^ 32
  entries-small = omega (arith, length-block)

  keys-told : key_length block ≡ length (key_block_of rows)
  keys-told = key-length-of-block k rows (omega (arith, length-block))

  entries-told : entries_in block ≡ length es
  entries-told = entries-of-block k rows (omega arith)

  pub dictionary-opens : dictionary_number k (length rows) block ≡ 0
  unfolding dictionary_number
  dictionary-opens =
      rules-kept k (length rows) block _ (length (key_block_of rows)) (length es) keys-told entries-told (omega (arith, length-block)) some
      (rw (key-part-of-block k rows) key-block-opens)
      (rw (keys-told, entries-told, key-part-of-block k rows) keys-known)
      (rw (entries-part-of-block k rows) (plain-opens k es entries_fit entries-small))

  -- ---- the rows
  entry_kept : (r : Row) (e : index_of r es < length es) → plain_row k (length es) (plain_of k es) (index_of r es) ≡ kept k r
  entry_kept r e = plain_row_lem k es entries_fit entries-small (index_of r es) e ∙ ap (kept k) (index-row r es e)

  row_back : (r : Row) → Fits k r → Entered es r → entry_row k (length es) (plain_of k es) (slot_of (key_of es r)) ≡ cut k r
  row_back null h e = rw (slot-null es) (unfold presence entry_row in present-kept k null h)
  row_back (int v) h e = rw (slot-int es v) (unfold presence entry_row in entry_kept (int v) e ∙ present-kept k (int v) h)
  row_back (bytes bs) h e = rw (slot-bytes es bs) (unfold presence entry_row in entry_kept (bytes bs) e ∙ present-kept k (bytes bs) h)

  rows_back : (rs : List Row) → Each (Fits k) rs → Each (Entered es) rs
      → Each (λ r. entry_row k (length es) (plain_of k es) (slot_of (key_of es r)) ≡ cut k r) rs
  rows_back [] h e = tt
  rows_back (r ∷ rs) h e = (row_back r h.0 e.0, rows_back rs h.1 e.1)

  -- of each row the entry that its run's key names
  pub dictionary-rows :
      map (λ i. entry_row k (entries_in block) (entries_part (key_length block) block)
      (slot_at (inner_part (counts_length (key_part (key_length block) block)) (key_part (key_length block) block)) i))
      (run_numbers (runs_in (key_part (key_length block) block)) 0
      (counts_part (counts_length (key_part (key_length block) block)) (key_part (key_length block) block)))
      ≡ map (cut k) rows
  unfolding keys_of
  dictionary-rows =
      let named : ℕ → Row = λ s. entry_row k (length es) (plain_of k es) s in
      rw (keys-told, entries-told, key-part-of-block k rows, entries-part-of-block k rows, key-block)
      (run-length-rows (plain_of i32) (λ n keys i. named (slot_at keys i)) (λ key. named (slot_of key)) (keys_of rows) few key-small
      (λ i l. ap named (item-slot i l))
      ∙ map-map (λ key. named (slot_of key)) (key_of es) rows
      ∙ map_each (λ r. named (slot_of (key_of es r))) (cut k) rows (rows_back rows f (all-entered rows)))
