-- What finish, the estimate and should_finish make of a record that counts a list and of areas that hold it. Assumes nothing.
use Prim.Native.Nat.{ℕ, ◌+◌, ◌*◌, ◌%◌, ◌^◌}
use native.Mathlib.Nat.{add-zero}
use native.Mathlib.Omega.{arith}
use mathlib.Core.Bool.{Bool, true, false, cond, ◌||◌}
use mathlib.Core.List.{List, [], ◌∷◌, map, reverse}
use mathlib.Core.Path.{◌≡◌, refl, sym, ap, subst, ◌∙◌}
use lib.Dec.{eqb, lit≤}
use lib.IntN.{ℤ}
use lib.ListN.{length, take, drop}
use borrow.Author.Tests.{ltb-true, ne_eqb}
use mir.Syntax.{w32, w64}
use mir.Val.{SFits, of_z, hbits}
use lib.Signed.{mag}
use Rattle.encode.specs.Bytes.{little}
use Rattle.encode.specs.declared.Kind.{Kind}
use Rattle.encode.specs.declared.Kind.TheVariants.{Fixed, Char, Blob}
use Rattle.encode.proofs.RoundTrip.{lowest, interval-parts}
use Rattle.varint.specs.Varint.{spelling}
use Rattle.plain.specs.Each.{Each}
use Rattle.plain.specs.Rows.{Row, null, int, int_in, bytes_in, row_of, value_of, fits}
use Rattle.plain.specs.Plain.{joined, places, item_of, plain_of}
use Rattle.nullable.specs.Nullable.{presence, bitmap_of, nullable_of, bit_at}
use Rattle.nullable.proofs.Bits.{length-bitmap}
use Rattle.rle.specs.RunLength.{Run, runs_from, runs_of, counts_of, run_length_of}
use Rattle.dict.specs.Dictionary.{i32, entries_of, key_block_of, dictionary_of}
use Rattle.format.specs.declared.Encoding.{Encoding}
use Rattle.format.specs.declared.Encoding.TheVariants.{Plain, Nullable, RunLength, RunLengthNullable, Dictionary}
use Rattle.format.specs.Blocks.{block_of}
use Rattle.format.specs.Sizes.{run_rows, keys_of, stored_entries, plain_size, nullable_size, run_length_size, estimate_of, next_size, full_with, plain_full, nullable_full, should_finish}
use Rattle.emit.specs.Parts.{held_plain, held_inner, held_counts, held_runs, held_keys, held_dictionary}
use Rattle.needs.specs.declared.Counted.{Counted}
use Rattle.needs.specs.Needs.{flagged, keyed, plain_bytes}
use Rattle.sizes.specs.Sizes.{inner_size, run_size, size_by, next_bytes, exceeds, items_full, keys_full, full_by}
use Rattle.append.specs.Appending.{Lent}
use Rattle.builder.specs.Finishing.{held_block}
use Rattle.building_laws.specs.Built.{Given, row_in, stored_rows, stored_runs}
use Rattle.building_laws.proofs.Lists.{joined-map, joined_same}
use Rattle.building_laws.proofs.Flags.{bitmap-told}
use Rattle.building_laws.proofs.Measures.{keys_length, runs-some}
use Rattle.building_laws.proofs.Records.{Recorded, stored-by, plain_by, rows-length}
use Rattle.building_laws.proofs.AreasOfRows.{EndsHeld, Holds}

-- ---- the parts of the block that areas hold
plain-held : (k : Kind) (s : List Row) (n len : ℕ) (is es : List ℕ) → n ≡ length s → len ≡ length (joined (item_of k) s)
    → take (length (joined (item_of k) s)) is ≡ joined (item_of k) s → EndsHeld k s es → held_plain k n len is es ≡ plain_of k s
unfolding held_plain plain_of
plain-held (Fixed p) s n len is es e d q h = rw (d, q)
plain-held (Char w) s n len is es e d q h = rw (d, q)
plain-held (Blob text) s n len is es e d q h = rw (d, q, e, h)

inner-held : (t : Bool) (k : Kind) (s : List Row) (n len : ℕ) (is es fs : List ℕ) → n ≡ length s → len ≡ length (joined (item_of k) s)
    → take (length (joined (item_of k) s)) is ≡ joined (item_of k) s → EndsHeld k s es → (t ≡ true → map (bit_at fs) (places (length s) 0) ≡ map presence s)
    → held_inner t k n len is es fs ≡ cond t (nullable_of k s) (plain_of k s)
unfolding held_inner nullable_of
inner-held false k s n len is es fs e d q h g = plain-held k s n len is es e d q h
inner-held true k s n len is es fs e d q h g =
    rw (plain-held k s n len is es e d q h, bitmap-told s n fs e (g refl), length-bitmap s, e)

counts-held : (rs : List Run) (n : ℕ) (cs : List ℕ) → n ≡ length rs → take (length rs) cs ≡ map (λ r. r.count) rs → held_counts n cs ≡ counts_of rs
unfolding held_counts counts_of
counts-held rs n cs e q = rw (e, q) (joined-map spelling (λ r. r.count) rs)

runs-held : (inner : List Row → List ℕ) (rows : List Row) (n : ℕ) (cs part : List ℕ) → n ≡ length (runs_of rows)
    → take (length (runs_of rows)) cs ≡ map (λ r. r.count) (runs_of rows) → part ≡ inner (run_rows rows) → held_runs n cs part ≡ run_length_of inner rows
unfolding held_runs run_length_of runs_of run_rows
runs-held inner [] n cs part e q p = rw e
runs-held inner (x ∷ xs) n cs part e q p =
    let rs : List Run = runs_from x 1 xs in
    let h = runs-some x 1 xs in
    let z : eqb n 0 ≡ false = ne_eqb n 0 (λ (y : n ≡ 0). omega arith) in
    rw (z, counts-held rs n cs e q, e, p)

-- a key's bytes: the lowest four of its two's complement of 64 bits are those of 32
low-four : (n : ℕ) → little 4 n ≡ little 4 (n % 4294967296)
low-four n = ap (λ (l : List ℕ). reverse (drop 4 l)) (interval-parts n)

key-bytes : (v : ℤ) → fits i32 (int v) ≡ true → item_of i32 (int v) ≡ little 4 (of_z w32 v)
unfolding fits item_of int_in
key-bytes v h =
    let f : SFits w32 v = record { sfits = ltb-true (mag v) (2 ^ hbits w32) h } in
    low-four (of_z w64 v) ∙ ap (little 4) (lowest w32 (lit≤ tt) v f)

each-key : (ks : List ℤ) → Each (λ x. fits i32 x ≡ true) (map int ks) → Each (λ v. item_of i32 (int v) ≡ little 4 (of_z w32 v)) ks
each-key [] h = tt
each-key (v ∷ ks) h = (key-bytes v h.0, each-key ks h.1)

keys-held : (rs : List Run) (n : ℕ) (ks : List ℤ) → n ≡ length rs → map (λ r. r.row) rs ≡ map int (take (length rs) ks)
    → Each (λ x. fits i32 x ≡ true) (map (λ r. r.row) rs) → joined (λ key. little 4 (of_z w32 key)) (take n ks) ≡ plain_of i32 (map (λ r. r.row) rs)
unfolding plain_of
keys-held rs n ks e q f =
    let l : List ℤ = take (length rs) ks in
    let g : Each (λ x. fits i32 x ≡ true) (map int l) = subst (λ (m : List Row). Each (λ x. fits i32 x ≡ true) m) q f in
    rw (e, q) (sym (joined-map (item_of i32) int l ∙ joined_same (λ v. item_of i32 (int v)) (λ v. little 4 (of_z w32 v)) l (each-key l g)))

-- ---- the block
module _ (k : Kind) (rows : List Row) (r : Counted) (a : Lent) where
  inner_block : (e : Encoding) (n : ℕ) → Recorded k e rows r → Holds k e rows a → n ≡ length (stored_rows e rows)
      → held_inner (flagged e) k n r.bytes a.items a.ends a.flags ≡ cond (flagged e) (nullable_of k (stored_rows e rows)) (plain_of k (stored_rows e rows))
  inner_block e n h g q = inner-held (flagged e) k (stored_rows e rows) n r.bytes a.items a.ends a.flags q h.bytes g.items g.ends g.flags

  key-block : Recorded k Dictionary rows r → Holds k Dictionary rows a → held_keys r.runs a.counts a.keys ≡ key_block_of rows
  unfolding held_keys key_block_of keys_of run_rows keyed stored_runs
  key-block h g =
      runs-held (plain_of i32) (keys_of rows) r.runs a.counts _ h.runs g.counts
      (keys-held (runs_of (keys_of rows)) r.runs a.keys h.runs (g.keys refl) (g.keys_fit refl))

  dictionary-block : Recorded k Dictionary rows r → Holds k Dictionary rows a
      → held_dictionary k r.entries r.bytes r.runs a.items a.ends a.counts a.keys ≡ dictionary_of k rows
  unfolding held_dictionary dictionary_of stored_rows stored_entries
  dictionary-block h g =
      rw (
        key-block h g,
        plain-held k (entries_of rows) r.entries r.bytes a.items a.ends h.entries h.bytes g.items g.ends,
        h.entries,
      )

  pub block_held : (e : Encoding) → Recorded k e rows r → Holds k e rows a → held_block k e r a ≡ block_of k e rows
  unfolding held_block block_of flagged keyed stored_rows stored_runs stored_entries
  block_held Plain h g = inner_block Plain r.rows h g h.rows
  block_held Nullable h g = inner_block Nullable r.rows h g h.rows
  block_held RunLength h g =
      runs-held (plain_of k) rows r.runs a.counts _ h.runs g.counts (inner_block RunLength r.runs h g (h.runs ∙ sym (rows-length rows)))
  block_held RunLengthNullable h g =
      runs-held (nullable_of k) rows r.runs a.counts _ h.runs g.counts (inner_block RunLengthNullable r.runs h g (h.runs ∙ sym (rows-length rows)))
  block_held Dictionary h g = dictionary-block h g

-- ---- the estimated size
-- a key is four bytes, and each run has one
pub key-size : (rows : List Row) → length (plain_of i32 (run_rows (keys_of rows))) ≡ 4 * length (runs_of (keys_of rows))
key-size rows = keys_length (run_rows (keys_of rows)) ∙ ap (λ (n : ℕ). 4 * n) (rows-length (keys_of rows))

module _ (k : Kind) (rows : List Row) (r : Counted) where
  inner-size : (e : Encoding) → Recorded k e rows r → inner_size k e r ≡ plain_size k (stored_rows e rows) + cond (flagged e) (length (bitmap_of (stored_rows e rows))) 0
  unfolding inner_size plain_size
  inner-size e h = rw (plain_by k rows r e h, stored-by k rows r e h, length-bitmap (stored_rows e rows))

  pub size-told : (e : Encoding) → Recorded k e rows r → size_by k e r ≡ estimate_of k e rows
  unfolding size_by run_size estimate_of nullable_size run_length_size flagged stored_rows stored_runs plain_size
  size-told Plain h = inner-size Plain h ∙ add-zero (length (plain_of k rows))
  size-told Nullable h = inner-size Nullable h
  size-told RunLength h = rw (inner-size RunLength h, add-zero, h.runs)
  size-told RunLengthNullable h = rw (inner-size RunLengthNullable h, h.runs)
  size-told Dictionary h = rw (inner-size Dictionary h, add-zero, h.runs, key-size rows)

-- ---- should_finish
-- the next item, by what is asked of it
next-told : (k : Kind) (g : Given) → next_bytes k g.present (length g.text) ≡ next_size k (row_in k g)
unfolding next_bytes next_size row_in row_of value_of bytes_in
next-told (Fixed p) g = refl
next-told (Char w) g = refl
next-told (Blob text) g = go g.present
  where
    go : (t : Bool) → cond t (length g.text + 4) 4 ≡ length (bytes_in (cond t (value_of (Blob text) g.value g.text) null)) + 4
    go true = refl
    go false = refl

module _ (k : Kind) (rows : List Row) (r : Counted) (target key : ℕ) (g : Given) where
  items-full : (e : Encoding) → Recorded k e rows r
      → items_full k e r target g.present (length g.text) ≡ full_with (next_size k (row_in k g) + cond (flagged e) 1 0) k target (stored_rows e rows)
  unfolding items_full exceeds full_with plain_size
  items-full e h = rw (plain_by k rows r e h, h.bytes, next-told k g)

  keys-full : Recorded k Dictionary rows r → keys_full r key ≡ plain_full i32 key (run_rows (keys_of rows)) null
  unfolding keys_full exceeds plain_bytes plain_full full_with next_size plain_size plain_of stored_runs
  keys-full h = rw (h.runs, key-size rows)

  pub full-told : (e : Encoding) → Recorded k e rows r → full_by k e r target key g.present (length g.text) ≡ should_finish k e target key rows (row_in k g)
  unfolding full_by should_finish plain_full nullable_full flagged stored_rows
  full-told Plain h = rw add-zero at (items-full Plain h)
  full-told Nullable h = items-full Nullable h
  full-told RunLength h = rw add-zero at (items-full RunLength h)
  full-told RunLengthNullable h = items-full RunLengthNullable h
  full-told Dictionary h = rw (keys-full h) (ap (λ (t : Bool). t || plain_full i32 key (run_rows (keys_of rows)) null) (rw add-zero at (items-full Dictionary h)))
