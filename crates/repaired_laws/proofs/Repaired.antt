-- The rows that are salvaged from a dictionary block whose key block and entries are sound, while its keys may name no entry: each run shows null or
-- an entry of the block. The dictionary block that is built of them is accepted, and never longer. Assumes nothing.
use Prim.Native.Nat.{ℕ, zero, suc, ◌+◌, ◌*◌, ◌≤◌, ◌<◌}
use native.Mathlib.Nat.{zero-add}
use native.Mathlib.Omega.{arith}
use mathlib.Core.Bool.{true}
use mathlib.Core.List.{List, [], ◌∷◌, map}
use mathlib.Core.Logic.{◌⊎◌, inl, inr}
use mathlib.Core.Path.{◌≡◌, refl, sym, ap, subst, ◌∙◌}
use lib.ListN.{length, drop, length-drop}
use lib.Seq.{length-take-le}
use borrow.Author.Tests.{le-leb}
use Rattle.limits.specs.Limits.{MOST_ROWS, MOST_ITEMS, MOST_ENTRIES, MOST_BYTES}
use Rattle.encode.specs.declared.Primitive.TheVariants.{I32}
use Rattle.encode.specs.declared.Kind.{Kind}
use Rattle.encode.specs.declared.Kind.TheVariants.{Fixed, Char, Blob}
use Rattle.varint.proofs.OneSpelling.{Bytes}
use Rattle.plain.specs.Each.{Each}
use Rattle.plain.specs.Rows.{Row, null, fits}
use Rattle.plain.specs.Plain.{plain_of, plain_number, plain_row}
use Rattle.plain.proofs.Each.{all-each}
use Rattle.plain.proofs.Numbers.{fixed_plain}
use Rattle.plain.proofs.Places.{length_over, get_d_over}
use Rattle.rle.specs.RunLength.{runs_of, counts_of, runs_in, counts_length, counts_part, inner_part, run_length_number, run_numbers}
use Rattle.dict.specs.Dictionary.{i32, entries_of, dictionary_of, entry_row}
use Rattle.format.specs.declared.Encoding.{Encoding}
use Rattle.format.specs.declared.Encoding.TheVariants.{Dictionary}
use Rattle.format.specs.Blocks.{block_of}
use Rattle.format.specs.Sizes.{stored_items, stored_entries, within_limits, all_fit, accepted}
use Rattle.format.proofs.Sound.{NoRuns, SomeRuns, runs-sound}
use Rattle.format.proofs.Within.{Limits}
use Rattle.block_laws.proofs.Lists.{each_map}
use Rattle.block_laws.proofs.Plains.{Fits}
use Rattle.repaired_laws.proofs.ShownRuns.{counts-bytes, runs-at-most, rows-many}
use Rattle.repaired_laws.proofs.FewerEntries.{NullOrOneOf, if-one-of}
use Rattle.repaired_laws.proofs.SoundItems.{plain_fits}
use Rattle.repaired_laws.proofs.PlainEntries.{rows_in, no-more-entries, no-longer-entries}
use Rattle.repaired_laws.proofs.Lengths.{key_bytes, no-key-bytes, key-bytes-most, key-runs-many, dictionary-length}

-- ---- the counts of a key block, and its rows by what each run shows
abbrev pub key_counts : List ℕ → List ℕ
key_counts kb = counts_part (counts_length kb) kb

abbrev pub shown_rows : (ℕ → Row) → List ℕ → List Row
shown_rows show kb = map show (run_numbers (runs_in kb) 0 (key_counts kb))

-- ---- a list that fits and is within the limits is accepted
all-fit : (k : Kind) (rows : List Row) → Each (Fits k) rows → all_fit k rows ≡ true
unfolding all_fit
all-fit k [] h = refl
all-fit k (r ∷ rows) h = rw h.0 (all-fit k rows h.1)

all-within : (k : Kind) (e : Encoding) (rows : List Row) → Limits k e rows → within_limits k e rows ≡ true
unfolding within_limits
all-within k e rows h =
    simp (le-leb _ MOST_ROWS h.total, le-leb _ MOST_ITEMS h.items, le-leb _ MOST_ENTRIES h.entries, le-leb _ MOST_BYTES h.size)

null-fits : (k : Kind) → Fits k null
unfolding fits
null-fits (Fixed p) = refl
null-fits (Char w) = refl
null-fits (Blob text) = refl

-- ---- a sound key block, whose keys may name anything
module _ (n : ℕ) (kb : List ℕ) (keys : run_length_number (plain_number i32) n kb ≡ 0) where
  -- with runs it has eight bytes, the counts, and four bytes a run
  long : SomeRuns (plain_number i32) kb (runs_in kb) (counts_length kb) → length kb ≡ 8 + length (key_counts kb) + 4 * runs_in kb
  unfolding counts_part inner_part
  long e =
      let room = e.room in
      let counts = length-take-le (counts_length kb) (drop 8 kb) (simp length-drop (omega arith)) in
      let inner = fixed_plain I32 (runs_in kb) (drop (8 + counts_length kb) kb) e.inside in
      omega (arith, length-drop (8 + counts_length kb) kb)

  module _ (show : ℕ → Row) (fit : Bytes kb) where
    -- The rows have no more runs than the block, and their counts take no more bytes.
    pub shorter-runs : (length (runs_of (shown_rows show kb)) ≤ runs_in kb) × (length (counts_of (runs_of (shown_rows show kb))) ≤ length (key_counts kb))
    shorter-runs =
        let h = runs-at-most show (runs_in kb) (key_counts kb) n (runs-sound (plain_number i32) n kb keys).sum (counts-bytes (counts_length kb) kb fit) in
        (h.runs, h.counts)

    key-block-shorter : key_bytes (runs_of (shown_rows show kb)) ≤ length kb
    key-block-shorter = by (runs-sound (plain_number i32) n kb keys).either
      where
        by : NoRuns n kb (runs_in kb) (counts_length kb) ⊎ SomeRuns (plain_number i32) kb (runs_in kb) (counts_length kb)
            → key_bytes (runs_of (shown_rows show kb)) ≤ length kb
        by (inl e) = let z = e.no-runs in let h = shorter-runs in omega (arith, no-key-bytes (runs_of (shown_rows show kb)) (omega arith))
        by (inr e) = omega (arith, key-bytes-most (runs_of (shown_rows show kb)), shorter-runs, long e)

-- ---- each run shows null, by slot 0, or the entry of a slot
module _ (k : Kind) (entries : ℕ) (items : List ℕ) (sound : plain_number k entries items ≡ 0) (slot : ℕ → ℕ) (known : (i : ℕ) → slot i ≤ entries)
    (show : ℕ → Row) (shown : (i : ℕ) → show i ≡ entry_row k entries items (slot i)) where
  -- what holds of null and of each row of the entries holds of what is shown
  each-shown : (P : Row → Type 0) → P null → ((j : ℕ) → j < entries → P (plain_row k entries items j)) → (is : List ℕ) → Each P (map show is)
  unfolding entry_row
  each-shown P none some is = each_map P show is (all-each (λ i. P (show i)) (λ i. subst P (sym (shown i)) (by (slot i) (known i))) is)
    where
      by : (s : ℕ) → s ≤ entries → P (entry_row k entries items s)
      by zero l = none
      by (suc j) l = some j l

  abbrev ys : List Row
  ys = rows_in k entries items

  one_of : (j : ℕ) → j < entries → NullOrOneOf ys (plain_row k entries items j)
  one_of j l =
      if-one-of ys (plain_row k entries items j)
      (record {
        place = j;
        there = omega (arith, length_over (plain_row k entries items) entries 0);
        found = get_d_over (plain_row k entries items) entries 0 j null l ∙ ap (plain_row k entries items) (zero-add j);
      })

  -- The rows have no more entries than the block, and these take no more bytes.
  pub fewer-entries :
      (is : List ℕ) → (length (entries_of (map show is)) ≤ entries) × (length (plain_of k (entries_of (map show is))) ≤ length items)
  fewer-entries is =
      let h = each-shown (NullOrOneOf ys) tt one_of is in
      (no-more-entries (map show is) k entries items h, no-longer-entries (map show is) k entries items sound h)

  module _ (n : ℕ) (kb : List ℕ) (keys : run_length_number (plain_number i32) n kb ≡ 0) (fit : Bytes kb) where
    -- The dictionary block of the rows is not longer than the one that they are from.
    pub never-longer : length (dictionary_of k (shown_rows show kb)) ≤ 12 + length kb + length items
    never-longer =
        let rows : List Row = shown_rows show kb in
        let e = fewer-entries (run_numbers (runs_in kb) 0 (key_counts kb)) in
        omega (arith, dictionary-length k rows, key-block-shorter n kb keys show fit)

    -- And so it passes no limit that the other doesn't.
    pub rows-accepted :
        Bytes items → n ≤ MOST_ROWS → entries ≤ MOST_ENTRIES → 12 + length kb + length items ≤ MOST_BYTES
        → accepted k Dictionary (shown_rows show kb) ≡ true
    unfolding accepted stored_items stored_entries block_of
    rows-accepted fit-items few-rows few-entries small =
        let is : List ℕ = run_numbers (runs_in kb) 0 (key_counts kb) in
        let rows : List Row = shown_rows show kb in
        let s = runs-sound (plain_number i32) n kb keys in
        let e = fewer-entries is in
        let r = shorter-runs n kb keys show fit in
        let l = never-longer in
        let all : Each (Fits k) rows = each-shown (Fits k) (null-fits k) (plain_fits k entries items fit-items sound) is in
        let limits : Limits k Dictionary rows
        = record {
          total = omega (arith, rows-many show (runs_in kb) (key_counts kb) n s.sum);
          items = omega (arith, s.many, key-runs-many rows);
          entries = omega arith;
          size = omega arith;
        } in
        rw (all-fit k rows all, all-within k Dictionary rows limits)
