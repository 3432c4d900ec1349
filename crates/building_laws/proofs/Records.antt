-- A record that says what a list comes to: its sizes, its limits and its needs are the list's, and one row more is counted in rightly. Assumes nothing.
use Prim.Native.Nat.{ℕ, suc, ◌+◌, ◌-◌, ◌*◌, ◌≤◌}
use native.Mathlib.Nat.{add-zero}
use native.Mathlib.Omega.{arith}
use mathlib.Core.Bool.{Bool, true, false, cond, not, ◌&&◌, ◌||◌}
use mathlib.Core.List.{List, [], ◌∷◌, ◌++◌}
use mathlib.Core.Path.{◌≡◌, refl, sym, ap, ◌∙◌}
use lib.Dec.{ltb, leb}
use lib.ListN.{length, length-map}
use borrow.Author.Tests.{lt-ltb, le-ltb, leb-true, leb-false, eq-eqb, ne_eqb}
use Rattle.limits.specs.Limits.{MOST_ROWS, MOST_ITEMS, MOST_BYTES, MOST_ENTRIES}
use Rattle.encode.proofs.Bools.{or-none}
use Rattle.encode.specs.Kinds.{width_of}
use Rattle.encode.specs.declared.Kind.{Kind}
use Rattle.encode.specs.declared.Kind.TheVariants.{Fixed, Char, Blob}
use Rattle.plain.specs.Each.{Each}
use Rattle.plain.specs.Rows.{Row, fits}
use Rattle.plain.specs.Plain.{joined, item_of, plain_of}
use Rattle.nullable.specs.Nullable.{bitmap_length, presence, nullable_of}
use Rattle.nullable.proofs.Parts as NullableParts
use Rattle.rle.specs.RunLength.{Run, runs_of, counts_of}
use Rattle.dict.specs.Dictionary.{i32, entries_of, key_block_of}
use Rattle.format.specs.declared.Encoding.{Encoding}
use Rattle.format.specs.declared.Encoding.TheVariants.{Plain, Nullable, RunLength, RunLengthNullable, Dictionary}
use Rattle.format.specs.Blocks.{block_of}
use Rattle.format.specs.Sizes.{run_rows, keys_of, stored_items, stored_entries, within_limits}
use Rattle.format.proofs.Within.{within-told}
use Rattle.needs.specs.declared.Counted.{Counted}
use Rattle.needs.specs.Needs.{coded, flagged, keyed, stored_by, plain_bytes, inner_bytes, run_bytes, finished_bytes, counts_past, past_limits}
use Rattle.needs.specs.Needs.{bytes_wrong, record_wrong, fields_short, runs_short, too_short}
use Rattle.step.specs.Counting.{grown}
use Rattle.append.specs.Appending.{Lent, room_of}
use Rattle.building_laws.specs.Built.{stored_rows, stored_runs, end_slots, len_slots, Enough}
use Rattle.building_laws.proofs.Lists.{length-snoc}
use Rattle.building_laws.proofs.Same.{never}
use Rattle.building_laws.proofs.Runs.{last_run, Grows}
use Rattle.building_laws.proofs.FieldsAndSlots.{runs-field, last-field, counts-field, bytes-field}
use Rattle.building_laws.proofs.OneRowMore.{joins_by, item_by, coded_row, runs-next, last-next, items-next, entries_next}
use Rattle.building_laws.proofs.Measures.{fixed-items, char-items, plain-length, keys_length, runs-length, counts-within, dictionary-length}

-- what the record counts
pub record Recorded (k : Kind) (e : Encoding) (xs : List Row) (r : Counted) : Type 0 where
  pub rows : r.rows ≡ length xs
  pub runs : r.runs ≡ length (stored_runs e xs)
  pub entries : r.entries ≡ stored_entries e xs
  pub bytes : r.bytes ≡ length (joined (item_of k) (stored_rows e xs))
  pub last : r.last ≡ (last_run (stored_runs e xs)).count
  pub null : keyed e ≡ false → r.null ≡ 1 - presence (last_run (stored_runs e xs)).row
  pub counts : r.counts ≡ length (counts_of (stored_runs e xs))

-- ---- one row more
next-null : (c joins : Bool) (x : Row) (rs rs' : List Run) (n : ℕ) → Grows c joins x rs rs' → n ≡ 1 - presence (last_run rs).row
    → cond c (1 - presence x) n ≡ 1 - presence (last_run rs').row
next-null true joins x rs rs' n g h = rw (last-next joins x rs rs' g)
next-null false joins x rs rs' n g h = rw g h

-- what is coded by runs is the row itself, where rows have no keys
own_row : (e : Encoding) (rows : List Row) (x : Row) → keyed e ≡ false → coded_row e rows x ≡ x
unfolding keyed coded_row
own_row Plain rows x h = refl
own_row Nullable rows x h = refl
own_row RunLength rows x h = refl
own_row RunLengthNullable rows x h = refl
own_row Dictionary rows x h = never (sym h)

-- the record with the row counted in
abbrev pub next_by : Kind → Encoding → List Row → Row → Counted → Counted
next_by k e rows x r = grown e r (presence x) (length (item_of k x)) (item_by e rows x) (joins_by e rows x)

module _ (k : Kind) (e : Encoding) (rows : List Row) (x : Row) (r : Counted) (h : Recorded k e rows r) where
  pub recorded-next : Recorded k e (rows ++ (x ∷ [])) (next_by k e rows x r)
  unfolding grown
  recorded-next =
      let rs : List Run = stored_runs e rows in
      let rs' : List Run = stored_runs e (rows ++ (x ∷ [])) in
      let g = runs-next e rows x in
      record {
        rows = ap (λ (n : ℕ). n + 1) h.rows ∙ sym (length-snoc rows x);
        runs = runs-field (coded e) (joins_by e rows x) (coded_row e rows x) rs rs' r.runs g h.runs;
        entries = rw h.entries (entries_next e rows x);
        bytes = bytes-field x (stored_rows e rows) (stored_rows e (rows ++ (x ∷ []))) (item_by e rows x) (item_of k) r.bytes (items-next e rows x) h.bytes;
        last = last-field (coded e) (joins_by e rows x) (coded_row e rows x) rs rs' r.last g h.last;
        null = λ u. next-null (coded e) (joins_by e rows x) x rs rs' r.null (rw (own_row e rows x u) at g) (h.null u);
        counts = counts-field (coded e) (joins_by e rows x) (coded_row e rows x) rs rs' r.counts r.last g h.counts h.last;
      }

-- ---- sizes
pub rows-length : (rows : List Row) → length (run_rows rows) ≡ length (runs_of rows)
unfolding run_rows
rows-length rows = length-map (runs_of rows) (λ x. x.row)

module _ (k : Kind) (rows : List Row) (r : Counted) where
  pub stored-by : (e : Encoding) → Recorded k e rows r → stored_by e r ≡ length (stored_rows e rows)
  unfolding stored_by coded keyed stored_rows stored_runs stored_entries run_rows
  stored-by Plain h = h.rows
  stored-by Nullable h = h.rows
  stored-by RunLength h = h.runs ∙ sym (length-map (runs_of rows) (λ x. x.row))
  stored-by RunLengthNullable h = h.runs ∙ sym (length-map (runs_of rows) (λ x. x.row))
  stored-by Dictionary h = h.entries

  pub plain_by : (e : Encoding) → Recorded k e rows r → plain_bytes k (stored_by e r) r.bytes ≡ length (plain_of k (stored_rows e rows))
  plain_by e h = rw (stored-by e h, h.bytes) (plain-length k (stored_rows e rows))

  inner-by : (e : Encoding) → Recorded k e rows r
      → inner_bytes k e r ≡ length (cond (flagged e) (nullable_of k (stored_rows e rows)) (plain_of k (stored_rows e rows)))
  unfolding inner_bytes
  inner-by e h = rw (plain_by e h, stored-by e h) (go (flagged e))
    where
      s : List Row
      s = stored_rows e rows

      go : (t : Bool) → length (plain_of k s) + cond t (bitmap_length (length s) + 4) 0 ≡ length (cond t (nullable_of k s) (plain_of k s))
      go true = sym (NullableParts.length-block k s)
      go false = add-zero (length (plain_of k s))

  pub finished-by : (e : Encoding) → Recorded k e rows r → finished_bytes k e r ≡ length (block_of k e rows)
  unfolding finished_bytes run_bytes block_of flagged stored_rows stored_runs key_block_of keys_of
  finished-by Plain h = inner-by Plain h
  finished-by Nullable h = inner-by Nullable h
  finished-by RunLength h = rw (inner-by RunLength h, h.runs, h.counts) (runs-length (plain_of k) rows)
  finished-by RunLengthNullable h = rw (inner-by RunLengthNullable h, h.runs, h.counts) (runs-length (nullable_of k) rows)
  finished-by Dictionary h =
      let rs : List Run = runs_of (keys_of rows) in
      let m : length (plain_of i32 (run_rows (keys_of rows))) ≡ 4 * length rs = keys_length (run_rows (keys_of rows)) ∙ ap (λ (n : ℕ). 4 * n) (rows-length (keys_of rows)) in
      rw (inner-by Dictionary h, h.runs, h.counts, ← m, runs-length (plain_of i32) (keys_of rows)) (dictionary-length k rows)

-- ---- limits
past_one : (a b : ℕ) → ltb b a ≡ not (leb a b)
past_one a b = go (leb a b) refl
  where
    go : (t : Bool) → leb a b ≡ t → ltb b a ≡ not t
    go true h = le-ltb b a (leb-true a b h)
    go false h = lt-ltb b a (leb-false a b h)

past-any : (a b c d : Bool) → (not a || not b || not c || not d) ≡ not (a && b && c && d)
past-any false b c d = refl
past-any true false c d = refl
past-any true true false d = refl
past-any true true true d = refl

-- a limit is passed by one of four counts
past-four : (a b d l m n : ℕ) (t u : Bool) → t ≡ not u → (ltb l a || ltb m b || t || ltb n d) ≡ not (leb a l && leb b m && u && leb d n)
past-four a b d l m n t u h = rw (past_one a l, past_one b m, h, past_one d n) (past-any (leb a l) (leb b m) u (leb d n))

module _ (k : Kind) (rows : List Row) (r : Counted) where
  pub past-limits : (e : Encoding) → Recorded k e rows r → past_limits k e r ≡ not (within_limits k e rows)
  unfolding past_limits counts_past within_limits coded keyed stored_items stored_entries stored_runs
  past-limits Plain h =
      rw (finished-by k rows r Plain h, h.rows) (past-four (length rows) (length rows) (length (block_of k Plain rows)) MOST_ROWS MOST_ITEMS MOST_BYTES false true refl)
  past-limits Nullable h =
      rw (finished-by k rows r Nullable h, h.rows) (past-four (length rows) (length rows) (length (block_of k Nullable rows)) MOST_ROWS MOST_ITEMS MOST_BYTES false true refl)
  past-limits RunLength h =
      rw (finished-by k rows r RunLength h, h.rows, h.runs)
      (past-four (length rows) (length (runs_of rows)) (length (block_of k RunLength rows)) MOST_ROWS MOST_ITEMS MOST_BYTES false true refl)
  past-limits RunLengthNullable h =
      rw (finished-by k rows r RunLengthNullable h, h.rows, h.runs)
      (past-four (length rows) (length (runs_of rows)) (length (block_of k RunLengthNullable rows)) MOST_ROWS MOST_ITEMS MOST_BYTES false true refl)
  past-limits Dictionary h =
      rw (finished-by k rows r Dictionary h, h.rows, h.runs, h.entries)
      (past-four (length rows) (length (runs_of (keys_of rows))) (length (block_of k Dictionary rows)) MOST_ROWS MOST_ITEMS MOST_BYTES
      (ltb MOST_ENTRIES (length (entries_of rows))) (leb (length (entries_of rows)) MOST_ENTRIES) (past_one (length (entries_of rows)) MOST_ENTRIES))

-- ---- a record that says what a list within the limits comes to is not wrong
bytes-right : (k : Kind) (s : List Row) → Each (λ x. fits k x ≡ true) s → bytes_wrong k (length s) (length (joined (item_of k) s)) ≡ false
unfolding bytes_wrong joined
bytes-right (Fixed p) s h = rw (eq-eqb (length (joined (item_of (Fixed p)) s)) (length s * width_of p) (fixed-items p s))
bytes-right (Char w) s h = rw (eq-eqb (length (joined (item_of (Char w)) s)) (length s * w) (char-items w s h))
bytes-right (Blob text) [] h = refl
bytes-right (Blob text) (x ∷ s) h = rw (ne_eqb (suc (length s)) 0 (λ (q : suc (length s) ≡ 0). omega arith))

counts-small : (k : Kind) (e : Encoding) (rows : List Row) → length (counts_of (stored_runs e rows)) ≤ length (block_of k e rows)
unfolding stored_runs block_of key_block_of keys_of counts_of joined
counts-small k Plain rows = omega arith
counts-small k Nullable rows = omega arith
counts-small k RunLength rows = counts-within (plain_of k) rows
counts-small k RunLengthNullable rows = counts-within (nullable_of k) rows
counts-small k Dictionary rows =
    let a = counts-within (plain_of i32) (keys_of rows) in
    let b = dictionary-length k rows in
    omega arith

and-never : (t u : Bool) → u ≡ false → (t && u) ≡ false
and-never true u h = h
and-never false u h = refl

module _ (k : Kind) (e : Encoding) (rows : List Row) (r : Counted) (h : Recorded k e rows r) where
  pub record-right : Each (λ x. fits k x ≡ true) (stored_rows e rows) → within_limits k e rows ≡ true → record_wrong k e r ≡ false
  unfolding record_wrong
  record-right f w =
      let c : r.counts ≤ MOST_BYTES = omega (arith, h.counts, counts-small k e rows, (within-told k e rows w).size) in
      or-none
      (or-none
      (and-never (coded e) (ltb MOST_BYTES r.counts) (le-ltb MOST_BYTES r.counts c))
      (rw (stored-by k rows r e h, h.bytes) (bytes-right k (stored_rows e rows) f)))
      (past-limits k rows r e h ∙ ap not w)

-- ---- areas that are long enough for the list are not below the record's needs
fields-long : (k : Kind) (n : ℕ) (a : Lent) → end_slots k n ≤ length a.ends → len_slots k n ≤ length a.lens → fields_short k n (room_of a) ≡ false
unfolding fields_short room_of end_slots len_slots
fields-long (Fixed p) n a h g = refl
fields-long (Char w) n a h g = le-ltb (length a.lens) n g
fields-long (Blob text) n a h g = le-ltb (length a.ends) n h

if-long : (t : Bool) (n m : ℕ) → cond t n 0 ≤ m → (t && ltb m n) ≡ false
if-long true n m h = le-ltb m n h
if-long false n m h = refl

pub room-enough : (k : Kind) (e : Encoding) (rows : List Row) (r : Counted) (a : Lent) → Recorded k e rows r → Enough k e rows a → too_short k e r (room_of a) ≡ false
unfolding too_short runs_short room_of
room-enough k e rows r a h g =
    let n = stored-by k rows r e h in
    or-none
    (or-none
    (or-none
    (le-ltb (length a.items) r.bytes (omega (arith, h.bytes, g.items)))
    (rw n (fields-long k (length (stored_rows e rows)) a g.ends g.lens)))
    (rw n (if-long (flagged e) (bitmap_length (length (stored_rows e rows))) (length a.flags) g.flags)))
    (or-none
    (and-never (coded e) (ltb (length a.counts) r.runs) (le-ltb (length a.counts) r.runs (omega (arith, h.runs, g.counts))))
    (rw h.runs (if-long (keyed e) (length (stored_runs e rows)) (length a.keys) g.keys)))
