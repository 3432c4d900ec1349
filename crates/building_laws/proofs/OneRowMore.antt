-- What the block of a list stores with one row more at the list's end: the items, the runs and the entries. Assumes nothing.
use Prim.Native.Nat.{ℕ, ◌+◌, ◌≤◌}
use native.Mathlib.Omega.{arith}
use mathlib.Core.Bool.{Bool, true, false, cond, not, ◌&&◌}
use mathlib.Core.List.{List, [], ◌∷◌, ◌++◌, map, append-nil, append_assoc, map-append}
use mathlib.Core.Path.{◌≡◌, refl, sym, ap, subst, ◌∙◌}
use lib.IntN.{ℤ, pos}
use lib.ListN.{length}
use Rattle.limits.specs.Limits.{MOST_ENTRIES}
use Rattle.encode.specs.declared.Kind.{Kind}
use Rattle.encode.specs.declared.Kind.TheVariants.{Fixed, Char, Blob}
use Rattle.plain.specs.Rows.{Row, null, int, bytes, int_in, fits}
use Rattle.plain.specs.Plain.{joined, item_of}
use Rattle.nullable.specs.Nullable.{bitmap_length}
use Rattle.rle.specs.RunLength.{Run, run, runs_of}
use Rattle.dict.specs.Dictionary.{i32, entries_of, key_of}
use Rattle.format.specs.declared.Encoding.{Encoding}
use Rattle.format.specs.declared.Encoding.TheVariants.{Plain, Nullable, RunLength, RunLengthNullable, Dictionary}
use Rattle.format.specs.Sizes.{run_rows, keys_of, stored_entries}
use Rattle.needs.specs.Needs.{coded, flagged, keyed}
use Rattle.append.specs.Appending.{Lent}
use Rattle.building_laws.specs.Built.{stored_rows, stored_runs, end_slots, len_slots, Enough}
use Rattle.building_laws.proofs.Lists.{length-snoc, length-joined-snoc}
use Rattle.building_laws.proofs.Same.{never}
use Rattle.building_laws.proofs.Runs.{last_run, last-run, joins_last, Grows, runs_grow}
use Rattle.building_laws.proofs.Entries.{is_new, entries-snoc, keys-snoc, key_fits}

-- ---- whether the row joins the last run; whether it is one stored item more; what is coded by runs; its key
unfoldable pub joins_by : Encoding → List Row → Row → Bool
joins_by Plain rows x = false
joins_by Nullable rows x = false
joins_by RunLength rows x = joins_last (runs_of rows) x
joins_by RunLengthNullable rows x = joins_last (runs_of rows) x
joins_by Dictionary rows x = joins_last (runs_of (keys_of rows)) (key_of (entries_of rows) x)

unfoldable pub item_by : Encoding → List Row → Row → Bool
item_by Plain rows x = true
item_by Nullable rows x = true
item_by RunLength rows x = not (joins_last (runs_of rows) x)
item_by RunLengthNullable rows x = not (joins_last (runs_of rows) x)
item_by Dictionary rows x = is_new (entries_of rows) x

unfoldable pub coded_row : Encoding → List Row → Row → Row
coded_row Plain rows x = x
coded_row Nullable rows x = x
coded_row RunLength rows x = x
coded_row RunLengthNullable rows x = x
coded_row Dictionary rows x = key_of (entries_of rows) x

unfoldable pub key_by : Encoding → List Row → Row → ℤ
key_by Plain rows x = pos 0
key_by Nullable rows x = pos 0
key_by RunLength rows x = pos 0
key_by RunLengthNullable rows x = pos 0
key_by Dictionary rows x = int_in (key_of (entries_of rows) x)

-- ---- runs
pub runs-next : (e : Encoding) (rows : List Row) (x : Row)
    → Grows (coded e) (joins_by e rows x) (coded_row e rows x) (stored_runs e rows) (stored_runs e (rows ++ (x ∷ [])))
unfolding coded joins_by coded_row stored_runs
runs-next Plain rows x = refl
runs-next Nullable rows x = refl
runs-next RunLength rows x = runs_grow rows x
runs-next RunLengthNullable rows x = runs_grow rows x
runs-next Dictionary rows x =
    let z : Row = key_of (entries_of rows) x in
    subst (λ (l : List Row). Grows true (joins_last (runs_of (keys_of rows)) z) z (runs_of (keys_of rows)) (runs_of l)) (sym (keys-snoc rows x)) (runs_grow (keys_of rows) z)

-- the last run is the row's
pub last-next : (joins : Bool) (z : Row) (rs rs' : List Run) → Grows true joins z rs rs' → (last_run rs').row ≡ z
last-next true z rs rs' g = rw (g.after, last-run g.init (run g.last.row (g.last.count + 1))) (sym g.alike)
last-next false z rs rs' g = rw (g, last-run rs (run z 1))

-- ---- items
pub rows-of-runs : (joins : Bool) (z : Row) (rs rs' : List Run) → Grows true joins z rs rs'
    → map (λ r. r.row) rs' ≡ cond (not joins) (map (λ r. r.row) rs ++ (z ∷ [])) (map (λ r. r.row) rs)
rows-of-runs true z rs rs' g =
    let f : Run → Row = λ r. r.row in
    rw (g.after, g.before) (map-append f g.init (run g.last.row (g.last.count + 1) ∷ []) ∙ sym (map-append f g.init (g.last ∷ [])))
rows-of-runs false z rs rs' g = rw g (map-append (λ r. r.row) rs (run z 1 ∷ []))

pub items-next : (e : Encoding) (rows : List Row) (x : Row)
    → stored_rows e (rows ++ (x ∷ [])) ≡ cond (item_by e rows x) (stored_rows e rows ++ (x ∷ [])) (stored_rows e rows)
unfolding item_by stored_rows run_rows
items-next Plain rows x = refl
items-next Nullable rows x = refl
items-next RunLength rows x = rows-of-runs (joins_last (runs_of rows) x) x (runs_of rows) (runs_of (rows ++ (x ∷ []))) (runs_grow rows x)
items-next RunLengthNullable rows x = rows-of-runs (joins_last (runs_of rows) x) x (runs_of rows) (runs_of (rows ++ (x ∷ []))) (runs_grow rows x)
items-next Dictionary rows x = entries-snoc rows x

-- ---- entries
pub entries_next : (e : Encoding) (rows : List Row) (x : Row)
    → cond (keyed e && item_by e rows x) (stored_entries e rows + 1) (stored_entries e rows) ≡ stored_entries e (rows ++ (x ∷ []))
unfolding keyed item_by stored_entries
entries_next Plain rows x = refl
entries_next Nullable rows x = refl
entries_next RunLength rows x = refl
entries_next RunLengthNullable rows x = refl
entries_next Dictionary rows x = rw (entries-snoc rows x) (go (is_new (entries_of rows) x))
  where
    go : (t : Bool) → cond t (length (entries_of rows) + 1) (length (entries_of rows)) ≡ length (cond t (entries_of rows ++ (x ∷ [])) (entries_of rows))
    go true = sym (length-snoc (entries_of rows) x)
    go false = refl

-- ---- keys
pub key-next : (e : Encoding) (rows : List Row) (x : Row) → keyed e ≡ true → coded_row e rows x ≡ int (key_by e rows x)
unfolding keyed coded_row key_by key_of int_in
key-next Plain rows x h = never h
key-next Nullable rows x h = never h
key-next RunLength rows x h = never h
key-next RunLengthNullable rows x h = never h
key-next Dictionary rows x h = go x
  where
    go : (x : Row) → key_of (entries_of rows) x ≡ int (int_in (key_of (entries_of rows) x))
    go null = refl
    go (int v) = refl
    go (bytes bs) = refl

pub key-next-fits : (e : Encoding) (rows : List Row) (x : Row) → keyed e ≡ true → stored_entries e rows ≤ MOST_ENTRIES → fits i32 (coded_row e rows x) ≡ true
unfolding keyed coded_row stored_entries
key-next-fits Plain rows x h l = never h
key-next-fits Nullable rows x h l = never h
key-next-fits RunLength rows x h l = never h
key-next-fits RunLengthNullable rows x h l = never h
key-next-fits Dictionary rows x h l = key_fits (entries_of rows) x l

-- ---- areas that are long enough for the list with the row are so without it
runs-least : (c joins : Bool) (z : Row) (rs rs' : List Run) → Grows c joins z rs rs' → length rs ≤ length rs'
runs-least true true z rs rs' g =
    let a = ap length g.before in
    let b = ap length g.after in
    omega (arith, length-snoc g.init g.last, length-snoc g.init (run g.last.row (g.last.count + 1)))
runs-least true false z rs rs' g = rw g (omega (arith, length-snoc rs (run z 1)))
runs-least false joins z rs rs' g = rw g (omega arith)

items-least : (item : Bool) (x : Row) (s s' : List Row) → s' ≡ cond item (s ++ (x ∷ [])) s → length s ≤ length s'
items-least true x s s' g = rw g (omega (arith, length-snoc s x))
items-least false x s s' g = rw g (omega arith)

bytes-least : (f : Row → List ℕ) (item : Bool) (x : Row) (s s' : List Row) → s' ≡ cond item (s ++ (x ∷ [])) s → length (joined f s) ≤ length (joined f s')
bytes-least f true x s s' g = rw g (omega (arith, length-joined-snoc f s x))
bytes-least f false x s s' g = rw g (omega arith)

pub ends-least : (k : Kind) (m n : ℕ) → m ≤ n → end_slots k m ≤ end_slots k n
unfolding end_slots
ends-least (Fixed p) m n h = omega arith
ends-least (Char w) m n h = omega arith
ends-least (Blob text) m n h = h

pub lens-least : (k : Kind) (m n : ℕ) → m ≤ n → len_slots k m ≤ len_slots k n
unfolding len_slots
lens-least (Fixed p) m n h = omega arith
lens-least (Char w) m n h = h
lens-least (Blob text) m n h = omega arith

pub flags-least : (t : Bool) (m n : ℕ) → m ≤ n → cond t (bitmap_length m) 0 ≤ cond t (bitmap_length n) 0
unfolding bitmap_length
flags-least true m n h = omega arith
flags-least false m n h = omega arith

keys-least : (t : Bool) (m n : ℕ) → m ≤ n → cond t m 0 ≤ cond t n 0
keys-least true m n h = h
keys-least false m n h = omega arith

pub enough-before : (k : Kind) (e : Encoding) (rows : List Row) (x : Row) (a : Lent) → Enough k e (rows ++ (x ∷ [])) a → Enough k e rows a
enough-before k e rows x a h =
    let rows' : List Row = rows ++ (x ∷ []) in
    let g = items-next e rows x in
    let s = items-least (item_by e rows x) x (stored_rows e rows) (stored_rows e rows') g in
    let b = bytes-least (item_of k) (item_by e rows x) x (stored_rows e rows) (stored_rows e rows') g in
    let r = runs-least (coded e) (joins_by e rows x) (coded_row e rows x) (stored_runs e rows) (stored_runs e rows') (runs-next e rows x) in
    let en = ends-least k (length (stored_rows e rows)) (length (stored_rows e rows')) s in
    let fl = flags-least (flagged e) (length (stored_rows e rows)) (length (stored_rows e rows')) s in
    let ke = keys-least (keyed e) (length (stored_runs e rows)) (length (stored_runs e rows')) r in
    let le = lens-least k (length (stored_rows e rows)) (length (stored_rows e rows')) s in
    record {
      items = omega arith;
      ends = omega arith;
      flags = omega arith;
      counts = omega arith;
      keys = omega arith;
      lens = omega arith;
    }

pub enough-first : (k : Kind) (e : Encoding) (rows more : List Row) (a : Lent) → Enough k e (rows ++ more) a → Enough k e rows a
enough-first k e rows [] a h = subst (λ (l : List Row). Enough k e l a) (append-nil rows) h
enough-first k e rows (x ∷ more) a h =
    enough-before k e rows x a
    (enough-first k e (rows ++ (x ∷ [])) more a (subst (λ (l : List Row). Enough k e l a) (sym (append_assoc rows (x ∷ []) more)) h))
