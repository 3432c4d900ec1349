-- Lent areas that hold what a list comes to, and that hold it with one row more after that row was written. Assumes nothing.
use Prim.Native.Nat.{ℕ, ◌+◌, ◌-◌, ◌≤◌}
use native.Mathlib.Nat.{zero-add}
use native.Mathlib.Omega.{arith}
use mathlib.Core.Bool.{Bool, true, false, cond, not, ◌&&◌, and-true}
use mathlib.Core.List.{List, [], ◌∷◌, ◌++◌, map, map-append}
use mathlib.Core.Path.{◌≡◌, refl, sym, ap, ◌∙◌}
use lib.IntN.{ℤ}
use lib.ListN.{length, take, set, length-map, length-set}
use Rattle.limits.specs.Limits.{MOST_ENTRIES}
use Rattle.area.specs.Area.{over}
use Rattle.area.proofs.Laws.{over-length}
use Rattle.encode.specs.declared.Kind.{Kind}
use Rattle.encode.specs.declared.Kind.TheVariants.{Fixed, Char, Blob}
use Rattle.plain.specs.Each.{Each}
use Rattle.plain.specs.Rows.{Row, int, bytes_in, fits}
use Rattle.plain.specs.Plain.{joined, places, item_of, ends_from}
use Rattle.plain.proofs.Each.{each_append}
use Rattle.nullable.specs.Nullable.{presence, bit_at}
use Rattle.rle.specs.RunLength.{Run}
use Rattle.dict.specs.Dictionary.{i32}
use Rattle.plain.proofs.Ends.{length-ends}
use Rattle.format.specs.declared.Encoding.{Encoding}
use Rattle.format.specs.Sizes.{stored_entries}
use Rattle.slots.specs.Slots.{ends_with, lens_with, flags_with, counts_with}
use Rattle.needs.specs.declared.Counted.{Counted}
use Rattle.needs.specs.Needs.{coded, flagged, keyed, stored_by}
use Rattle.needs.proofs.Encodings.{keyed-coded}
use Rattle.append.specs.Appending.{Lent, laid}
use Rattle.building_laws.specs.Built.{stored_rows, stored_runs, end_slots, len_slots, Enough}
use Rattle.building_laws.proofs.Lists.{length-joined-snoc, ends_snoc}
use Rattle.building_laws.proofs.FieldsAndSlots.{counts-slots, keys-slots, item-slots, beside-slots}
use Rattle.building_laws.proofs.Flags.{flag-slots}
use Rattle.building_laws.proofs.OneRowMore.{joins_by, item_by, coded_row, key_by, runs-next, rows-of-runs, items-next, key-next, key-next-fits}
use Rattle.building_laws.proofs.Records.{Recorded, stored-by}

-- ---- the slots beside the items: only a blob has ends, and only a char has its length there
abbrev pub EndsHeld : Kind → List Row → List ℕ → Type 0
EndsHeld (Fixed p) s l = Unit
EndsHeld (Char w) s l = Unit
EndsHeld (Blob text) s l = take (length s) l ≡ ends_from 0 (map (item_of (Blob text)) s)

abbrev pub LensHeld : Kind → List Row → List ℕ → Type 0
LensHeld (Fixed p) s l = Unit
LensHeld (Char w) s l = take (length s) l ≡ map (λ x. length (bytes_in x)) s
LensHeld (Blob text) s l = Unit

-- what each area holds first; all that is stored fits
pub record Holds (k : Kind) (e : Encoding) (xs : List Row) (a : Lent) : Type 0 where
  pub items : take (length (joined (item_of k) (stored_rows e xs))) a.items ≡ joined (item_of k) (stored_rows e xs)
  pub ends : EndsHeld k (stored_rows e xs) a.ends
  pub flags : flagged e ≡ true → map (bit_at a.flags) (places (length (stored_rows e xs)) 0) ≡ map presence (stored_rows e xs)
  pub counts : take (length (stored_runs e xs)) a.counts ≡ map (λ r. r.count) (stored_runs e xs)
  pub keys : keyed e ≡ true → map (λ r. r.row) (stored_runs e xs) ≡ map int (take (length (stored_runs e xs)) a.keys)
  pub lens : LensHeld k (stored_rows e xs) a.lens
  pub fit : Each (λ x. fits k x ≡ true) (stored_rows e xs)
  pub keys_fit : keyed e ≡ true → Each (λ x. fits i32 x ≡ true) (map (λ r. r.row) (stored_runs e xs))

-- ---- areas that stay as long as they are
pub record Kept (a b : Lent) : Type 0 where
  pub items : length b.items ≡ length a.items
  pub ends : length b.ends ≡ length a.ends
  pub flags : length b.flags ≡ length a.flags
  pub counts : length b.counts ≡ length a.counts
  pub keys : length b.keys ≡ length a.keys
  pub lens : length b.lens ≡ length a.lens

pub kept_same : (a : Lent) → Kept a a
kept_same a = record { items = refl; ends = refl; flags = refl; counts = refl; keys = refl; lens = refl }

pub kept_then : (a b c : Lent) → Kept a b → Kept b c → Kept a c
kept_then a b c p q = record {
  items = q.items ∙ p.items;
  ends = q.ends ∙ p.ends;
  flags = q.flags ∙ p.flags;
  counts = q.counts ∙ p.counts;
  keys = q.keys ∙ p.keys;
  lens = q.lens ∙ p.lens;
}

pub kept-enough : (k : Kind) (e : Encoding) (rows : List Row) (a b : Lent) → Kept a b → Enough k e rows a → Enough k e rows b
kept-enough k e rows a b p h = record {
  items = rw p.items h.items;
  ends = rw p.ends h.ends;
  flags = rw p.flags h.flags;
  counts = rw p.counts h.counts;
  keys = rw p.keys h.keys;
  lens = rw p.lens h.lens;
}

-- ---- one more item's slots
module _ (x : Row) (s s' : List Row) where
  ends_held : (k : Kind) (item : Bool) (n m : ℕ) (l : List ℕ) → s' ≡ cond item (s ++ (x ∷ [])) s → n ≡ length s → m ≡ length (joined (item_of k) s)
      → end_slots k (length s') ≤ length l → EndsHeld k s l → EndsHeld k s' (cond item (ends_with k n (m + length (item_of k x)) l) l)
  unfolding ends_with end_slots
  ends_held (Fixed p) item n m l g e d h q = tt
  ends_held (Char w) item n m l g e d h q = tt
  ends_held (Blob text) item n m l g e d h q =
      let f : Row → List ℕ = item_of (Blob text) in
      let long : (t : List Row) → length (ends_from 0 (map f t)) ≡ length t = λ t. length-ends 0 (map f t) ∙ length-map t f in
      rw (← long s')
      (beside-slots item (ends_from 0 (map f s)) (ends_from 0 (map f s')) (m + length (f x)) n l (grows item g) (e ∙ sym (long s)) (rw (long s') h) (rw (long s) q))
    where
      grows : (item : Bool) → s' ≡ cond item (s ++ (x ∷ [])) s
          → ends_from 0 (map (item_of (Blob text)) s')
          ≡ cond item (ends_from 0 (map (item_of (Blob text)) s) ++ ((m + length (item_of (Blob text) x)) ∷ [])) (ends_from 0 (map (item_of (Blob text)) s))
      grows true g = rw (g, d) (ends_snoc (item_of (Blob text)) 0 s x ∙ rw zero-add)
      grows false g = rw g

  lens-held : (k : Kind) (item : Bool) (n : ℕ) (l : List ℕ) → s' ≡ cond item (s ++ (x ∷ [])) s → n ≡ length s
      → len_slots k (length s') ≤ length l → LensHeld k s l → LensHeld k s' (cond item (lens_with k n (length (bytes_in x)) l) l)
  unfolding lens_with len_slots
  lens-held (Fixed p) item n l g e h q = tt
  lens-held (Blob text) item n l g e h q = tt
  lens-held (Char w) item n l g e h q =
      let f : Row → ℕ = λ y. length (bytes_in y) in
      let long : (t : List Row) → length (map f t) ≡ length t = λ t. length-map t f in
      rw (← long s')
      (beside-slots item (map f s) (map f s') (f x) n l (grows item g) (e ∙ sym (long s)) (rw (long s') h) (rw (long s) q))
    where
      grows : (item : Bool) → s' ≡ cond item (s ++ (x ∷ [])) s
          → map (λ y. length (bytes_in y)) s' ≡ cond item (map (λ y. length (bytes_in y)) s ++ (length (bytes_in x) ∷ [])) (map (λ y. length (bytes_in y)) s)
      grows true g = rw g (map-append (λ y. length (bytes_in y)) s (x ∷ []))
      grows false g = rw g

  each_next : (P : Row → Type 0) (item : Bool) → s' ≡ cond item (s ++ (x ∷ [])) s → P x → Each P s → Each P s'
  each_next P true g p h = rw g (each_append P s (x ∷ []) h (p, tt))
  each_next P false g p h = rw g h

  -- the areas of the items stay as long
  items_kept : (f : Row → List ℕ) (item : Bool) (n : ℕ) (l : List ℕ) → s' ≡ cond item (s ++ (x ∷ [])) s → n ≡ length (joined f s)
      → length (joined f s') ≤ length l → length (cond item (over l n (f x)) l) ≡ length l
  items_kept f true n l g e h = over-length (f x) l n (let i = ap (λ (t : List Row). length (joined f t)) g in let j = length-joined-snoc f s x in omega arith)
  items_kept f false n l g e h = refl

ends-kept : (k : Kind) (item : Bool) (i v : ℕ) (l : List ℕ) → length (cond item (ends_with k i v l) l) ≡ length l
unfolding ends_with
ends-kept (Fixed p) true i v l = refl
ends-kept (Char w) true i v l = refl
ends-kept (Blob text) true i v l = length-set l i v
ends-kept k false i v l = refl

lens-kept : (k : Kind) (item : Bool) (i v : ℕ) (l : List ℕ) → length (cond item (lens_with k i v l) l) ≡ length l
unfolding lens_with
lens-kept (Fixed p) true i v l = refl
lens-kept (Char w) true i v l = length-set l i v
lens-kept (Blob text) true i v l = refl
lens-kept k false i v l = refl

flags-kept : (t : Bool) (i v : ℕ) (l : List ℕ) → length (cond t (flags_with i v l) l) ≡ length l
unfolding flags_with
flags-kept true i v l = length-set l _ _
flags-kept false i v l = refl

counts-kept : (c joins : Bool) (n m : ℕ) (l : List ℕ) → length (cond c (counts_with n m joins l) l) ≡ length l
unfolding counts_with
counts-kept true true n m l = length-set l (n - 1) (m + 1)
counts-kept true false n m l = length-set l n 1
counts-kept false joins n m l = refl

keys_kept : (t : Bool) (n : ℕ) (key : ℤ) (l : List ℤ) → length (cond t (set l n key) l) ≡ length l
keys_kept true n key l = length-set l n key
keys_kept false n key l = refl

-- ---- the areas with the row written
abbrev pub written_by : Kind → Encoding → List Row → Row → Counted → Lent → Lent
written_by k e rows x r a = laid k e r x (item_by e rows x) (joins_by e rows x) (key_by e rows x) a

module _ (k : Kind) (e : Encoding) (rows : List Row) (x : Row) (r : Counted) (a : Lent) (h : Recorded k e rows r)
    (room : Enough k e (rows ++ (x ∷ [])) a) where
  pub kept_next : Kept a (written_by k e rows x r a)
  unfolding laid
  kept_next = record {
    items = items_kept x (stored_rows e rows) (stored_rows e (rows ++ (x ∷ []))) (item_of k) (item_by e rows x) r.bytes a.items (items-next e rows x) h.bytes room.items;
    ends = ends-kept k (item_by e rows x) (stored_by e r) (r.bytes + length (item_of k x)) a.ends;
    flags = flags-kept (item_by e rows x && flagged e) (stored_by e r) (presence x) a.flags;
    counts = counts-kept (coded e) (joins_by e rows x) r.runs r.last a.counts;
    keys = keys_kept (keyed e && not (joins_by e rows x)) r.runs (key_by e rows x) a.keys;
    lens = lens-kept k (item_by e rows x) (stored_by e r) (length (bytes_in x)) a.lens;
  }

  module _ (held : Holds k e rows a) (good : fits k x ≡ true) (few : stored_entries e rows ≤ MOST_ENTRIES) where
    pub holds-next : Holds k e (rows ++ (x ∷ [])) (written_by k e rows x r a)
    unfolding laid
    holds-next =
        let rows' : List Row = rows ++ (x ∷ []) in
        let s : List Row = stored_rows e rows in
        let s' : List Row = stored_rows e rows' in
        let rs : List Run = stored_runs e rows in
        let rs' : List Run = stored_runs e rows' in
        let item : Bool = item_by e rows x in
        let joins : Bool = joins_by e rows x in
        let z : Row = coded_row e rows x in
        let i = items-next e rows x in
        let g = runs-next e rows x in
        let n = stored-by k rows r e h in
        record {
          items = item-slots x s s' item (item_of k) r.bytes a.items i h.bytes room.items held.items;
          ends = ends_held x s s' k item (stored_by e r) r.bytes a.ends i n h.bytes room.ends held.ends;
          flags = λ u.
              rw (u, and-true)
              (flag-slots item x s s' (stored_by e r) a.flags i n (rw u at room.flags) (held.flags u));
          counts = counts-slots (coded e) joins z rs rs' r.runs r.last a.counts g h.runs h.last room.counts held.counts;
          keys = λ u.
              rw u
              (keys-slots joins z rs rs' r.runs a.keys (key_by e rows x) (rw (keyed-coded e u) at g) h.runs (rw u at room.keys) (key-next e rows x u) (held.keys u));
          lens = lens-held x s s' k item (stored_by e r) a.lens i n room.lens held.lens;
          fit = each_next x s s' (λ y. fits k y ≡ true) item i good held.fit;
          keys_fit = λ u.
              each_next z (map (λ y. y.row) rs) (map (λ y. y.row) rs') (λ y. fits i32 y ≡ true) (not joins) (rows-of-runs joins z rs rs' (rw (keyed-coded e u) at g))
              (key-next-fits e rows x u few) (held.keys_fit u);
        }
