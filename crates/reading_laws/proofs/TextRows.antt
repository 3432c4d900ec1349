-- What a sound block of char or string hands out is text: each of its rows is null or text, and so is each row that any calls hand out.
-- Assumes nothing.
use Rattle.std.specs.Prelude.{Option, Some}
use Prim.Native.Nat.{ℕ, zero, suc, ◌≤◌, ◌<◌}
use native.Mathlib.Nat.{zero-add}
use native.Mathlib.Omega.{arith}
use mathlib.Core.Bool.{Bool, true, false, cond}
use mathlib.Core.List.{List, [], ◌∷◌, map}
use mathlib.Core.Path.{◌≡◌, sym, ap, subst, ◌∙◌}
use lib.Dec.{eqb}
use lib.ListN.{length, take, drop}
use Rattle.encode.specs.Kinds.{holds_text}
use Rattle.encode.specs.declared.Kind.{Kind}
use Rattle.encode.specs.declared.Kind.TheVariants.{Fixed, Char, Blob}
use Rattle.encode.proofs.Bools.{clash}
use Rattle.utf8.specs.Utf8.{is_text}
use Rattle.plain.specs.Each.{Each}
use Rattle.plain.specs.Rows.{Row, null, bytes_in}
use Rattle.plain.specs.Plain.{places, plain_number, plain_row}
use Rattle.plain.proofs.Each.{each_append}
use Rattle.plain.proofs.Numbers.{text-kept}
use Rattle.plain.proofs.TextItems.{row-text}
use Rattle.nullable.specs.Nullable.{bitmap_part, bit_at, plain_part, nullable_number, nullable_row}
use Rattle.nullable.proofs.Parts as NullableParts
use Rattle.rle.specs.RunLength.{counts_part, inner_part, run_numbers}
use Rattle.rle.proofs.Steps.{Below}
use Rattle.dict.specs.Dictionary.{key_part, entries_part, slot_at, entry_row}
use Rattle.dict.proofs.Slots.{known_at}
use Rattle.format.specs.declared.Encoding.{Encoding}
use Rattle.format.specs.declared.Encoding.TheVariants.{Plain, Nullable, RunLength, RunLengthNullable, Dictionary}
use Rattle.format.specs.declared.Column.{Column}
use Rattle.format.specs.Blocks.{column_of, column}
use Rattle.format.specs.Opening.{head_of, row_at, counts_in, places_of, rows_of, column_number, open_number}
use Rattle.format.proofs.Sound.{Within, column-sound, plain-sound, nullable-sound, run-length-sound, run-length-nullable-sound, keys-sound}
use Rattle.block.specs.Reading.{opened}
use Rattle.block.specs.Calls.{Call, Answer, gave, refused, play_opened}
use Rattle.reading_laws.specs.Calls.{due, moves, expected, handed_out, NullOrText}
use Rattle.reading_laws.proofs.RowsLeft.{below-places, run-below, inside_of}
use Rattle.reading_laws.proofs.Calls.{Front, due-front, any-calls}

-- ---- a stored item
module _ (k : Kind) (h : holds_text k ≡ true) where
  plain-text : (n : ℕ) (s : List ℕ) → plain_number k n s ≡ 0 → (i : ℕ) → i < n → NullOrText (plain_row k n s i)
  unfolding plain_row bytes_in
  plain-text n s z i l = by k h (row-text k n s (text-kept k n s z) h i l)
    where
      by : (k : Kind) → holds_text k ≡ true → is_text (bytes_in (plain_row k n s i)) ≡ true → NullOrText (plain_row k n s i)
      by (Fixed p) g t = clash (sym g)
      by (Char w) g t = t
      by (Blob text) g t = t

  nullable-text : (n : ℕ) (s : List ℕ) → nullable_number k n s ≡ 0 → (i : ℕ) → i < n → NullOrText (nullable_row k n s i)
  unfolding nullable_row
  nullable-text n s z i l = by (eqb (bit_at (bitmap_part n s) i) 0) (plain-text n (plain_part n s) (NullableParts.sound k n s z).plain i l)
    where
      by : (t : Bool) → NullOrText (plain_row k n (plain_part n s) i) → NullOrText (cond t null (plain_row k n (plain_part n s) i))
      by true g = tt
      by false g = g

  entry-text : (n : ℕ) (s : List ℕ) → plain_number k n s ≡ 0 → (slot : ℕ) → slot ≤ n → NullOrText (entry_row k n s slot)
  unfolding entry_row
  entry-text n s z zero l = tt
  entry-text n s z (suc i) l = plain-text n s z i (omega arith)

-- ---- every row
module _ (P : Row → Type 0) where
  each-place : (f : ℕ → Row) (n : ℕ) → ((i : ℕ) → i < n → P (f i)) → (is : List ℕ) → Below n is → Each P (map f is)
  each-place f n h [] l = tt
  each-place f n h (i ∷ is) l = (h i l.0, each-place f n h is l.1)

  each_take : (m : ℕ) (rs : List Row) → Each P rs → Each P (take m rs)
  each_take zero rs h = tt
  each_take (suc m) [] h = tt
  each_take (suc m) (r ∷ rs) h = (h.0, each_take m rs h.1)

  each-drop : (m : ℕ) (rs : List Row) → Each P rs → Each P (drop m rs)
  each-drop zero rs h = h
  each-drop (suc m) [] h = tt
  each-drop (suc m) (r ∷ rs) h = each-drop m rs h.1

  -- what is handed out of some rows is among them
  handed-more : (k : Kind) (rs : List Row) (a : Answer) (as' : List Answer) → Front k rs a → Each P rs → Each P (handed_out as') → Each P (handed_out (a ∷ as'))
  unfolding handed_out
  handed-more k rs (gave skip gs) as' f h g =
      each_append P gs (handed_out as') (subst (Each P) (sym f.0) (each_take (length gs) (drop skip rs) (each-drop skip rs h))) g
  handed-more k rs (refused x) as' f h g = g

  pub each-handed : (k : Kind) (rs : List Row) (cs : List Call) → Each P rs → Each P (handed_out (expected k rs cs))
  unfolding expected handed_out
  each-handed k rs [] h = tt
  each-handed k rs (c ∷ cs) h =
      let d = due k rs c in
      let left = drop (moves d) rs in
      handed-more k rs d (expected k left cs) (due-front k rs c) h (each-handed k left cs (each-drop (moves d) rs h))

module _ (k : Kind) (h : holds_text k ≡ true) (n : ℕ) (b : List ℕ) where
  within_text : (e : Encoding) → Within k e n b → Each NullOrText (rows_of k e n b)
  unfolding rows_of row_at places_of counts_in
  within_text Plain w =
      let s = plain-sound k n b w.rules in
      each-place NullOrText (plain_row k n b) n (plain-text k h n b s) (places n 0) (below-places n 0 n (omega arith))
  within_text Nullable w =
      let s = nullable-sound k n b w.rules in
      each-place NullOrText (nullable_row k n b) n (nullable-text k h n b s) (places n 0) (below-places n 0 n (omega arith))
  within_text RunLength w =
      let s = run-length-sound k n b w.rules in
      let d = head_of RunLength b in
      let inner = inner_part d.counts b in
      each-place NullOrText (plain_row k d.runs inner) d.runs
      (λ i l. plain-text k h d.runs inner (inside_of (plain_number k) s i l) i l)
      (run_numbers d.runs 0 (counts_part d.counts b)) (run-below d.runs n (counts_part d.counts b) s.sum)
  within_text RunLengthNullable w =
      let s = run-length-nullable-sound k n b w.rules in
      let d = head_of RunLengthNullable b in
      let inner = inner_part d.counts b in
      each-place NullOrText (nullable_row k d.runs inner) d.runs
      (λ i l. nullable-text k h d.runs inner (inside_of (nullable_number k) s i l) i l)
      (run_numbers d.runs 0 (counts_part d.counts b)) (run-below d.runs n (counts_part d.counts b) s.sum)
  within_text Dictionary w =
      let s = keys-sound k n b w.rules in
      let d = head_of Dictionary b in
      let part = key_part d.keys b in
      let inner = inner_part d.counts part in
      let entries = entries_part d.keys b in
      each-place NullOrText (λ i. entry_row k d.entries entries (slot_at inner i)) d.runs
      (λ i l. entry-text k h d.entries entries s.parts.entries-inside (slot_at inner i)
      (rw zero-add at (known_at d.entries inner d.runs 0 i s.all_known l)))
      (run_numbers d.runs 0 (counts_part d.counts part)) (run-below d.runs n (counts_part d.counts part) s.parts.key-runs.sum)

-- ---- a sound block of char or string
module _ (kind encoding width n : ℕ) (b : List ℕ) (k : Kind) (e : Encoding) (sound : open_number kind encoding width n b ≡ 0)
    (pair : column_of kind encoding width ≡ Some (column k e)) (text : holds_text k ≡ true) where
  pub text-comes-back : Each NullOrText (rows_of k e n b)
  unfolding open_number
  text-comes-back = within_text k text n b e (column-sound k e n b (ap (λ (x : Option Column). column_number x n b) (sym pair) ∙ sound))

  -- any calls, refused ones among them
  pub text-handed-out : (cs : List Call) → Each NullOrText (handed_out (play_opened (opened kind encoding width n b) b cs))
  text-handed-out cs = rw (any-calls kind encoding width n b k e sound pair cs) (each-handed NullOrText k (rows_of k e n b) cs text-comes-back)
