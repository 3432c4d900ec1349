-- 02 (vii): the count of nulls in a reader's record. A call adds the zero flags of the rows that it gives; from the opening on the count is the number of
-- nulls among all rows handed out, which are the zero flags that the areas got; and in encodings 0 and 2 it is 0. Assumes nothing.
use Prim.Native.Nat.{ℕ, ◌+◌, ◌-◌, min}
use native.Mathlib.Nat.{add-zero, zero-add}
use native.Mathlib.Omega.{arith}
use mathlib.Core.Bool.{Bool, true, false, cond, not, ◌||◌}
use mathlib.Core.List.{List, [], ◌∷◌, ◌++◌, map, map-append}
use mathlib.Core.Logic.{◌⊎◌, ⊎_elim}
use mathlib.Core.Path.{◌≡◌, refl, sym, ap, subst, ◌∙◌}
use lib.Dec.{ltb, eqb}
use lib.ListN.{length, take}
use borrow.Author.Tests.{eqb-false}
use Rattle.std.specs.Prelude.{Result, Ok, Option, Some, None}
use Rattle.limits.specs.Refusals.{ROOM, NO_ROWS, TOO_FAR, DISAGREE}
use Rattle.encode.specs.declared.Kind.{Kind}
use Rattle.encode.specs.declared.Kind.TheVariants.{Fixed, Char, Blob}
use Rattle.zeros.specs.Zeros.{zero_in, zeros_in}
use Rattle.zeros.proofs.Counting.{zeros-append}
use Rattle.plain.specs.Each.{Each}
use Rattle.plain.specs.Rows.{Row, null, int, bytes, int_in, bytes_in}
use Rattle.plain.specs.Plain.{all_of, places, plain_row}
use Rattle.nullable.specs.Nullable.{presence}
use Rattle.rle.specs.declared.Spot.{Spot}
use Rattle.rle.specs.RunLength.{inner_part}
use Rattle.rle.specs.Stepping.{Steps, stuck, rows}
use Rattle.format.specs.declared.Encoding.{Encoding}
use Rattle.format.specs.declared.Encoding.TheVariants.{Plain, RunLength}
use Rattle.format.specs.declared.Column.{Column}
use Rattle.format.specs.Blocks.{column_of, column}
use Rattle.format.specs.Opening.{head_of, places_of, row_at, rows_of, open_number}
use Rattle.anatomy.specs.Tests.{row_good}
use Rattle.block.specs.declared.Reader.{Reader}
use Rattle.block.specs.Reading.{wrong, next_steps, moved, counted, nulls_in, reader_at, head_in, opened}
use Rattle.block.specs.Reading.{Areas, Batch, is_bytes, short, filled_in, given_bytes, refused_batch, give, batch_of, up_to, whole, pass_then, read_in, asks_nothing, read}
use Rattle.block.specs.Calls.{Call, reading, Answer, gave, refused, handed, column_in, read_answer, answer_to, after, play, play_opened}
use Rattle.block.proofs.GivenNulls.{flags-back}
use Rattle.reading_laws.specs.Calls.{expected, handed_out, after_all, flags_got}
use Rattle.reading_laws.proofs.HandedRows.{as_handed, read_back}
use Rattle.reading_laws.proofs.Calls.{open_told, any-calls}
use Rattle.reading_laws.proofs.Refusing.{refused-read}
use Rattle.reading_laws.proofs.TextRows.{each-handed}

-- ---- a row is null as it is handed out exactly if it was given as null
present-either : (t : Bool) (r : Row) → presence (cond t (bytes (bytes_in r)) (int (int_in r))) ≡ 1
unfolding presence
present-either true r = refl
present-either false r = refl

kept-presence : (k : Kind) (r : Row) → presence (as_handed k r) ≡ presence r
unfolding as_handed presence
kept-presence k null = refl
kept-presence k (int v) = present-either (is_bytes k) (int v)
kept-presence k (bytes bs) = present-either (is_bytes k) (bytes bs)

kept-nulls : (k : Kind) (rs : List Row) → nulls_in (map (as_handed k) rs) ≡ nulls_in rs
unfolding nulls_in zeros_in
kept-nulls k [] = refl
kept-nulls k (r ∷ rs) = let h = kept-nulls k rs in rw (kept-presence k r) (ap (λ (z : ℕ). zero_in (presence r) + z) h)

nulls-append : (xs ys : List Row) → nulls_in (xs ++ ys) ≡ nulls_in xs + nulls_in ys
unfolding nulls_in
nulls-append xs ys = ap zeros_in (map-append presence xs ys) ∙ zeros-append (map presence xs) (map presence ys)

given-nulls : (skip : ℕ) (rs : List Row) (as' : List Answer) → nulls_in (handed_out (gave skip rs ∷ as')) ≡ nulls_in rs + nulls_in (handed_out as')
unfolding handed_out
given-nulls skip rs as' = nulls-append rs (handed_out as')

-- ---- one read, on every record and every block
-- the zero flags of the rows that it gave, which are none if it was refused
abbrev got_zeros : Batch → ℕ
got_zeros x = zeros_in (take x.answer.rows x.areas.flags)

record Counts (c : Option Column) (nulls : ℕ) (x : Batch) : Type 0 where
  adds : x.answer.reader.nulls ≡ nulls + got_zeros x
  hands : nulls_in (handed c x.answer.rows x.areas) ≡ got_zeros x

refused-counts : (c : Option Column) (e : ℕ) (r : Reader) (a : Areas) → Counts c r.nulls (refused_batch e r a)
unfolding zeros_in nulls_in handed places
refused-counts None e r a = record { adds = sym (add-zero r.nulls); hands = refl }
refused-counts (Some c) e r a = record { adds = sym (add-zero r.nulls); hands = refl }

module _ (c : Option Column) (n : ℕ) where
  either-counts : (t : Bool) (x y : Batch) → Counts c n x → Counts c n y → Counts c n (cond t x y)
  either-counts true x y p q = p
  either-counts false x y p q = q

module _ (k : Kind) (e : Encoding) (r : Reader) (b : List ℕ) (a : Areas) where
  given-counts : (rs : List Row) (t : Spot)
      → Counts (Some (column k e)) r.nulls (record {
        answer = record { number = 0; rows = length rs; bytes = given_bytes k rs; reader = counted (moved r (length rs) t) (nulls_in rs) };
        areas = filled_in k rs a;
      })
  unfolding nulls_in
  given-counts rs t = record {
    adds = ap (λ (fs : List ℕ). r.nulls + zeros_in fs) (sym (flags-back k rs a));
    hands = ap nulls_in (read_back k e rs a) ∙ kept-nulls k rs ∙ ap zeros_in (sym (flags-back k rs a));
  }

  give-counts : (rs : List Row) (t : Spot) → Counts (Some (column k e)) r.nulls (give k r rs t a)
  unfolding give
  give-counts rs t = either-counts (Some (column k e)) r.nulls (short k rs a) _ _ (refused-counts (Some (column k e)) ROOM r a) (given-counts rs t)

  rows-count : (w : Steps) → Counts (Some (column k e)) r.nulls (batch_of k e r b a w)
  unfolding batch_of
  rows-count stuck = refused-counts (Some (column k e)) DISAGREE r a
  rows-count (rows is t) =
      either-counts (Some (column k e)) r.nulls (all_of (row_good k e r.rows r.head b) is) _ _ (give-counts (map (row_at k e r.rows r.head b) is) t)
      (refused-counts (Some (column k e)) DISAGREE r a)

  up-to-counts : (size : ℕ) → Counts (Some (column k e)) r.nulls (up_to k e r b size a)
  unfolding up_to
  up-to-counts size = rows-count (next_steps e r b (min size (r.rows - r.place)))

module _ (r : Reader) (b : List ℕ) (skip size : ℕ) (a : Areas) where
  passed-counts : (k : Kind) (e : Encoding) (w : Steps) → Counts (Some (column k e)) r.nulls (pass_then k e r b skip size a w)
  unfolding pass_then whole
  passed-counts k e stuck = refused-counts (Some (column k e)) DISAGREE r a
  passed-counts k e (rows is t) =
      let x = up_to k e (moved r skip t) b size a in
      either-counts (Some (column k e)) r.nulls (eqb x.answer.number 0) x _ (up-to-counts k e (moved r skip t) b a size) (refused-counts (Some (column k e)) x.answer.number r a)

  column-counts : (c : Option Column) → Counts c r.nulls (read_in c r b skip size a)
  unfolding read_in
  column-counts None = refused-counts None DISAGREE r a
  column-counts (Some c) =
      either-counts (Some c) r.nulls (not (eqb (length b) r.len) || wrong c.kind c.encoding r) _ _ (refused-counts (Some c) DISAGREE r a)
      (either-counts (Some c) r.nulls (ltb (r.rows - r.place) skip) _ _ (refused-counts (Some c) TOO_FAR r a)
      (passed-counts c.kind c.encoding (next_steps c.encoding r b skip)))

  read-counts : Counts (column_in r) r.nulls (read r b skip size a)
  unfolding read
  read-counts = either-counts (column_in r) r.nulls (asks_nothing skip size) _ _ (refused-counts (column_in r) NO_ROWS r a) (column-counts (column_in r))

  -- The count after a read is the one before it and the zero flags of the rows that the read gave; a refused one gave none.
  pub nulls-of-a-call : (read r b skip size a).answer.reader.nulls ≡ r.nulls + zeros_in (take (read r b skip size a).answer.rows (read r b skip size a).areas.flags)
  nulls-of-a-call = read-counts.adds

  -- the nulls among the rows of its answer are these zeros
  answered-nulls : (as' : List Answer)
      → nulls_in (handed_out (answer_to r b (reading skip size a) ∷ as')) ≡ got_zeros (read r b skip size a) + nulls_in (handed_out as')
  unfolding answer_to read_answer handed_out zeros_in
  answered-nulls as' = go (eqb x.answer.number 0) refl
    where
      x : Batch
      x = read r b skip size a

      go : (t : Bool) → eqb x.answer.number 0 ≡ t
          → nulls_in (handed_out (cond t (gave skip (handed (column_in r) x.answer.rows x.areas)) (refused x.answer.number) ∷ as'))
          ≡ got_zeros x + nulls_in (handed_out as')
      go true q = given-nulls skip (handed (column_in r) x.answer.rows x.areas) as' ∙ ap (λ (z : ℕ). z + nulls_in (handed_out as')) read-counts.hands
      go false q =
          let none : got_zeros x ≡ 0 = ap got_zeros (refused-read r b skip size a (eqb-false x.answer.number 0 q)) in
          sym (ap (λ (z : ℕ). z + nulls_in (handed_out as')) none ∙ zero-add (nulls_in (handed_out as')))

-- ---- any calls, on every record and every block
module _ (b : List ℕ) where
  -- the count grows by the zero flags that the areas got
  pub nulls-got : (cs : List Call) (r : Reader) → (after_all r b cs).nulls ≡ r.nulls + zeros_in (flags_got r b cs)
  unfolding after_all flags_got after zeros_in
  nulls-got [] r = sym (add-zero r.nulls)
  nulls-got (reading skip size a ∷ cs) r =
      let x = read r b skip size a in
      let fs = take x.answer.rows x.areas.flags in
      let rest = flags_got x.answer.reader b cs in
      let h = nulls-got cs x.answer.reader in
      let c = nulls-of-a-call r b skip size a in
      let j = zeros-append fs rest in
      omega arith

  -- which are the nulls among the rows handed out
  pub nulls-handed : (cs : List Call) (r : Reader) → nulls_in (handed_out (play r b cs)) ≡ zeros_in (flags_got r b cs)
  unfolding play flags_got after zeros_in handed_out nulls_in
  nulls-handed [] r = refl
  nulls-handed (reading skip size a ∷ cs) r =
      let x = read r b skip size a in
      let fs = take x.answer.rows x.areas.flags in
      let rest = flags_got x.answer.reader b cs in
      answered-nulls r b skip size a (play x.answer.reader b cs)
      ∙ ap (λ (z : ℕ). got_zeros x + z) (nulls-handed cs x.answer.reader)
      ∙ sym (zeros-append fs rest)

-- ---- from the opening on
each_map : (P : Row → Type 0) (f : ℕ → Row) → ((i : ℕ) → P (f i)) → (is : List ℕ) → Each P (map f is)
each_map P f h [] = tt
each_map P f h (i ∷ is) = (h i, each_map P f h is)

abbrev Present : Row → Type 0
Present r = presence r ≡ 1

none-null : (rs : List Row) → Each Present rs → nulls_in rs ≡ 0
unfolding nulls_in zeros_in zero_in
none-null [] h = refl
none-null (r ∷ rs) h = rw (h.0, none-null rs h.1)

item-present : (k : Kind) (n : ℕ) (s : List ℕ) (i : ℕ) → Present (plain_row k n s i)
unfolding plain_row presence
item-present (Fixed p) n s i = refl
item-present (Char w) n s i = refl
item-present (Blob text) n s i = refl

module _ (k : Kind) (n : ℕ) (b : List ℕ) where
  plain-present : Each Present (rows_of k Plain n b)
  unfolding rows_of row_at
  plain-present = each_map Present (row_at k Plain n (head_of Plain b) b) (item-present k n b) (places_of Plain n (head_of Plain b) b)

  runs-present : Each Present (rows_of k RunLength n b)
  unfolding rows_of row_at
  runs-present =
      let h = head_of RunLength b in
      each_map Present (row_at k RunLength n h b) (item-present k h.runs (inner_part h.counts b)) (places_of RunLength n h b)

  rows-present : (e : Encoding) → (e ≡ Plain) ⊎ (e ≡ RunLength) → Each Present (rows_of k e n b)
  rows-present e h = ⊎_elim
      (λ (q : e ≡ Plain). subst (λ (f : Encoding). Each Present (rows_of k f n b)) (sym q) plain-present)
      (λ (q : e ≡ RunLength). subst (λ (f : Encoding). Each Present (rows_of k f n b)) (sym q) runs-present)
      h

module _ (kind encoding width n : ℕ) (b : List ℕ) (r : Reader) (here : opened kind encoding width n b ≡ Ok r) where
  begun : (open_number kind encoding width n b ≡ 0) × (reader_at kind encoding width n (length b) (head_in (column_of kind encoding width) b) ≡ r)
  unfolding opened
  begun = open_told (open_number kind encoding width n b) _ r here

  none_yet : r.nulls ≡ 0
  none_yet = ap (λ (x : Reader). x.nulls) (sym begun.1)

  module _ (cs : List Call) where
    -- After any calls from the opening on, refused ones among them, the count is the number of nulls among all rows handed out, and these are the zero flags
    -- that the areas got.
    pub nulls-so-far : ((after_all r b cs).nulls ≡ nulls_in (handed_out (play r b cs))) × (nulls_in (handed_out (play r b cs)) ≡ zeros_in (flags_got r b cs))
    nulls-so-far =
        let g = nulls-got b cs r in
        let h = nulls-handed b cs r in
        let z = none_yet in
        (omega arith, h)

    -- In encodings 0 and 2 it stays 0.
    pub no-nulls-in-0-and-2 : (k : Kind) (e : Encoding) → (e ≡ Plain) ⊎ (e ≡ RunLength) → column_of kind encoding width ≡ Some (column k e) → (after_all r b cs).nulls ≡ 0
    unfolding play_opened
    no-nulls-in-0-and-2 k e bare c =
        nulls-so-far.0
        ∙ ap (λ (xs : List Answer). nulls_in (handed_out xs)) (sym (ap (λ (o : Result Reader ℕ). play_opened o b cs) here) ∙ any-calls kind encoding width n b k e begun.0 c cs)
        ∙ none-null (handed_out (expected k (rows_of k e n b) cs)) (each-handed Present k (rows_of k e n b) cs (rows-present k n b e bare))
