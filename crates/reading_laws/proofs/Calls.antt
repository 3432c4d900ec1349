-- 01, "Reading": a sound block, read from its opening on by any calls on the same bytes, refused ones among them, hands out exactly the rows that
-- are not skipped, nulls among them, in order, up to the place reached. Assumes nothing.
use Prim.Native.Nat.{ℕ, zero, suc, ◌+◌, ◌≤◌}
use native.Mathlib.Nat.{min-le_right}
use native.Mathlib.Omega.{arith}
use mathlib.Core.Bool.{Bool, true, false, cond, ◌||◌}
use mathlib.Core.List.{List, [], ◌∷◌}
use mathlib.Core.Logic.{◌⊎◌, inl, inr}
use mathlib.Core.Path.{◌≡◌, refl, sym, ap, subst, ◌∙◌}
use lib.Dec.{ltb}
use lib.ListN.{length, take, drop, length-append, length-take, length-drop, length-map, drop_of_length-le}
use lib.Seq.{take-nil}
use borrow.Author.Tests.{le-ltb, ltb-false}
use Rattle.std.specs.Prelude.{Result, Ok, Option, Some, None}
use Rattle.limits.specs.Limits.{MOST_GIVEN}
use Rattle.limits.specs.Refusals.{ROOM, NO_ROWS, TOO_FAR}
use Rattle.encode.specs.declared.Kind.{Kind}
use Rattle.plain.specs.Rows.{Row}
use Rattle.plain.specs.Plain.{joined}
use Rattle.format.specs.declared.Encoding.{Encoding}
use Rattle.format.specs.declared.Column.{Column}
use Rattle.format.specs.Blocks.{column_of, column}
use Rattle.format.specs.Opening.{head_of, places_of, row_at, rows_of, column_number, open_number}
use Rattle.block.specs.declared.Reader.{Reader}
use Rattle.block.specs.Reading.{Areas, is_bytes, short, head_in, reader_at, opened_by, opened, left, remaining_in, remaining, asks_nothing, read}
use Rattle.block.specs.Calls.{Call, reading, Answer, gave, refused, answer_to, after, play, play_opened}
use Rattle.reading_laws.specs.Calls.{due, moves, expected, handed_out, passed_over, unskipped, after_all}
use Rattle.reading_laws.proofs.RowsLeft.{Stands, start, not-wrong}
use Rattle.reading_laws.proofs.OneCall.{map-drop, rows_at, Told, one-call}
use Rattle.reading_laws.proofs.RoomForOne.{Holds, row-given}

-- ---- what is due, for any rows left
module _ (k : Kind) (rs : List Row) where
  -- the rows that an answer gives are the first behind those that it passes over
  abbrev pub Front : Answer → Type 0
  Front (gave skip gs) = (gs ≡ take (length gs) (drop skip rs)) × (skip + length gs ≤ length rs)
  Front (refused x) = (x ≡ 4) ⊎ ((x ≡ 6) ⊎ (x ≡ 7))

  taken : (skip m : ℕ) → skip ≤ length rs → Front (gave skip (take m (drop skip rs)))
  taken skip m l =
      let h : length (take m (drop skip rs)) ≤ length (drop skip rs) = rw (length-take m (drop skip rs)) (min-le_right m (length (drop skip rs))) in
      let d = length-drop skip rs in
      (whole m (drop skip rs), omega arith)
    where
      whole : (j : ℕ) (l : List Row) → take j l ≡ take (length (take j l)) l
      whole zero l = refl
      whole (suc j) [] = refl
      whole (suc j) (x ∷ l) = ap (λ (y : List Row). x ∷ y) (whole j l)

  pub due-front : (c : Call) → Front (due k rs c)
  unfolding due
  due-front (reading skip size a) = go (asks_nothing skip size) (ltb (length rs) skip) (short k (take size (drop skip rs)) a) refl
    where
      go : (s t u : Bool) → ltb (length rs) skip ≡ t
          → Front (cond s (refused NO_ROWS) (cond t (refused TOO_FAR) (cond u (refused ROOM) (gave skip (take size (drop skip rs))))))
      go true t u h = inr (inl refl)
      go false true u h = inr (inr refl)
      go false false true h = inl refl
      go false false false h = taken skip size (ltb-false (length rs) skip h)

  due-within : (c : Call) → moves (due k rs c) ≤ length rs
  unfolding moves
  due-within c = go (due k rs c) (due-front c)
    where
      go : (a : Answer) → Front a → moves a ≤ length rs
      go (gave skip gs) h = h.1
      go (refused x) h = omega arith

  -- a read of some rows gives none only if nothing is left behind those that it passes over
  due-none : (skip size : ℕ) (a : Areas) → (size ≡ 0 → ⊥) → due k rs (reading skip size a) ≡ gave skip [] → length rs ≡ skip
  unfolding due
  due-none skip size a z q = go (asks_nothing skip size) (ltb (length rs) skip) (short k (take size (drop skip rs)) a) refl q
    where
      none : (m : ℕ) (l : List Row) → (m ≡ 0 → ⊥) → take m l ≡ [] → length l ≡ 0
      none zero l z p = absurd (z refl)
      none (suc m) [] z p = refl
      none (suc m) (x ∷ l) z p = absurd (omega (arith, ap length p))

      go : (s t u : Bool) → ltb (length rs) skip ≡ t
          → cond s (refused NO_ROWS) (cond t (refused TOO_FAR) (cond u (refused ROOM) (gave skip (take size (drop skip rs))))) ≡ gave skip []
          → length rs ≡ skip
      go true t u h p = let z : ◌≡◌ {A = ℕ} 0 1 = cc in absurd (omega arith)
      go false true u h p = let z : ◌≡◌ {A = ℕ} 0 1 = cc in absurd (omega arith)
      go false false true h p = let z : ◌≡◌ {A = ℕ} 0 1 = cc in absurd (omega arith)
      go false false false h p =
          let y : take size (drop skip rs) ≡ [] = cc in
          let l = none size (drop skip rs) z y in
          let d = length-drop skip rs in
          let w = ltb-false (length rs) skip h in
          omega arith

-- no rows need no room
pub none-fits : (k : Kind) (a : Areas) → short k [] a ≡ false
unfolding short joined
none-fits k a = fits (is_bytes k)
  where
    room : {A : Type 0} (l : List A) → ltb (length l) 0 ≡ false
    room l = le-ltb (length l) 0 (omega arith)

    fits : (t : Bool)
        → ltb (length a.flags) 0
        || cond t (ltb (length a.ends) 0 || ltb (length a.bytes) 0 || ltb MOST_GIVEN 0) (ltb (length a.values) 0) ≡ false
    fits true = simp (room a.flags, room a.ends, room a.bytes)
    fits false = simp (room a.flags, room a.values)

-- and then always, unless it asks for nothing
due-at-the-end : (k : Kind) (rs : List Row) (skip size : ℕ) (a : Areas) → asks_nothing skip size ≡ false → length rs ≡ skip
    → due k rs (reading skip size a) ≡ gave skip []
unfolding due
due-at-the-end k rs skip size a z l =
    let n : drop skip rs ≡ [] = drop_of_length-le rs {i = skip} (omega arith) in
    rw (z, n, take-nil {A = Row} size) (simp (le-ltb (length rs) skip (omega arith), none-fits k a))

-- ---- what answers come to, one answer more
in-order-more : (k : Kind) (rs : List Row) (a : Answer) (as' : List Answer) → Front k rs a
    → handed_out as' ≡ unskipped (drop (moves a) rs) as' → handed_out (a ∷ as') ≡ unskipped rs (a ∷ as')
unfolding handed_out unskipped moves
in-order-more k rs (gave skip gs) as' f h = rw (← f.0, h)
in-order-more k rs (refused x) as' f h = h

counted-more : (a : Answer) (as' : List Answer)
    → length (handed_out (a ∷ as')) + passed_over (a ∷ as') ≡ moves a + (length (handed_out as') + passed_over as')
unfolding handed_out passed_over moves
counted-more (gave skip gs) as' = simp length-append (omega arith)
counted-more (refused x) as' = omega arith

pub expected-in-order : (k : Kind) (rs : List Row) (cs : List Call) → handed_out (expected k rs cs) ≡ unskipped rs (expected k rs cs)
unfolding expected handed_out unskipped
expected-in-order k rs [] = refl
expected-in-order k rs (c ∷ cs) =
    let l = drop (moves (due k rs c)) rs in
    in-order-more k rs (due k rs c) (expected k l cs) (due-front k rs c) (expected-in-order k l cs)

-- ---- calls on a reader that stands well
module _ (k : Kind) (e : Encoding) (n : ℕ) (b : List ℕ) where
  plays : (cs : List Call) (r : Reader) (is : List ℕ) → Stands k e n b r is → play r b cs ≡ expected k (rows_at k e n b is) cs
  unfolding play expected
  plays [] r is g = refl
  plays (c ∷ cs) r is g =
      let t = one-call g c in
      let d = due k (rows_at k e n b is) c in
      rw t.answer
      (ap (λ (x : List Answer). d ∷ x)
      (plays cs (after r b c) (drop (moves d) is) t.stands
      ∙ ap (λ (x : List Row). expected k x cs) (map-drop (row_at k e n (head_of e b) b) (moves d) is)))

  record Reached (r : Reader) (is : List ℕ) (cs : List Call) : Type 0 where
    rest : List ℕ
    stands : Stands k e n b (after_all r b cs) rest
    total : length (handed_out (play r b cs)) + passed_over (play r b cs) + length rest ≡ length is

  reached : (cs : List Call) (r : Reader) (is : List ℕ) → Stands k e n b r is → Reached r is cs
  unfolding play after_all handed_out passed_over
  reached [] r is g = record { rest = is; stands = g; total = omega arith }
  reached (c ∷ cs) r is g =
      let t = one-call g c in
      let d = due k (rows_at k e n b is) c in
      let o = reached cs (after r b c) (drop (moves d) is) t.stands in
      let w = due-within k (rows_at k e n b is) c in
      let m = counted-more d (play (after r b c) b cs) in
      let u = o.total in
      let l = length-map is (row_at k e n (head_of e b) b) in
      let v = length-drop (moves d) is in
      record { rest = o.rest; stands = o.stands; total = rw t.answer (omega arith) }

  remains : (r : Reader) (is : List ℕ) → Stands k e n b r is → remaining r ≡ left 0 (length is) r
  unfolding remaining remaining_in
  remains r is g = rw g.column (simp (not-wrong k e r g.right) (ap (λ (m : ℕ). left 0 m r) (sym g.count)))

-- ---- from the opening on
pub open_told : (m : ℕ) (s r : Reader) → opened_by m s ≡ Ok r → (m ≡ 0) × (s ≡ r)
unfolding opened_by
open_told zero s r q = (refl, cc)
open_told (suc m) s r q = let z : ◌≡◌ {A = ℕ} 0 1 = cc in absurd (omega arith)

unknown-told : (n : ℕ) (b : List ℕ) → column_number None n b ≡ 0 → ⊥
unfolding column_number
unknown-told n b q = omega arith

module _ (kind encoding width n : ℕ) (b : List ℕ) where
  -- a sound block opens
  pub opens : (k : Kind) (e : Encoding) → open_number kind encoding width n b ≡ 0 → column_of kind encoding width ≡ Some (column k e)
      → opened kind encoding width n b ≡ Ok (reader_at kind encoding width n (length b) (head_of e b))
  unfolding opened opened_by head_in
  opens k e z c = rw (z, c)

  sound : (k : Kind) (e : Encoding) → open_number kind encoding width n b ≡ 0 → column_of kind encoding width ≡ Some (column k e) → column_number (Some (column k e)) n b ≡ 0
  unfolding open_number
  sound k e z c = ap (λ (x : Option Column). column_number x n b) (sym c) ∙ z

  opened-by : {o : Result Reader ℕ} → opened kind encoding width n b ≡ o
      → opened_by (open_number kind encoding width n b) (reader_at kind encoding width n (length b) (head_in (column_of kind encoding width) b)) ≡ o
  unfolding opened
  opened-by q = q

  head-told : (k : Kind) (e : Encoding) → column_of kind encoding width ≡ Some (column k e)
      → reader_at kind encoding width n (length b) (head_of e b) ≡ reader_at kind encoding width n (length b) (head_in (column_of kind encoding width) b)
  unfolding head_in
  head-told k e c = ap (λ (x : Option Column). reader_at kind encoding width n (length b) (head_in x b)) (sym c)

  -- What any calls are answered. The rows are those of the block; the areas that a read is lent decide only whether it is refused as 4.
  pub any-calls : (k : Kind) (e : Encoding) → open_number kind encoding width n b ≡ 0 → column_of kind encoding width ≡ Some (column k e)
      → (cs : List Call) → play_opened (opened kind encoding width n b) b cs ≡ expected k (rows_of k e n b) cs
  unfolding play_opened rows_of
  any-calls k e z c cs = rw (opens k e z c) (plays k e n b cs _ _ (start k n b kind encoding width e c (sound k e z c)))

  -- All rows that the reads gave, one after the other, are the rows of the block that none passed over, in order, up to the place reached.
  pub rows-in-order : (k : Kind) (e : Encoding) → open_number kind encoding width n b ≡ 0 → column_of kind encoding width ≡ Some (column k e)
      → (cs : List Call)
      → handed_out (play_opened (opened kind encoding width n b) b cs) ≡ unskipped (rows_of k e n b) (play_opened (opened kind encoding width n b) b cs)
  rows-in-order k e z c cs = rw (any-calls k e z c cs) (expected-in-order k (rows_of k e n b) cs)

  -- ---- of the reader that calls reach
  module _ (r : Reader) (here : opened kind encoding width n b ≡ Ok r) where
    pub record Found : Type 0 where
      pub k : Kind
      pub e : Encoding
      pub stands : Stands k e n b r (places_of e n (head_of e b) b)
      all : length (places_of e n (head_of e b) b) ≡ n

    pub found : Found
    unfolding open_number
    found = go (column_of kind encoding width) refl
      where
        q : (open_number kind encoding width n b ≡ 0) × (reader_at kind encoding width n (length b) (head_in (column_of kind encoding width) b) ≡ r)
        q = open_told (open_number kind encoding width n b) _ r (opened-by here)

        go : (x : Option Column) → column_of kind encoding width ≡ x → Found
        go None c = absurd (unknown-told n b (ap (λ (x : Option Column). column_number x n b) (sym c) ∙ q.0))
        go (Some named) c =
            let s = start named.kind n b kind encoding width named.encoding c (sound named.kind named.encoding q.0 c) in
            let h = head-told named.kind named.encoding c ∙ q.1 in
            let l = s.count in
            record {
              k = named.kind;
              e = named.encoding;
              stands = subst (λ (x : Reader). Stands named.kind named.encoding n b x (places_of named.encoding n (head_of named.encoding b) b)) h s;
              all = omega arith;
            }

    module _ (cs : List Call) where
      there : Reached found.k found.e n b r (places_of found.e n (head_of found.e b) b) cs
      there = reached found.k found.e n b cs r _ found.stands

      remains-there : remaining (after_all r b cs) ≡ left 0 (length there.rest) (after_all r b cs)
      remains-there = remains found.k found.e n b (after_all r b cs) there.rest there.stands

      told-there : (c : Call) → Told found.k found.e n b (after_all r b cs) there.rest c
      told-there c = one-call there.stands c

      -- After any calls, what remains is never refused, and the rows given, those passed over and those that remain are all rows of the block.
      pub counts-add-up :
          ((remaining (after_all r b cs)).number ≡ 0)
          × (length (handed_out (play r b cs)) + passed_over (play r b cs) + (remaining (after_all r b cs)).rows ≡ n)
      counts-add-up =
          let t = there.total in
          let l = found.all in
          (rw remains-there, rw remains-there (t ∙ l))

      -- After any calls, a call is refused only as 4, 6 or 7, and leaves the reader as it was.
      pub only-4-6-7 : (c : Call) (x : ℕ) → answer_to (after_all r b cs) b c ≡ refused x
          → ((x ≡ 4) ⊎ ((x ≡ 6) ⊎ (x ≡ 7))) × (after (after_all r b cs) b c ≡ after_all r b cs)
      only-4-6-7 c x q =
          let rs = rows_at found.k found.e n b there.rest in
          let t = told-there c in
          let d = sym t.answer ∙ q in
          (subst (λ (a : Answer). Front found.k rs a) d (due-front found.k rs c), t.stays x d)

      -- After any calls, a read of the next row that is lent a slot of each sort and as many bytes as the block has is never refused.
      pub one-row-is-given : (a : Areas) → Holds b a → (read (after_all r b cs) b 0 1 a).answer.number ≡ 0
      one-row-is-given a h = (row-given there.stands a h).number

      rows_left : length (rows_at found.k found.e n b there.rest) ≡ (remaining (after_all r b cs)).rows
      rows_left = rw remains-there (length-map there.rest (row_at found.k found.e n (head_of found.e b) b))

      -- After any calls, a read of some rows that is not refused gives none only if nothing is left behind those that it passes over.
      pub none-only-at-the-end : (skip size : ℕ) (a : Areas) → (size ≡ 0 → ⊥)
          → answer_to (after_all r b cs) b (reading skip size a) ≡ gave skip [] → (remaining (after_all r b cs)).rows ≡ skip
      none-only-at-the-end skip size a z q =
          let t = told-there (reading skip size a) in
          sym rows_left ∙ due-none found.k (rows_at found.k found.e n b there.rest) skip size a z (sym t.answer ∙ q)

      -- And where nothing is left behind them every read gives none, unless it asks for nothing.
      pub none-at-the-end : (skip size : ℕ) (a : Areas) → asks_nothing skip size ≡ false → (remaining (after_all r b cs)).rows ≡ skip
          → answer_to (after_all r b cs) b (reading skip size a) ≡ gave skip []
      none-at-the-end skip size a z q =
          (told-there (reading skip size a)).answer
          ∙ due-at-the-end found.k (rows_at found.k found.e n b there.rest) skip size a z (rows_left ∙ q)
