-- What follows for a caller: an unsound block is never opened, and answers depend on the record, the block and the lent areas' lengths alone.
-- Assumes nothing.
use Prim.Native.Nat.{ℕ, zero, suc, ◌-◌, min}
use native.Mathlib.Omega.{arith}
use mathlib.Core.Bool.{Bool, true, false, cond, not, ◌||◌}
use mathlib.Core.List.{List, [], ◌∷◌, map}
use mathlib.Core.Logic.{◌↔◌}
use mathlib.Core.Path.{◌≡◌, refl, sym, ap, subst, ◌∙◌}
use lib.Dec.{ltb, eqb}
use lib.ListN.{length, length-map}
use Rattle.std.specs.Prelude.{Result, Ok, Err, Option, Some, None}
use Rattle.limits.specs.Refusals.{ROOM, NO_ROWS, TOO_FAR, DISAGREE}
use Rattle.area.specs.Area.{over}
use Rattle.encode.specs.declared.Primitive.{Primitive}
use Rattle.encode.specs.declared.Kind.{Kind}
use Rattle.encode.specs.declared.Kind.TheVariants.{Fixed, Char, Blob}
use Rattle.plain.specs.Rows.{Row, int_in, bytes_in}
use Rattle.plain.specs.Plain.{all_of, places, joined, ends_from}
use Rattle.plain.proofs.Ends.{length-ends}
use Rattle.nullable.specs.Nullable.{presence}
use Rattle.rle.specs.declared.Spot.{Spot}
use Rattle.rle.specs.Stepping.{Steps, stuck, rows}
use Rattle.format.specs.declared.Encoding.{Encoding}
use Rattle.format.specs.declared.Column.{Column}
use Rattle.format.specs.Opening.{open_number, row_at}
use Rattle.anatomy.specs.Tests.{row_good}
use Rattle.block.specs.declared.Reader.{Reader}
use Rattle.block.specs.declared.Given.{Given}
use Rattle.block.specs.Reading.{opened_by, opened, wrong, next_steps, moved, counted, nulls_in}
use Rattle.block.specs.Reading.{Areas, Batch, is_bytes, short, filled_in, given_bytes, refused_batch, give, batch_of, up_to, whole, pass_then, read_in, asks_nothing, read}
use Rattle.block.specs.Calls.{Call, reading, Answer, gave, refused, handed, column_in, read_answer, answer_to, after, play, play_opened}
use Rattle.soundness_laws.specs.Sound.{Sound}
use Rattle.soundness_laws.proofs.Opens.{sound-opens, opens-sound}
use Rattle.reading_laws.specs.Room.{SameRoom, SameBatch, SameCall, SameCalls}
use Rattle.reading_laws.proofs.HandedRows.{read_back}
use Rattle.format.specs.Blocks.{column}

-- ---- an unsound block is never opened
by_number : (e : ℕ) (r : Reader) → (e ≡ 0 → ⊥) → opened_by e r ≡ Err e
unfolding opened_by
by_number zero r h = absurd (h refl)
by_number (suc e) r h = refl

module _ (kind encoding width n : ℕ) (b : List ℕ) (unsound : open_number kind encoding width n b ≡ 0 → ⊥) where
  -- opening gives the number alone
  pub unsound-refused : opened kind encoding width n b ≡ Err (open_number kind encoding width n b)
  unfolding opened
  unsound-refused = by_number (open_number kind encoding width n b) _ unsound

  -- so there is no record to read it with
  pub unsound-never-opened : (r : Reader) → opened kind encoding width n b ≡ Ok r → ⊥
  unsound-never-opened r h =
      let e : Err (open_number kind encoding width n b) ≡ Ok r = sym unsound-refused ∙ h in
      let z : ◌≡◌ {A = ℕ} 0 1 = cc in
      omega arith

  -- and whatever calls were to follow, the refusal is all that is answered
  pub unsound-never-read : (cs : List Call) → play_opened (opened kind encoding width n b) b cs ≡ refused (open_number kind encoding width n b) ∷ []
  unfolding play_opened
  unsound-never-read cs = rw unsound-refused

-- There is a reader exactly when opening's number is 0.
pub opened-by-number :
    (kind encoding width n : ℕ) (b : List ℕ)
    → ((r : Reader) × (opened kind encoding width n b ≡ Ok r)) ↔ (open_number kind encoding width n b ≡ 0)
unfolding opened opened_by
opened-by-number kind encoding width n b = (there (open_number kind encoding width n b) _, back (open_number kind encoding width n b) _)
  where
    there : (e : ℕ) (s : Reader) → ((r : Reader) × (opened_by e s ≡ Ok r)) → e ≡ 0
    there zero s o = refl
    there (suc e) s o = let z : ◌≡◌ {A = ℕ} 0 1 = cc o.1 in absurd (omega arith)

    back : (e : ℕ) (s : Reader) → e ≡ 0 → (r : Reader) × (opened_by e s ≡ Ok r)
    back e s h = (s, ap (λ (x : ℕ). opened_by x s) h)

-- A block is opened exactly when it is sound: when it consists of the parts that its encoding names, and these keep their rules.
pub opened-exactly-when-sound :
    (kind encoding width n : ℕ) (b : List ℕ) → ((r : Reader) × (opened kind encoding width n b ≡ Ok r)) ↔ Sound kind encoding width n b
opened-exactly-when-sound kind encoding width n b =
    let o = opened-by-number kind encoding width n b in
    (λ h. opens-sound kind encoding width n b (o.0 h), λ h. o.1 (sound-opens kind encoding width n b h))

-- ---- answers depend on the block alone
none-handed : (c : Option Column) (a : Areas) → handed c 0 a ≡ []
unfolding handed places
none-handed None a = refl
none-handed (Some c) a = refl

module _ (r : Reader) (b : List ℕ) (a a' : Areas) (room : SameRoom a a') where
  -- a refusal writes nothing
  same-refusal : (c : Option Column) (e : ℕ) → SameBatch c a a' (refused_batch e r a) (refused_batch e r a')
  unfolding over
  same-refusal c e =
      record {
        answer = refl;
        values = [];
        flags = [];
        ends = [];
        bytes = [];
        first = refl;
        second = refl;
        values-few = omega arith;
        flags-each = refl;
        ends-few = omega arith;
        bytes-told = refl;
        read = none-handed c a ∙ sym (none-handed c a');
      }

  same-short : (k : Kind) (rs : List Row) → short k rs a ≡ short k rs a'
  unfolding short
  same-short k rs = rw (room.values, room.flags, room.ends, room.bytes)

  -- the answer to rows given
  abbrev done : Kind → List Row → Spot → Given
  done k rs t = record { number = 0; rows = length rs; bytes = given_bytes k rs; reader = counted (moved r (length rs) t) (nulls_in rs) }

  same-values : (p : Primitive) (e : Encoding) (rs : List Row) (t : Spot)
      → SameBatch (Some (column (Fixed p) e)) a a' (record { answer = done (Fixed p) rs t; areas = filled_in (Fixed p) rs a })
      (record { answer = done (Fixed p) rs t; areas = filled_in (Fixed p) rs a' })
  unfolding filled_in given_bytes is_bytes over
  same-values p e rs t =
      record {
        answer = refl;
        values = map int_in rs;
        flags = map presence rs;
        ends = [];
        bytes = [];
        first = refl;
        second = refl;
        values-few = omega (arith, length-map rs int_in);
        flags-each = length-map rs presence;
        ends-few = omega arith;
        bytes-told = refl;
        read = read_back (Fixed p) e rs a ∙ sym (read_back (Fixed p) e rs a');
      }

  same-texts : (k : Kind) (e : Encoding) (rs : List Row) (t : Spot) → is_bytes k ≡ true
      → SameBatch (Some (column k e)) a a' (record { answer = done k rs t; areas = filled_in k rs a }) (record { answer = done k rs t; areas = filled_in k rs a' })
  unfolding filled_in given_bytes over
  same-texts k e rs t h =
      record {
        answer = refl;
        values = [];
        flags = map presence rs;
        ends = ends_from 0 (map bytes_in rs);
        bytes = joined bytes_in rs;
        first = rw h;
        second = rw h;
        values-few = omega arith;
        flags-each = length-map rs presence;
        ends-few = omega (arith, length-ends 0 (map bytes_in rs), length-map rs bytes_in);
        bytes-told = rw h;
        read = read_back k e rs a ∙ sym (read_back k e rs a');
      }

  same-done : (k : Kind) (e : Encoding) (rs : List Row) (t : Spot)
      → SameBatch (Some (column k e)) a a' (record { answer = done k rs t; areas = filled_in k rs a }) (record { answer = done k rs t; areas = filled_in k rs a' })
  same-done (Fixed p) e rs t = same-values p e rs t
  same-done (Char w) e rs t = same-texts (Char w) e rs t (unfold is_bytes in refl)
  same-done (Blob text) e rs t = same-texts (Blob text) e rs t (unfold is_bytes in refl)

  either : (c : Option Column) (t : Bool) (x y x' y' : Batch) → SameBatch c a a' x x' → SameBatch c a a' y y' → SameBatch c a a' (cond t x y) (cond t x' y')
  either c true x y x' y' h i = h
  either c false x y x' y' h i = i

  same-give : (k : Kind) (e : Encoding) (rs : List Row) (t : Spot) → SameBatch (Some (column k e)) a a' (give k r rs t a) (give k r rs t a')
  unfolding give
  same-give k e rs t =
      rw (same-short k rs)
      (either (Some (column k e)) (short k rs a') (refused_batch ROOM r a) _ (refused_batch ROOM r a') _ (same-refusal (Some (column k e)) ROOM)
      (same-done k e rs t))

  same_rows : (k : Kind) (e : Encoding) (w : Steps) → SameBatch (Some (column k e)) a a' (batch_of k e r b a w) (batch_of k e r b a' w)
  unfolding batch_of
  same_rows k e stuck = same-refusal (Some (column k e)) DISAGREE
  same_rows k e (rows is t) =
      either (Some (column k e)) (all_of (row_good k e r.rows r.head b) is) _ (refused_batch DISAGREE r a) _ (refused_batch DISAGREE r a')
      (same-give k e (map (row_at k e r.rows r.head b) is) t) (same-refusal (Some (column k e)) DISAGREE)

  same-up-to : (k : Kind) (e : Encoding) (size : ℕ) → SameBatch (Some (column k e)) a a' (up_to k e r b size a) (up_to k e r b size a')
  unfolding up_to
  same-up-to k e size = same_rows k e (next_steps e r b (min size (r.rows - r.place)))

module _ (r : Reader) (b : List ℕ) (a a' : Areas) (room : SameRoom a a') (skip size : ℕ) where
  -- whole, or a refusal, which writes nothing
  same_whole : (c : Option Column) (x x' : Batch) → SameBatch c a a' x x' → SameBatch c a a' (whole r a x) (whole r a' x')
  unfolding whole
  same_whole c x x' s =
      let m = x.answer.number in
      subst (λ (j : ℕ). SameBatch c a a' (cond (eqb m 0) x (refused_batch m r a)) (cond (eqb j 0) x' (refused_batch j r a')))
      (ap (λ (g : Given). g.number) s.answer)
      (either r b a a' room c (eqb m 0) x (refused_batch m r a) x' (refused_batch m r a') s (same-refusal r b a a' room c m))

  same-passed : (k : Kind) (e : Encoding) (w : Steps) → SameBatch (Some (column k e)) a a' (pass_then k e r b skip size a w) (pass_then k e r b skip size a' w)
  unfolding pass_then
  same-passed k e stuck = same-refusal r b a a' room (Some (column k e)) DISAGREE
  same-passed k e (rows is t) =
      same_whole (Some (column k e)) (up_to k e (moved r skip t) b size a) (up_to k e (moved r skip t) b size a') (same-up-to (moved r skip t) b a a' room k e size)

  same-column : (c : Option Column) → SameBatch c a a' (read_in c r b skip size a) (read_in c r b skip size a')
  unfolding read_in
  same-column None = same-refusal r b a a' room None DISAGREE
  same-column (Some c) =
      either r b a a' room (Some (column c.kind c.encoding)) (not (eqb (length b) r.len) || wrong c.kind c.encoding r) (refused_batch DISAGREE r a) _ (refused_batch DISAGREE r a') _
      (same-refusal r b a a' room (Some (column c.kind c.encoding)) DISAGREE)
      (either r b a a' room (Some (column c.kind c.encoding)) (ltb (r.rows - r.place) skip) (refused_batch TOO_FAR r a) _ (refused_batch TOO_FAR r a') _
      (same-refusal r b a a' room (Some (column c.kind c.encoding)) TOO_FAR) (same-passed c.kind c.encoding (next_steps c.encoding r b skip)))

  -- For every record and every block: number, counts, next record and all that is written are the same, whatever the lent areas held before.
  pub read-depends-on-the-block-alone : SameBatch (column_in r) a a' (read r b skip size a) (read r b skip size a')
  unfolding read
  read-depends-on-the-block-alone =
      either r b a a' room (column_in r) (asks_nothing skip size) (refused_batch NO_ROWS r a) _ (refused_batch NO_ROWS r a') _
      (same-refusal r b a a' room (column_in r) NO_ROWS) (same-column (column_in r))

  same_answer : answer_to r b (reading skip size a) ≡ answer_to r b (reading skip size a')
  unfolding answer_to read_answer
  same_answer =
      let s = read-depends-on-the-block-alone in
      let x = read r b skip size a in
      let x' = read r b skip size a' in
      ap (λ (rs : List Row). cond (eqb x.answer.number 0) (gave skip rs) (refused x.answer.number)) s.read
      ∙ ap (λ (e : ℕ). cond (eqb e 0) (gave skip (handed (column_in r) x'.answer.rows x'.areas)) (refused e)) (ap (λ (g : Given). g.number) s.answer)

  same_after : after r b (reading skip size a) ≡ after r b (reading skip size a')
  unfolding after
  same_after = ap (λ (g : Given). g.reader) read-depends-on-the-block-alone.answer

-- ---- and so do the answers to any calls
module _ (b : List ℕ) where
  one_answer : (r : Reader) (c d : Call) → SameCall c d → (answer_to r b c ≡ answer_to r b d) × (after r b c ≡ after r b d)
  one_answer r (reading skip size a) (reading skip' size' a') h = (
    same_answer r b a a' h.2 skip size ∙ rw (h.0, h.1),
    same_after r b a a' h.2 skip size ∙ rw (h.0, h.1),
  )

  -- Any calls on any record: the answers, rows among them, come from the record, the block and the room lent, and from nothing else in memory.
  pub answers-depend-on-the-block-alone : (cs ds : List Call) → SameCalls cs ds → (r : Reader) → play r b cs ≡ play r b ds
  unfolding play
  answers-depend-on-the-block-alone [] [] h r = refl
  answers-depend-on-the-block-alone [] (d ∷ ds) h r = absurd h
  answers-depend-on-the-block-alone (c ∷ cs) [] h r = absurd h
  answers-depend-on-the-block-alone (c ∷ cs) (d ∷ ds) h r =
      let o = one_answer r c d h.0 in
      ap (λ (x : Answer). x ∷ play (after r b c) b cs) o.0
      ∙ ap (λ (l : List Answer). answer_to r b d ∷ l)
      (ap (λ (s : Reader). play s b cs) o.1 ∙ answers-depend-on-the-block-alone cs ds h.1 (after r b d))

  -- the same from the opening on
  pub opened-answers-depend-on-the-block-alone : (o : Result Reader ℕ) (cs ds : List Call) → SameCalls cs ds → play_opened o b cs ≡ play_opened o b ds
  unfolding play_opened
  opened-answers-depend-on-the-block-alone (Ok r) cs ds h = answers-depend-on-the-block-alone cs ds h r
  opened-answers-depend-on-the-block-alone (Err e) cs ds h = refl
