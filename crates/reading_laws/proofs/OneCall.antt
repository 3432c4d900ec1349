-- One call on a reader that stands well: it is answered as the rows left ask for, and the reader after it stands well. Assumes nothing.
use Rattle.std.specs.Prelude.{Some}
use Prim.Native.Nat.{ℕ, zero, suc, ◌-◌, ◌≤◌, ◌<◌, min}
use native.Mathlib.Nat.{min-le_right, min-eq_left, min-eq_right}
use native.Mathlib.Omega.{arith}
use mathlib.Core.Bool.{Bool, true, false, cond}
use mathlib.Core.List.{List, [], ◌∷◌, map}
use mathlib.Core.Logic.{⊎_elim}
use mathlib.Core.Path.{◌≡◌, refl, sym, ap, subst, ◌∙◌}
use lib.ListN.{length, take, drop, length-map}
use lib.Seq.{take_all, drop-drop, length-take-le}
use borrow.Author.Tests.{lt-ltb, le-ltb, eq-eqb}
use Rattle.limits.specs.Refusals.{ROOM, NO_ROWS, TOO_FAR}
use Rattle.encode.specs.declared.Kind.{Kind}
use Rattle.area.proofs.Laws.{lt-or-ge}
use Rattle.zeros.proofs.Counting.{zeros-few}
use Rattle.plain.specs.Rows.{Row}
use Rattle.nullable.specs.Nullable.{presence}
use Rattle.rle.specs.Stepping.{rows}
use Rattle.format.specs.declared.Encoding.{Encoding}
use Rattle.format.specs.Opening.{head_of, row_at}
use Rattle.anatomy.specs.Tests.{row_good}
use Rattle.block.specs.declared.Reader.{Reader}
use Rattle.block.specs.Reading.{next_steps, moved, counted, nulls_in}
use Rattle.block.specs.Reading.{Areas, Batch, short, filled_in, given_bytes, refused_batch, give, batch_of, up_to, whole, pass_then, read_in, asks_nothing, read}
use Rattle.block.specs.Calls.{Call, reading, Answer, gave, refused, handed, read_answer, answer_to, after}
use Rattle.reading_laws.specs.Calls.{due, moves}
use Rattle.reading_laws.proofs.HandedRows.{read_back, rows-handed}
use Rattle.reading_laws.proofs.RowsLeft.{Stands, Later, later, counted-stands, not-wrong, take-good}
use Rattle.format.specs.Blocks.{column}

-- ---- lists
module _ {A B : Type 0} (f : A → B) where
  pub map-drop : (n : ℕ) (l : List A) → map f (drop n l) ≡ drop n (map f l)
  map-drop zero l = refl
  map-drop (suc n) [] = refl
  map-drop (suc n) (x ∷ l) = map-drop n l

  map-take : (n : ℕ) (l : List A) → map f (take n l) ≡ take n (map f l)
  map-take zero l = refl
  map-take (suc n) [] = refl
  map-take (suc n) (x ∷ l) = ap (λ (m : List B). f x ∷ m) (map-take n l)

take-least : {A : Type 0} (n : ℕ) (l : List A) → take (min n (length l)) l ≡ take n l
take-least n l = ⊎_elim
    (λ (h : n < length l). let m : n ≤ length l = omega arith in rw (min-eq_left m))
    (λ (h : length l ≤ n). rw (min-eq_right h) (take_all (length l) l (omega arith) ∙ sym (take_all n l h)))
    (lt-or-ge n (length l))

-- ---- no more rows are null than there are
pub nulls-few : (rs : List Row) → nulls_in rs ≤ length rs
unfolding nulls_in
nulls-few rs = let z = zeros-few (map presence rs) in let l = length-map rs presence in omega arith

-- ---- the rows at some places of a block
abbrev pub rows_at : Kind → Encoding → ℕ → List ℕ → List ℕ → List Row
rows_at k e n b is = map (row_at k e n (head_of e b) b) is

pub record Told (k : Kind) (e : Encoding) (n : ℕ) (b : List ℕ) (r : Reader) (is : List ℕ) (c : Call) : Type 0 where
  pub answer : answer_to r b c ≡ due k (rows_at k e n b is) c
  pub stands : Stands k e n b (after r b c) (drop (moves (due k (rows_at k e n b is) c)) is)
  pub stays : (x : ℕ) → due k (rows_at k e n b is) c ≡ refused x → after r b c ≡ r

module _ {k : Kind} {e : Encoding} {n : ℕ} {b : List ℕ} {r : Reader} {is : List ℕ} (g : Stands k e n b r is) where
  abbrev left : List Row
  left = rows_at k e n b is

  -- a call refused
  told-refused : (c : Call) (x : ℕ) → answer_to r b c ≡ refused x → after r b c ≡ r → due k left c ≡ refused x → Told k e n b r is c
  unfolding moves
  told-refused c x p q d = record { answer = p ∙ sym d; stands = rw (q, d) g; stays = λ y h. q }

  -- and one that is not
  told-done : (c : Call) (a : Answer) (r' : Reader) → answer_to r b c ≡ a → after r b c ≡ r' → due k left c ≡ a
      → ((x : ℕ) → a ≡ refused x → ⊥) → Stands k e n b r' (drop (moves a) is) → Told k e n b r is c
  told-done c a r' p q d z s = record { answer = p ∙ sym d; stands = rw (q, d) s; stays = λ x h. absurd (z x (sym d ∙ h)) }

  left-long : length left ≡ length is
  left-long = length-map is (row_at k e n (head_of e b) b)

  -- ---- up to so many of the rows left
  module _ (size : ℕ) (a : Areas) where
    abbrev most : ℕ
    most = min size (length is)

    pub step : Later k e n b r is most
    step = later g most (min-le_right size (length is))

    abbrev pub given : List Row
    given = rows_at k e n b (take most is)

    pub given_is : take size left ≡ given
    given_is = sym (map-take (row_at k e n (head_of e b) b) size is) ∙ ap (rows_at k e n b) (sym (take-least size is))

    pub given-long : length given ≡ most
    given-long = length-map (take most is) (row_at k e n (head_of e b) b) ∙ length-take-le most is (min-le_right size (length is))

    steps-are : next_steps e r b (min size (r.rows - r.place)) ≡ rows (take most is) step.mid
    steps-are = ap (λ (j : ℕ). next_steps e r b (min size j)) (sym g.count) ∙ step.first

    given-same : map (row_at k e r.rows r.head b) (take most is) ≡ given
    given-same = rw (g.size, g.head)

    pub gives : up_to k e r b size a ≡ give k r given step.mid a
    unfolding up_to batch_of
    gives =
        ap (batch_of k e r b a) steps-are
        ∙ rw (take-good (row_good k e r.rows r.head b) most is g.good, given-same)

  -- ---- a read
  told-nothing : (skip size : ℕ) (a : Areas) → asks_nothing skip size ≡ true → Told k e n b r is (reading skip size a)
  unfolding answer_to after read_answer due read
  told-nothing skip size a z =
      let p : read r b skip size a ≡ refused_batch NO_ROWS r a = rw z in
      told-refused (reading skip size a) NO_ROWS (rw p) (ap (λ (x : Batch). x.answer.reader) p) (rw z)

  module _ (skip size : ℕ) (a : Areas) (some : asks_nothing skip size ≡ false) where
    read-far : length is < skip → read r b skip size a ≡ refused_batch TOO_FAR r a
    unfolding read read_in
    read-far h =
        rw (some, g.column)
        (simp (eq-eqb (length b) r.len g.long, not-wrong k e r g.right, lt-ltb (r.rows - r.place) skip (omega (arith, g.count))))

    told-far : length is < skip → Told k e n b r is (reading skip size a)
    unfolding answer_to after read_answer due
    told-far h =
        let l : length left < skip = omega (arith, left-long) in
        let p = read-far h in
        told-refused (reading skip size a) TOO_FAR (rw p) (ap (λ (x : Batch). x.answer.reader) p) (rw some (simp (lt-ltb (length left) skip l)))

    read_behind : (h : skip ≤ length is) → read r b skip size a ≡ whole r a (up_to k e (moved r skip (later g skip h).mid) b size a)
    unfolding read read_in pass_then
    read_behind h =
        rw (some, g.column, (later g skip h).first)
        (simp (eq-eqb (length b) r.len g.long, not-wrong k e r g.right, le-ltb (r.rows - r.place) skip (omega (arith, g.count))))

module _ {k : Kind} {e : Encoding} {n : ℕ} {b : List ℕ} {r : Reader} {is : List ℕ} (g : Stands k e n b r is) (skip size : ℕ) (a : Areas)
    (some : asks_nothing skip size ≡ false) (h : skip ≤ length is) where
  abbrev behind : Stands k e n b (moved r skip (later g skip h).mid) (drop skip is)
  behind = (later g skip h).stands

  -- the rows given, which are those behind the rows passed over
  abbrev handed_out : List Row
  handed_out = given behind size a

  handed-is : take size (drop skip (left g)) ≡ handed_out
  handed-is = ap (take size) (sym (map-drop (row_at k e n (head_of e b) b) skip is)) ∙ given_is behind size a

  read-gives : read r b skip size a ≡ whole r a (give k (moved r skip (later g skip h).mid) handed_out (step behind size a).mid a)
  read-gives = read_behind g skip size a some h ∙ ap (whole r a) (gives behind size a)

  due-is : due k (left g) (reading skip size a) ≡ cond (short k handed_out a) (refused ROOM) (gave skip handed_out)
  unfolding due
  due-is =
      let l : skip ≤ length (left g) = omega (arith, left-long g) in
      rw (some, handed-is) (simp (le-ltb (length (left g)) skip l))

  abbrev done : Batch
  done = record {
    answer = record {
      number = 0;
      rows = length handed_out;
      bytes = given_bytes k handed_out;
      reader = counted (moved (moved r skip (later g skip h).mid) (length handed_out) (step behind size a).mid) (nulls_in handed_out);
    };
    areas = filled_in k handed_out a;
  }

  told-short : short k handed_out a ≡ true → Told k e n b r is (reading skip size a)
  unfolding answer_to after read_answer give whole
  told-short s =
      let p : read r b skip size a ≡ refused_batch ROOM r a = read-gives ∙ simp s in
      told-refused g (reading skip size a) ROOM (rw p) (ap (λ (x : Batch). x.answer.reader) p) (due-is ∙ rw s)

  told-given : short k handed_out a ≡ false → Told k e n b r is (reading skip size a)
  unfolding answer_to after read_answer moves give whole
  told-given s =
      let p : read r b skip size a ≡ done = read-gives ∙ simp s in
      let q : handed (Some (column k e)) (length handed_out) (filled_in k handed_out a) ≡ handed_out =
      read_back k e handed_out a ∙ rows-handed k n (head_of e b) b e (take (min size (length (drop skip is))) (drop skip is)) in
      told-done g (reading skip size a) (gave skip handed_out) done.answer.reader
      (rw (p, g.column) (ap (gave skip) q))
      (ap (λ (x : Batch). x.answer.reader) p)
      (due-is ∙ rw s)
      (λ x y. let z : ◌≡◌ {A = ℕ} 0 1 = cc in omega arith)
      (subst (λ (js : List ℕ). Stands k e n b done.answer.reader js) (drop-drop (length handed_out) skip is) stands-there)
    where
      rows-stand : Stands k e n b (moved (moved r skip (later g skip h).mid) (length handed_out) (step behind size a).mid) (drop (length handed_out) (drop skip is))
      rows-stand = rw (given-long behind size a) (step behind size a).stands

      stands-there : Stands k e n b done.answer.reader (drop (length handed_out) (drop skip is))
      stands-there = counted-stands rows-stand (nulls_in handed_out) (omega (arith, g.right.nulls, nulls-few handed_out))

  told-behind : Told k e n b r is (reading skip size a)
  told-behind = go (short k handed_out a) refl
    where
      go : (t : Bool) → short k handed_out a ≡ t → Told k e n b r is (reading skip size a)
      go true s = told-short s
      go false s = told-given s

pub one-call : {k : Kind} {e : Encoding} {n : ℕ} {b : List ℕ} {r : Reader} {is : List ℕ} → Stands k e n b r is → (c : Call) → Told k e n b r is c
one-call {k} {e} {n} {b} {r} {is} g (reading skip size a) = go (asks_nothing skip size) refl
  where
    go : (t : Bool) → asks_nothing skip size ≡ t → Told k e n b r is (reading skip size a)
    go true z = told-nothing g skip size a z
    go false z = ⊎_elim
        (λ (h : length is < skip). told-far g skip size a z h)
        (λ (h : skip ≤ length is). told-behind g skip size a z h)
        (lt-or-ge (length is) skip)
