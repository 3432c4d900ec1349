-- One row written n times: what each part of them asks, and what it leaves. Assumes nothing.
use Prim.Native.Nat.{ℕ, zero, suc, ◌+◌, ◌-◌, ◌≤◌, ◌<◌}
use native.Mathlib.Omega.{arith}
use mathlib.Core.Path.{◌≡◌, refl, sym, ap, ◌∙◌}
use mathlib.Core.Bool.{Bool, true, false, cond, not, ◌&&◌, and-true}
use mathlib.Core.List.{List}
use lib.Dec.{ltb}
use lib.IntN.{ℤ}
use lib.ListN.{length, set}
use Rattle.limits.specs.Limits.{MOST_ROWS, MOST_BYTES, MOST_COUNT}
use Rattle.area.specs.Area.{over}
use Rattle.encode.specs.declared.Kind.{Kind}
use Rattle.encode.proofs.Bools.{clash, both}
use Rattle.plain.specs.Rows.{Row, row_of, bytes_in}
use Rattle.plain.specs.Plain.{item_of}
use Rattle.nullable.specs.Nullable.{presence}
use Rattle.format.specs.declared.Encoding.{Encoding}
use Rattle.slots.specs.Slots.{ends_with, lens_with, flags_with, counts_with}
use Rattle.needs.specs.declared.Counted.{Counted}
use Rattle.needs.specs.declared.Room.{Room}
use Rattle.needs.specs.Needs.{coded, flagged, keyed, stored_by, past_limits, too_short}
use Rattle.needs.proofs.Short.{fitting}
use Rattle.step.specs.Steps.{run_open}
use Rattle.step.specs.Counting.{grown}
use Rattle.step.proofs.Growth.{long-not}
use Rattle.step.proofs.Steps.{opened}
use Rattle.append.specs.Appending.{Lent, lent, room_of, laid}
use Rattle.append.specs.Asking.{Stores}
use Rattle.append.proofs.Passed.{presence-of}
use Rattle.append.proofs.Slots.{Counts, stores, counts}
use Rattle.copies.specs.Copies.{Stage, stage, one_more, joins_again, stores_again, once_more, times_more, times}
use Rattle.copies.specs.Stretch.{grown_again, grown_times, joined}
use Rattle.copies.proofs.Growing.{within-before, room-before}
use Rattle.copies.proofs.Stretches.{more-in-parts, grown-in-parts, counted-more, more-no-less, all_join, times-in-two}
use Rattle.copies.proofs.Numbers.{Small, small, rows_bound, item-past, begun-again}
use Rattle.written_times.specs.Writing.{HoldsRow, HoldsMore}

-- ---- rows that are within the limits and have room
module _ (k : Kind) (e : Encoding) (row : Row) (n : ℕ) (r : Counted) (m : Room) (h : HoldsMore k e row n r m) where
  abbrev after : ℕ → Counted
  after t = grown_times e (presence row) (length (item_of k row)) t r

  -- all of them are so many, and then the rest
  in_two : (t : ℕ) → t ≤ n → after n ≡ grown_times e (presence row) (length (item_of k row)) (n - t) (after t)
  in_two t l =
      let z : n ≡ t + (n - t) = omega arith in
      ap (λ (i : ℕ). after i) z ∙ grown-in-parts e (presence row) (length (item_of k row)) t (n - t) r

  -- some of them too
  pub fewer : (t : ℕ) → t ≤ n → HoldsMore k e row t r m
  fewer t l =
      let less = more-no-less e (presence row) (length (item_of k row)) (n - t) (after t) in
      let last : Counted = grown_times e (presence row) (length (item_of k row)) (n - t) (after t) in
      record {
        fit = h.fit;
        within = within-before k e (after t) last less (sym (ap (past_limits k e) (in_two t l)) ∙ h.within);
        room = room-before k e (after t) last less m (sym (ap (λ (s : Counted). too_short k e s m) (in_two t l)) ∙ h.room);
        some = h.some;
      }

  -- and the rest, behind those that are written
  pub the_rest : (t : ℕ) → t ≤ n → {x : Counted} → x ≡ after t → HoldsMore k e row (n - t) x m
  the_rest t l {x} q = rw q (record {
    fit = h.fit;
    within = sym (ap (past_limits k e) (in_two t l)) ∙ h.within;
    room = sym (ap (λ (s : Counted). too_short k e s m) (in_two t l)) ∙ h.room;
    some = λ c. let less = (more-no-less e (presence row) (length (item_of k row)) t r).runs in omega (arith, less, h.some c);
  })

  -- the numbers before them are small, and have room
  pub few : Small e r
  unfolding grown_times
  few = small k e r (fewer 0 (omega arith)).within h.some

  pub runs_fit : coded e ≡ true → r.runs ≤ m.counts
  unfolding grown_times
  runs_fit = (fitting k e r m (fewer 0 (omega arith)).room).counts

-- ---- the row that was passed on as the bits of its integer shows as another, which is the same
module _ (k : Kind) (e : Encoding) {passed row : Row} (q : passed ≡ row) where
  pub holds-passed : (n : ℕ) (r : Counted) (m : Room) → HoldsMore k e row n r m → HoldsMore k e passed n r m
  holds-passed n r m h = rw q h

  pub length-passed : {len : ℕ} → len ≡ length (item_of k row) → len ≡ length (item_of k passed)
  length-passed l = rw q l

  pub row-passed : (item joins : Bool) (r : Counted) (m : Room) → HoldsRow k e row item joins r m → HoldsRow k e passed item joins r m
  row-passed item joins r m h = rw q h

  pub laid-passed : (r : Counted) (item joins : Bool) {key key' : ℤ} → key' ≡ key → (a : Lent) {b : Lent} → b ≡ laid k e r passed item joins key' a
      → b ≡ laid k e r row item joins key a
  laid-passed r item joins p a h = rw (q, p) at h

  pub more-passed : {key key' : ℤ} → key' ≡ key → (n : ℕ) (g : Stage) {x : Stage} → x ≡ times_more k e passed key' n g → x ≡ times_more k e row key n g
  more-passed p n g h = rw (q, p) at h

-- ---- so many rows that join the last run
pub joins-open : (e : Encoding) (r : Counted) {x : Bool} → x ≡ joins_again e r → x ≡ true → (coded e ≡ true) × (0 < r.runs) × (r.last < MOST_COUNT)
unfolding joins_again
joins-open e r q t =
    let b = both (coded e) (run_open r) (sym q ∙ t) in
    let o = opened r refl b.1 in
    (b.0, o.0, o.1)

pub join-asks : (k : Kind) (e : Encoding) (row : Row) (n : ℕ) (r : Counted) (a : Lent) → HoldsMore k e row n r (room_of a) → {x : Bool} → x ≡ joins_again e r → x ≡ true
    → (t : ℕ) → r.last + t ≤ MOST_COUNT
    → (0 < r.runs) × (r.runs ≤ length a.counts) × (r.last + t ≤ MOST_COUNT) × (r.rows ≤ MOST_ROWS) × (r.counts ≤ MOST_BYTES)
unfolding room_of
join-asks k e row n r a h q u t l =
    let j = joins-open e r q u in
    let s = few k e row n r (room_of a) h in
    (j.1, runs_fit k e row n r (room_of a) h j.0, l, rows_bound e r s, s.counts j.0)

-- what each part leaves: those that join, or one that doesn't
module _ (k : Kind) (e : Encoding) (present : Bool) (v : ℤ) (bs : List ℕ) (key : ℤ) (r : Counted) (a : Lent) where
  pub part-joined : {y : Bool} → y ≡ joins_again e r → y ≡ true → (t : ℕ) → 0 < t → r.last + t ≤ MOST_COUNT
      → {x : Counted} → x ≡ joined r (cond present 1 0) t → {cs : List ℕ} → cs ≡ set a.counts (r.runs - 1) (r.last + t)
      → stage x (lent a.items a.ends a.flags cs a.keys a.lens) ≡ times_more k e (row_of k present v bs) key t (stage r a)
  part-joined q u zero p l x c = absurd (omega (arith, p))
  part-joined q u (suc t) p l x c =
      let j = joins-open e r q u in
      rw (x, c, presence-of k present v bs) (sym (all_join k e (row_of k present v bs) key j.0 t r a j.1 l))

  pub part-begun : joins_again e r ≡ false → {len : ℕ} → len ≡ length (item_of k (row_of k present v bs))
      → {x : Counted} → x ≡ grown_again e (cond present 1 0) len r → {d : Bool} → d ≡ keyed e → {b : Lent} → b ≡ laid k e r (row_of k present v bs) (not d) false key a
      → stage x b ≡ times_more k e (row_of k present v bs) key 1 (stage r a)
  unfolding times_more once_more one_more grown_again stores_again
  part-begun j l x d b = rw (x, b, d, l, presence-of k present v bs, j, and-true (not (keyed e)))

  -- the first row, and the others behind it
  pub others-hold : (item joins : Bool) {left : ℕ} {m : Room}
      → HoldsMore k e (row_of k present v bs) left (grown e r (presence (row_of k present v bs)) (length (item_of k (row_of k present v bs))) item joins) m
      → {len : ℕ} → len ≡ length (item_of k (row_of k present v bs)) → {first : Counted} → first ≡ grown e r (cond present 1 0) len item joins
      → {same : Room} → same ≡ m → HoldsMore k e (row_of k present v bs) left first same
  others-hold item joins h l f q = rw (f, l, presence-of k present v bs, q) h

  pub all-written : (item joins : Bool) (n : ℕ) → 0 < n → {len : ℕ} → len ≡ length (item_of k (row_of k present v bs))
      → {first : Counted} → first ≡ grown e r (cond present 1 0) len item joins → {b : Lent} → b ≡ laid k e r (row_of k present v bs) item joins key a
      → {x : Stage} → x ≡ times_more k e (row_of k present v bs) key (n - 1) (stage first b) → x ≡ times k e (row_of k present v bs) item joins key n (stage r a)
  unfolding one_more
  all-written item joins n p l f b x =
      rw (f, b, l, presence-of k present v bs) at x ∙ sym (times-in-two k e (row_of k present v bs) item joins key n (stage r a) (λ z. omega (arith, p, z)))

-- ---- one row: the slots of its item and of its run are there
module _ (k : Kind) (e : Encoding) (row : Row) (item joins : Bool) (r : Counted) (a : Lent) where
  module _ (h : HoldsRow k e row item joins r (room_of a)) where
    pub item-slots : item ≡ true → {i : ℕ} → i ≡ stored_by e r → {f : Bool} → f ≡ flagged e
        → {len : ℕ} → len ≡ length (item_of k row) → Stores k f i r.bytes row len a.items a.ends a.flags a.lens
    item-slots t s f l =
        rw (s, f, l) (stores k e r a (presence row) (length (item_of k row)) item joins h.unless h.within h.room row h.fit refl t)

    pub run-slots : coded e ≡ true → {d : Bool} → d ≡ keyed e → Counts r d joins a.counts a.keys
    run-slots c q = counts k e r a (presence row) (length (item_of k row)) item joins h.unless h.within h.room h.joinable c q

    -- its item, if it is stored, isn't longer than any block
    pub item-short : {len : ℕ} → len ≡ length (item_of k row) → item ≡ true → len ≤ MOST_BYTES
    item-short l t = rw l (go (item && ltb MOST_BYTES (length (item_of k row))) refl)
      where
        go : (b : Bool) → b ≡ (item && ltb MOST_BYTES (length (item_of k row))) → length (item_of k row) ≤ MOST_BYTES
        go true q = clash (sym (item-past k e r (presence row) (length (item_of k row)) item joins h.unless q refl) ∙ h.within)
        go false q = long-not item (length (item_of k row)) q refl t

  -- what is then written
  pub row_laid :
      {i : ℕ} → i ≡ stored_by e r → {f : Bool} → f ≡ flagged e → {b : Bool} → b ≡ coded e → {d : Bool} → d ≡ keyed e
      → (key : ℤ) {is es fs cs ls : List ℕ} {ks : List ℤ}
      → (is ≡ cond item (over a.items r.bytes (item_of k row)) a.items)
      × ((es ≡ cond item (ends_with k i (r.bytes + length (item_of k row)) a.ends) a.ends)
      × ((fs ≡ cond (item && f) (flags_with i (presence row) a.flags) a.flags) × (ls ≡ cond item (lens_with k i (length (bytes_in row)) a.lens) a.lens)))
      → cs ≡ cond b (counts_with r.runs r.last joins a.counts) a.counts
      → ks ≡ cond (d && not joins) (set a.keys r.runs key) a.keys
      → lent is es fs cs ks ls ≡ laid k e r row item joins key a
  unfolding laid
  row_laid s f c d key put counts keys = rw (put.0, put.1.0, put.1.1.0, put.1.1.1, counts, keys, s, f, c, d)

-- one row more that joins no run is such a row
pub alone-holds : (k : Kind) (e : Encoding) (row : Row) (r : Counted) (m : Room) → joins_again e r ≡ false → HoldsMore k e row 1 r m
    → {x : Bool} → x ≡ keyed e → HoldsRow k e row (not x) false r m
unfolding grown_times
alone-holds k e row r m j h q =
    let same = begun-again e r (presence row) (length (item_of k row)) j q refl in
    record {
      fit = h.fit;
      within = ap (past_limits k e) same ∙ h.within;
      room = ap (λ (s : Counted). too_short k e s m) same ∙ h.room;
      joinable = λ t. clash (sym t);
      unless = λ t. ap not (q ∙ t);
    }

-- ---- areas that are as long
abbrev pub SameLengths : Lent → Lent → Type 0
SameLengths a b =
    (length a.items ≡ length b.items) × (length a.ends ≡ length b.ends) × (length a.flags ≡ length b.flags)
    × (length a.counts ≡ length b.counts) × (length a.keys ≡ length b.keys) × (length a.lens ≡ length b.lens)

pub same-room : (a b : Lent) → SameLengths a b → room_of a ≡ room_of b
unfolding room_of
same-room a b h = rw (h.0, h.1, h.2, h.3, h.4, h.5)

pub same-lengths : (a b : Lent) → room_of a ≡ room_of b → SameLengths a b
unfolding room_of
same-lengths a b h = (
  ap (λ (m : Room). m.items) h,
  ap (λ (m : Room). m.ends) h,
  ap (λ (m : Room). m.flags) h,
  ap (λ (m : Room). m.counts) h,
  ap (λ (m : Room). m.keys) h,
  ap (λ (m : Room). m.lens) h,
)

-- ---- all of them, part by part
pub record Going (k : Kind) (e : Encoding) (row : Row) (key : ℤ) (all : Stage) (m : Room) (r : Counted) (a : Lent) (left : ℕ) : Type 0 where
  pub same : times_more k e row key left (stage r a) ≡ all
  pub holds : HoldsMore k e row left r m
  pub long : room_of a ≡ m

module _ {k : Kind} {e : Encoding} {row : Row} {key : ℤ} {all : Stage} {m : Room} {r : Counted} {a : Lent} {left : ℕ} (g : Going k e row key all m r a left) where
  pub part-asks : HoldsMore k e row left r (room_of a)
  part-asks = rw g.long g.holds

  pub going_on : (t : ℕ) → t ≤ left → {x : Counted} {b : Lent} → stage x b ≡ times_more k e row key t (stage r a) → room_of b ≡ room_of a
      → Going k e row key all m x b (left - t)
  going_on t l {x} {b} q p = record {
    same = ap (times_more k e row key (left - t)) q ∙ sym (more-in-parts k e row key t (left - t) (stage r a)) ∙ ap (λ (i : ℕ). times_more k e row key i (stage r a)) rest ∙ g.same;
    holds = the_rest k e row left r m g.holds t l (ap (λ (s : Stage). s.counted) q ∙ counted-more k e row key t (stage r a));
    long = p ∙ g.long;
  }
    where
      rest : t + (left - t) ≡ left
      rest = omega arith

  pub going_done : left ≡ 0 → stage r a ≡ all
  unfolding times_more
  going_done z = rw z at g.same
