-- A row that is found, appended n times: the answer on each way through the code, and what its parts ask. Assumes nothing.
use Prim.Native.Nat.{ℕ, ◌-◌, ◌<◌}
use native.Mathlib.Omega.{arith}
use mathlib.Core.Path.{◌≡◌, refl, sym, ap, ◌∙◌}
use mathlib.Core.Bool.{Bool, true, false, cond, not}
use mathlib.Core.List.{List}
use lib.IntN.{ℤ}
use lib.ListN.{length}
use Rattle.limits.specs.Limits.{MOST_COUNT}
use Rattle.limits.specs.Refusals.{ROOM}
use Rattle.encode.specs.declared.Kind.{Kind}
use Rattle.encode.proofs.Bools.{clash}
use Rattle.plain.specs.Rows.{Row, row_of}
use Rattle.plain.specs.Plain.{item_of}
use Rattle.nullable.specs.Nullable.{presence}
use Rattle.format.specs.declared.Encoding.{Encoding}
use Rattle.format.specs.declared.Encoding.TheVariants.{Plain, Nullable, RunLength, RunLengthNullable, Dictionary}
use Rattle.needs.specs.declared.Counted.{Counted}
use Rattle.needs.specs.declared.Room.{Room}
use Rattle.needs.specs.Needs.{coded, keyed, counts_past, past_limits, record_wrong, too_short}
use Rattle.needs.proofs.Limits.{within}
use Rattle.step.specs.Steps.{adds, step_of}
use Rattle.step.specs.Counting.{Next, grown, next_of, counted_by}
use Rattle.step.proofs.Steps.{adds_same, step-says, some}
use Rattle.append.specs.Appending.{Lent, room_of, held_in, added_to, added_with}
use Rattle.append.specs.Asking.{Found}
use Rattle.append.proofs.Passed.{are-right, presence-of, limits-kept, with-refused}
use Rattle.copies.specs.Copies.{Stage, stage, one_more, times, added_times}
use Rattle.copies.specs.Stretch.{grown_times, limited}
use Rattle.copies.proofs.Growing.{within-before, room-before}
use Rattle.copies.proofs.Stretches.{times-in-two, counted-more, more-no-less}
use Rattle.copies.proofs.Numbers.{first_runs}
use Rattle.copies_laws.proofs.Answers.{found-answer, found_none, with-done}
use Rattle.written_times.specs.Writing.{HoldsAll}

-- ---- the row that was passed on as the bits of its integer shows as another, which is the same
module _ (k : Kind) (e : Encoding) (item joins : Bool) (n : ℕ) {passed row : Row} (q : passed ≡ row) where
  pub holds-passed : {r : Counted} {m : Room} → HoldsAll k e row item joins n r m → HoldsAll k e passed item joins n r m
  holds-passed h = rw q h

  pub length-passed : {len : ℕ} → len ≡ length (item_of k row) → len ≡ length (item_of k passed)
  length-passed l = rw q l

  pub times-passed : {key key' : ℤ} → key' ≡ key → (g : Stage) {x : Stage} → x ≡ times k e passed item joins key' n g → x ≡ times k e row item joins key n g
  times-passed p g h = rw (q, p) at h

-- ---- 3 for numbers that are counted in, then 4
module _ (k : Kind) (e : Encoding) (r : Counted) (m : Room) (next : Counted) {x : Next} (q : x ≡ limited k e r next) where
  within-told : x.number ≡ 0 → (x ≡ next_of 0 next) × (past_limits k e next ≡ false)
  unfolding limited
  within-told h = go (past_limits k e next) refl
    where
      go : (b : Bool) → past_limits k e next ≡ b → (x ≡ next_of 0 next) × (past_limits k e next ≡ false)
      go true p = absurd (omega (arith, sym (ap (λ (y : Next). y.number) (rw p at q)) ∙ h))
      go false p = (rw p at q, p)

  pub past-limits : (x.number ≡ 0 → ⊥) → x ≡ counted_by k e r m next
  unfolding limited counted_by
  past-limits h = go (past_limits k e next) refl
    where
      go : (b : Bool) → past_limits k e next ≡ b → x ≡ counted_by k e r m next
      go true p = q ∙ rw p
      go false p = absurd (h (ap (λ (y : Next). y.number) (rw p at q)))

  module _ (h : x.number ≡ 0) where
    pub short-asks : counts_past e x.counted ≡ false
    short-asks = let w = within-told h in ap (λ (y : Next). counts_past e y.counted) w.0 ∙ within k e next refl w.1

    module _ {b : Bool} (t : b ≡ too_short k e x.counted m) where
      same-short : b ≡ too_short k e next m
      same-short = t ∙ ap (λ (y : Next). too_short k e y.counted m) (within-told h).0

      pub no_room : b ≡ true → {y : Next} → y ≡ next_of ROOM r → y ≡ counted_by k e r m next
      unfolding counted_by
      no_room c p = rw (p, (within-told h).1, sym same-short ∙ c)

      pub has_room : b ≡ false → x ≡ counted_by k e r m next
      unfolding counted_by
      has_room c = let w = within-told h in w.0 ∙ rw (w.1, sym same-short ∙ c)

-- ---- the numbers with all n rows counted in
abbrev pub all_counted : Kind → Encoding → Counted → ℕ → Row → Bool → Bool → Counted
all_counted k e r n row item joins = grown_times e (presence row) (length (item_of k row)) (n - 1) (grown e r (presence row) (length (item_of k row)) item joins)

-- the flag and the length of its item are the row's
pub counted-row :
    (k : Kind) (e : Encoding) (r : Counted) (m : Room) (n : ℕ) (present : Bool) (v : ℤ) (bs : List ℕ) (item joins : Bool) {len : ℕ}
    → len ≡ length (item_of k (row_of k present v bs)) → {x : Next}
    → x ≡ counted_by k e r m (grown_times e (cond present 1 0) len (n - 1) (grown e r (cond present 1 0) len item joins))
    → x ≡ counted_by k e r m (all_counted k e r n (row_of k present v bs) item joins)
counted-row k e r m n present v bs item joins l q = rw (← presence-of k present v bs, ← l) q

-- ---- a row that is found
module _ (k : Kind) (e : Encoding) (r : Counted) (a : Lent) (n : ℕ) (row : Row) {item joins : Bool} {key : ℤ} (f : Found k e r a row item joins key) where
  pub none_told : n ≡ 0 → {y : Next} → y ≡ next_of 0 r → added_to y a ≡ added_times k e r a n row
  none_told z p = ap (λ (y : Next). added_to y a) p ∙ sym (ap (λ (i : ℕ). added_times k e r a i row) z ∙ found_none k e r a row f)

  -- but for a dictionary, it is stored exactly if it doesn't join; one that joins finds a run that is open
  says : (joins ≡ true → (0 < r.runs) × (r.last < MOST_COUNT)) × (keyed e ≡ false → item ≡ not joins)
  says = step-says k e r (held_in a) a.keys row f.step

  -- where rows aren't in runs, each is stored
  each-stored : coded e ≡ false → (item ≡ true) × (joins ≡ false)
  unfolding step_of coded
  each-stored c = go e c f.step
    where
      go : (e : Encoding) → coded e ≡ false → adds item joins key ≡ step_of k e r (held_in a) a.keys row → (item ≡ true) × (joins ≡ false)
      go Plain c q = let s = adds_same q in (s.0, s.1)
      go Nullable c q = let s = adds_same q in (s.0, s.1)
      go RunLength c q = clash c
      go RunLengthNullable c q = clash c
      go Dictionary c q = clash c

  module _ (z : n ≡ 0 → ⊥) where
    pub count-asks :
        (record_wrong k e r ≡ false) × (0 < n) × (joins ≡ true → (0 < r.runs) × (r.last < MOST_COUNT)) × (keyed e ≡ false → item ≡ not joins)
        × (coded e ≡ false → (item ≡ true) × (joins ≡ false))
    count-asks = (are-right k e r a f.agrees, some n z, says.0, says.1, each-stored)

    abbrev all : Counted
    all = all_counted k e r n row item joins

    abbrev written : Stage
    written = times k e row item joins key n (stage r a)

    all-counted : written.counted ≡ all
    unfolding one_more
    all-counted =
        ap (λ (g : Stage). g.counted) (times-in-two k e row item joins key n (stage r a) z)
        ∙ counted-more k e row key (n - 1) (one_more k e row item joins key (stage r a))

    -- the answer is that of the numbers with all rows counted in
    by_all : added_times k e r a n row ≡ added_with k e r a all written.areas
    by_all = found-answer k e r a n row f ∙ ap (λ (y : Counted). added_with k e r a y written.areas) all-counted

    module _ {x : Next} (q : x ≡ counted_by k e r (room_of a) all) where
      pub refused-told : (x.number ≡ 0 → ⊥) → added_to x a ≡ added_times k e r a n row
      refused-told d = with-refused k e r a all written.areas q d ∙ sym by_all

      module _ (d : x.number ≡ 0) where
        kept : (past_limits k e all ≡ false) × (too_short k e all (room_of a) ≡ false)
        kept = limits-kept k e r a all _ _ refl refl (sym (ap (λ (y : Next). y.number) q) ∙ d)

        -- what writing all of them asks
        pub write-asks : HoldsAll k e row item joins n r (room_of a)
        write-asks =
            let one : Counted = grown e r (presence row) (length (item_of k row)) item joins in
            let less = more-no-less e (presence row) (length (item_of k row)) (n - 1) one in
            record {
              right = are-right k e r a f.agrees;
              some = some n z;
              first = record {
                fit = f.fit;
                within = within-before k e one all less kept.0;
                room = room-before k e one all less (room_of a) kept.1;
                joinable = says.0;
                unless = says.1;
              };
              each = each-stored;
              others = record {
                fit = f.fit;
                within = kept.0;
                room = kept.1;
                some = λ c. first_runs e r (presence row) (length (item_of k row)) item joins c (λ j. (says.0 j).0) refl;
              };
            }

        pub all_told : {s : Counted} {b : Lent} → stage s b ≡ written → added_to (next_of 0 s) b ≡ added_times k e r a n row
        all_told p =
            ap (λ (g : Stage). added_to (next_of 0 g.counted) g.areas) p
            ∙ ap (λ (y : Counted). added_to (next_of 0 y) written.areas) all-counted
            ∙ sym (with-done k e r a all written.areas kept.0 kept.1) ∙ sym by_all
