-- What a caller's loop carries: places added one run after another, the ranges that have ended, and the lists that hold them. Assumes nothing.
use Prim.Native.Nat.{ℕ, zero, suc, ◌+◌, ◌-◌, ◌^◌, ◌≤◌, ◌<◌}
use native.Mathlib.Nat.{zero-add, add-zero}
use native.Mathlib.Omega.{arith}
use mathlib.Core.Bool.{Bool, true, false, false≢true}
use mathlib.Core.List.{List, [], ◌∷◌, ◌++◌, map, append-nil, append_assoc, map-append}
use mathlib.Core.Logic.{⊎_elim}
use mathlib.Core.Path.{◌≡◌, refl, sym, ap, ◌∙◌}
use lib.ListN.{length, take, replicate, length-append, length-map, length-replicate, length-take}
use lib.Seq.{sets, length-sets, take_all, take-nil, take-append-le}
use borrow.Author.Tests.{lt-ltb, le-ltb}
use Rattle.area.specs.Area.{over}
use Rattle.area.proofs.Laws.{lt-or-ge, sets-append, over-sets, over_none}
use Rattle.std.specs.Prelude.{Option, Some, None, unwrap_or}
use Rattle.ranges.specs.declared.Mark.{Mark}
use Rattle.ranges.specs.Ranges.{Range, range, ranges_from, ranges_of}
use Rattle.ranges.specs.Recording.{mark, noted, ended, ended_by, firsts_ended, firsts_by, lasts_ended, lasts_by, opened, passed, added, firsts_added, lasts_added, Counted, put_down, Recorded}
use Rattle.ranges.proofs.Steps.{Ends, Adds, nothing-added, marked-added, passed-added}

-- ---- numbers put down in a list
pub put-nothing : (vs : List ℕ) → put_down [] vs ≡ []
unfolding put_down
put-nothing vs = over_none [] 0

pub put-none : (xs : List ℕ) → put_down xs [] ≡ xs
unfolding put_down
put-none xs = rw take-nil (over_none xs 0)

module _ (xs vs : List ℕ) where
  pub put_whole : length vs ≤ length xs → put_down xs vs ≡ over xs 0 vs
  unfolding put_down
  put_whole h = rw (take_all (length xs) vs h)

  put-sets : put_down xs vs ≡ sets xs 0 (take (length xs) vs)
  unfolding put_down
  put-sets = sym (over-sets (take (length xs) vs) xs 0 (omega (arith, length-take (length xs) vs)))

  pub length-put : length (put_down xs vs) ≡ length xs
  length-put = ap length put-sets ∙ length-sets xs 0 (take (length xs) vs)

-- the next number at the next slot
put_next : (xs vs : List ℕ) (v : ℕ) → noted (put_down xs vs) (length vs) v ≡ put_down xs (vs ++ (v ∷ []))
unfolding noted
put_next xs vs v = ⊎_elim there behind (lt-or-ge (length vs) (length xs))
  where
    all : List ℕ
    all = vs ++ (v ∷ [])

    there : length vs < length xs → noted (put_down xs vs) (length vs) v ≡ put_down xs all
    there h =
        let a : take (length xs) vs ≡ vs = take_all (length xs) vs (omega arith) in
        let b : take (length xs) all ≡ all = take_all (length xs) all (omega (arith, length-append vs (v ∷ []))) in
        rw (put-sets xs vs, put-sets xs all, a, b, sets-append vs (v ∷ []) xs 0, zero-add, length-sets xs 0 vs, lt-ltb (length vs) (length xs) h)

    behind : length xs ≤ length vs → noted (put_down xs vs) (length vs) v ≡ put_down xs all
    behind h =
        rw (put-sets xs vs, put-sets xs all, take-append-le (length xs) vs (v ∷ []), length-sets xs 0 (take (length xs) vs), le-ltb (length vs) (length xs) h)

-- ---- the ranges of a run of places and of those behind it
still_marked : (n i f : ℕ) (rest : List Bool) → ranges_from i (Some f) (replicate n true ++ rest) ≡ ranges_from (i + n) (Some f) rest
unfolding ranges_from
still_marked zero i f rest = rw add-zero
still_marked (suc n) i f rest = let e : suc i + n ≡ i + suc n = omega arith in rw (← e) (still_marked n (suc i) f rest)

still-others : (n i : ℕ) (rest : List Bool) → ranges_from i None (replicate n false ++ rest) ≡ ranges_from (i + n) None rest
unfolding ranges_from
still-others zero i rest = rw add-zero
still-others (suc n) i rest = let e : suc i + n ≡ i + suc n = omega arith in rw (← e) (still-others n (suc i) rest)

-- a range goes on or begins
marked-run :
    (since : Option ℕ) (next n : ℕ) (rest : List Bool)
    → ranges_from next since (replicate (suc n) true ++ rest) ≡ ranges_from (next + suc n) (Some (unwrap_or since next)) rest
unfolding ranges_from
marked-run (Some first) next n rest = still_marked (suc n) next first rest
marked-run None next n rest = let e : suc next + n ≡ next + suc n = omega arith in rw (← e) (still_marked n (suc next) next rest)

-- the open range ends
others-run :
    (since : Option ℕ) (next n : ℕ) (rest : List Bool)
    → ranges_from next since (replicate (suc n) false ++ rest) ≡ ranges_from next since [] ++ ranges_from (next + suc n) None rest
unfolding ranges_from
others-run (Some first) next n rest =
    let e : suc next + n ≡ next + suc n = omega arith in
    rw (← e) (ap (λ (rs : List Range). range first (next - 1) ∷ rs) (still-others n (suc next) rest))
others-run None next n rest = still-others (suc n) next rest

-- ---- what is recorded of the places so far
pub recorded-start : (fs ls : List ℕ) → Recorded [] (mark None 0 0) fs ls fs ls
recorded-start fs ls =
    record {
      done = [];
      same = λ rest. refl;
      count = refl;
      next = refl;
      counted = record { few = omega arith; one = λ e. absurd (false≢true e); short = omega arith };
      firsts = sym (put-none fs);
      lasts = sym (put-none ls);
    }

-- one of the two numbers of each range, with that of the range that ends
ended-list :
    (get : Range → ℕ) (done : List Range) (xs : List ℕ) (r : Range) (count : ℕ) → count ≡ length done
    → noted (put_down xs (map get done)) count (get r) ≡ put_down xs (map get (done ++ (r ∷ [])))
ended-list get done xs r count c =
    rw (c, ← length-map done get, map-append get done (r ∷ [])) (put_next xs (map get done) (get r))

firsts-list :
    (done : List Range) (xs : List ℕ) (since : Option ℕ) (m : Mark) → m.count ≡ length done
    → firsts_by since m (put_down xs (map (λ r. r.first) done)) ≡ put_down xs (map (λ r. r.first) (done ++ ranges_from m.next since []))
unfolding ranges_from firsts_by
firsts-list done xs (Some f) m c = ended-list (λ r. r.first) done xs (range f (m.next - 1)) m.count c
firsts-list done xs None m c = rw append-nil

lasts-list :
    (done : List Range) (xs : List ℕ) (since : Option ℕ) (m : Mark) → m.count ≡ length done
    → lasts_by since m (put_down xs (map (λ r. r.last) done)) ≡ put_down xs (map (λ r. r.last) (done ++ ranges_from m.next since []))
unfolding ranges_from lasts_by
lasts-list done xs (Some f) m c = ended-list (λ r. r.last) done xs (range f (m.next - 1)) m.count c
lasts-list done xs None m c = rw append-nil

-- and how many they are
ended-count : (done : List Range) (since : Option ℕ) (m : Mark) → m.count ≡ length done → (ended_by since m).count ≡ length (done ++ ranges_from m.next since [])
unfolding ended_by ranges_from
ended-count done (Some f) m c = omega (arith, c, length-append done (range f (m.next - 1) ∷ []))
ended-count done None m c = rw append-nil c

-- an open range has a place that counts for it
ended-few : (since : Option ℕ) (m : Mark) → m.since ≡ since → Counted m → (ended_by since m).count ≤ m.next
unfolding ended_by
ended-few (Some f) m e k = k.one (rw e refl)
ended-few None m e k = k.few

module _ {bs : List Bool} {m : Mark} {fs₀ ls₀ fs ls : List ℕ} (f : Recorded bs m fs₀ ls₀ fs ls) where
  -- the lists stay as long as they are
  pub recorded-long : (length fs ≡ length fs₀) × (length ls ≡ length ls₀)
  recorded-long = (
    ap length f.firsts ∙ length-put fs₀ (map (λ r. r.first) f.done),
    ap length f.lasts ∙ length-put ls₀ (map (λ r. r.last) f.done),
  )

  -- with the range that ends now
  abbrev all : List Range
  all = f.done ++ ranges_from m.next m.since []

  firsts-ended : firsts_ended m fs ≡ put_down fs₀ (map (λ r. r.first) all)
  firsts-ended = rw f.firsts (firsts-list f.done fs₀ m.since m f.count)

  lasts-ended : lasts_ended m ls ≡ put_down ls₀ (map (λ r. r.last) all)
  lasts-ended = rw f.lasts (lasts-list f.done ls₀ m.since m f.count)

  pub recorded-end :
      ((ended m).count ≡ length (ranges_of bs)) × (firsts_ended m fs ≡ put_down fs₀ (map (λ r. r.first) (ranges_of bs)))
      × (lasts_ended m ls ≡ put_down ls₀ (map (λ r. r.last) (ranges_of bs)))
  recorded-end =
      let whole : ranges_of bs ≡ all = ap ranges_of (sym (append-nil bs)) ∙ f.same [] in
      rw whole (ended-count f.done m.since m f.count, firsts-ended, lasts-ended)

  length_more : (on : Bool) (n : ℕ) → m.next + n ≡ length (bs ++ replicate n on)
  length_more on n = omega (arith, f.next, length-append bs (replicate n on), length-replicate n on)

  recorded_marked : (n : ℕ) → m.next + suc n < 2 ^ 64 → Recorded (bs ++ replicate (suc n) true) (opened m (suc n)) fs₀ ls₀ fs ls
  unfolding opened
  recorded_marked n h =
      record {
        done = f.done;
        same =
            λ rest.
            ap ranges_of (append_assoc bs (replicate (suc n) true) rest)
            ∙ f.same (replicate (suc n) true ++ rest)
            ∙ ap (λ (rs : List Range). f.done ++ rs) (marked-run m.since m.next n rest);
        count = f.count;
        next = length_more true (suc n);
        counted = record { few = omega (arith, f.counted.few); one = λ e. omega (arith, f.counted.few); short = h };
        firsts = f.firsts;
        lasts = f.lasts;
      }

  recorded-others :
      (n : ℕ) → m.next + suc n < 2 ^ 64 → Recorded (bs ++ replicate (suc n) false) (passed m (suc n)) fs₀ ls₀ (firsts_ended m fs) (lasts_ended m ls)
  unfolding passed
  recorded-others n h =
      record {
        done = all;
        same =
            λ rest.
            ap ranges_of (append_assoc bs (replicate (suc n) false) rest)
            ∙ f.same (replicate (suc n) false ++ rest)
            ∙ ap (λ (rs : List Range). f.done ++ rs) (others-run m.since m.next n rest)
            ∙ sym (append_assoc f.done (ranges_from m.next m.since []) (ranges_from (m.next + suc n) None rest));
        count = ended-count f.done m.since m f.count;
        next = length_more false (suc n);
        counted = record { few = omega (arith, ended-few m.since m refl f.counted); one = λ e. absurd (false≢true e); short = h };
        firsts = firsts-ended;
        lasts = lasts-ended;
      }

  pub recorded-add :
      (on : Bool) (n : ℕ) → m.next + n < 2 ^ 64
      → Recorded (bs ++ replicate n on) (added m on n) fs₀ ls₀ (firsts_added m on n fs) (lasts_added m on n ls)
  recorded-add on zero h = let e = nothing-added m on zero fs ls refl in rw (← e.0, ← e.1.0, ← e.1.1, append-nil) f
  recorded-add true (suc n) h =
      let e = marked-added m true (suc n) fs ls (omega arith) refl refl in
      rw (← e.0, ← e.1.0, ← e.1.1) (recorded_marked n h)
  recorded-add false (suc n) h =
      let e = passed-added m false (suc n) fs ls (omega arith) refl in
      rw (← e.0, ← e.1.0, ← e.1.1) (recorded-others n h)

  -- ---- the same by what the two functions ensure
  pub recorded-added :
      {r : Mark} {fs' ls' : List ℕ} (on : Bool) (n : ℕ) → m.next + n < 2 ^ 64 → Adds m on n fs ls r fs' ls'
      → Recorded (bs ++ replicate n on) r fs₀ ls₀ fs' ls'
  recorded-added on n h e = rw (e.0, e.1.0, e.1.1) (recorded-add on n h)

  pub recorded-ended :
      {r : Mark} {fs' ls' : List ℕ} → Ends m fs ls r fs' ls'
      → (r.count ≡ length (ranges_of bs)) × (fs' ≡ put_down fs₀ (map (λ x. x.first) (ranges_of bs)))
      × (ls' ≡ put_down ls₀ (map (λ x. x.last) (ranges_of bs)))
  recorded-ended e = rw (e.0, e.1.0, e.1.1) recorded-end
