-- The runs of a list of rows: spread out again they are the rows; a count is between 1 and 4,294,967,295; the counts' bytes are walked and read
-- back as they were written. Assumes nothing.
use Rattle.std.specs.Prelude.{Ok}
use Prim.Native.Nat.{ℕ, zero, suc, ◌+◌, ◌-◌, ◌^◌, ◌<◌}
use native.Mathlib.Nat.{zero-add, add-zero}
use native.Mathlib.Numerals.{add-one}
use native.Mathlib.Omega.{arith}
use mathlib.Core.Bool.{Bool, true, false, cond, ◌&&◌, and-eq-true_iff}
use mathlib.Core.List.{List, [], ◌∷◌, ◌++◌, map}
use mathlib.Core.Path.{◌≡◌, refl, sym, ap, ◌∙◌}
use lib.Dec.{ltb}
use lib.ListN.{length, get_or, replicate, length-append, length-replicate}
use lib.Seq.{drop-append_seam}
use borrow.Author.Tests.{ltb-true}
use Rattle.limits.specs.Limits.{MOST_COUNT}
use Rattle.varint.specs.Varint.{count_of, count_at, spelling, counted}
use Rattle.varint.proofs.Within.{at-within}
use Rattle.varint.proofs.RoundTrip.{round_trip}
use Rattle.plain.specs.Each.{Each}
use Rattle.plain.specs.Rows.{Row, null, same}
use Rattle.plain.specs.Plain.{joined}
use Rattle.plain.proofs.Same.{same-equal}
use Rattle.rle.specs.RunLength.{Run, run, runs_from, runs_of, counts_of, plus, walked, as_often, run_numbers}
use Rattle.rle.proofs.Walking.{good-run}
use Rattle.rle.proofs.Folds.{map_rows}
use Rattle.format.specs.Sizes.{run_rows}

-- ---- the rows of some runs
unfoldable pub spread : List Run → List Row
spread [] = []
spread (r ∷ rs) = replicate r.count r.row ++ spread rs

one_more : {A : Type 0} (n : ℕ) (x : A) (xs : List A) → replicate (n + 1) x ++ xs ≡ replicate n x ++ (x ∷ xs)
one_more n x xs = rw (add-one n) (go n)
  where
    go : (n : ℕ) → replicate (suc n) x ++ xs ≡ replicate n x ++ (x ∷ xs)
    go zero = refl
    go (suc n) = ap (λ l. x ∷ l) (go n)

spread-from : (r : Row) (n : ℕ) (xs : List Row) → spread (runs_from r n xs) ≡ replicate n r ++ xs
unfolding spread runs_from
spread-from r n [] = refl
spread-from r n (x ∷ xs) = go (same r x && ltb n MOST_COUNT) refl (spread-from r (n + 1) xs) (spread-from x 1 xs)
  where
    go : (t : Bool) → same r x && ltb n MOST_COUNT ≡ t
        → spread (runs_from r (n + 1) xs) ≡ replicate (n + 1) r ++ xs → spread (runs_from x 1 xs) ≡ x ∷ xs
        → spread (cond t (runs_from r (n + 1) xs) (run r n ∷ runs_from x 1 xs)) ≡ replicate n r ++ (x ∷ xs)
    go true e p q =
        let i : r ≡ x = same-equal r x ((and-eq-true_iff (same r x) (ltb n MOST_COUNT)).0 e).0 in
        p ∙ one_more n r xs ∙ ap (λ (y : Row). replicate n r ++ (y ∷ xs)) i
    go false e p q = ap (λ (l : List Row). replicate n r ++ l) q

pub spread-runs : (rows : List Row) → spread (runs_of rows) ≡ rows
unfolding runs_of spread
spread-runs [] = refl
spread-runs (x ∷ xs) = spread-from x 1 xs

-- ---- counts that a varint of 32 bits holds
abbrev pub Counted : Run → Type 0
Counted r = (0 < r.count) × (r.count < 2 ^ 32)

counted-from : (r : Row) (n : ℕ) (xs : List Row) → 0 < n → n < 2 ^ 32 → Each Counted (runs_from r n xs)
unfolding runs_from
counted-from r n [] a b = ((a, b), tt)
counted-from r n (x ∷ xs) a b =
    go (same r x && ltb n MOST_COUNT) refl (λ c. counted-from r (n + 1) xs (omega arith) c) (counted-from x 1 xs (omega arith) (omega arith))
  where
    go : (t : Bool) → same r x && ltb n MOST_COUNT ≡ t → (n + 1 < 2 ^ 32 → Each Counted (runs_from r (n + 1) xs)) → Each Counted (runs_from x 1 xs)
        → Each Counted (cond t (runs_from r (n + 1) xs) (run r n ∷ runs_from x 1 xs))
    go true e p q =
        let l : n < MOST_COUNT = ltb-true n MOST_COUNT ((and-eq-true_iff (same r x) (ltb n MOST_COUNT)).0 e).1 in
        p (omega arith)
    go false e p q = ((a, b), q)

pub counted-runs : (rows : List Row) → Each Counted (runs_of rows)
unfolding runs_of
counted-runs [] = tt
counted-runs (x ∷ xs) = counted-from x 1 xs (omega arith) (omega arith)

-- ---- what holds of each row holds of each run's row
module _ (P : Row → Type 0) where
  each_from : (r : Row) (n : ℕ) (xs : List Row) → P r → Each P xs → Each P (map (λ q. q.row) (runs_from r n xs))
  unfolding runs_from
  each_from r n [] h k = (h, tt)
  each_from r n (x ∷ xs) h k = go (same r x && ltb n MOST_COUNT) (each_from r (n + 1) xs h k.1) (each_from x 1 xs k.0 k.1)
    where
      go : (t : Bool) → Each P (map (λ q. q.row) (runs_from r (n + 1) xs)) → Each P (map (λ q. q.row) (runs_from x 1 xs))
          → Each P (map (λ q. q.row) (cond t (runs_from r (n + 1) xs) (run r n ∷ runs_from x 1 xs)))
      go true p q = p
      go false p q = (h, q)

  pub each-run : (rows : List Row) → Each P rows → Each P (run_rows rows)
  unfolding runs_of run_rows
  each-run [] h = tt
  each-run (x ∷ xs) h = each_from x 1 xs h.0 h.1

-- ---- the bytes of the counts
module _ (r : Run) (rs : List Run) (c : Counted r) where
  abbrev first : List ℕ
  first = spelling r.count

  read_first : count_of (first ++ counts_of rs) ≡ counted r.count (length first)
  read_first = round_trip r.count (counts_of rs) c.1

  -- the walk adds the first count to what the rest comes to
  walk_first : (n : ℕ) → walked (suc n) (first ++ counts_of rs) ≡ plus r.count (walked n (counts_of rs))
  unfolding count_at
  walk_first n =
      let b : List ℕ = first ++ counts_of rs in
      let w = at-within b 0 r.count (length first) (sym read_first) (omega arith) in
      let g = good-run b 0 (suc n) r.count (length first) (omega arith) (omega arith) (sym read_first) (λ z. omega (arith, c.0)) in
      let m : suc n - 1 ≡ n = omega arith in
      g ∙ rw (m, zero-add (length first), drop-append_seam first (counts_of rs))

  -- the rows of the first run, and then the others'
  number-first :
      (n i : ℕ) → run_numbers (suc n) i (first ++ counts_of rs) ≡ replicate r.count i ++ run_numbers n (suc i) (counts_of rs)
  unfolding run_numbers as_often
  number-first n i = rw (read_first, drop-append_seam first (counts_of rs))

pub walk-runs : (rs : List Run) → Each Counted rs → walked (length rs) (counts_of rs) ≡ Ok (length (spread rs))
unfolding spread counts_of joined plus
walk-runs [] h = unfold walked in refl
walk-runs (r ∷ rs) h =
    walk_first r rs h.0 (length rs)
    ∙ ap (plus r.count) (walk-runs rs h.1)
    ∙ ap Ok (sym (length-append (replicate r.count r.row) (spread rs)
    ∙ ap (λ (n : ℕ). n + length (spread rs)) (length-replicate r.count r.row)))

-- what a function gives of each row's run is what another gives of the row, if they agree on each run and its row
pub over_runs :
    {B : Type 0} (f : ℕ → B) (g : Row → B) (rs : List Run) (i : ℕ) → Each Counted rs
    → ((j : ℕ) → j < length rs → f (i + j) ≡ g (get_or (map (λ r. r.row) rs) j null))
    → map f (run_numbers (length rs) i (counts_of rs)) ≡ map g (spread rs)
unfolding spread counts_of joined
over_runs f g [] i h k = unfold run_numbers in refl
over_runs {B} f g (r ∷ rs) i h k =
    let e : f i ≡ g r.row = ap f (sym (add-zero i)) ∙ k 0 (omega arith) in
    ap (map f) (number-first r rs h.0 (length rs) i)
    ∙ map_rows f r.count i (run_numbers (length rs) (suc i) (counts_of rs))
    ∙ ap (λ (l : List B). replicate r.count (f i) ++ l)
    (over_runs f g rs (suc i) h.1 (λ j l. let m : suc i + j ≡ i + suc j = omega arith in rw m (k (suc j) (omega arith))))
    ∙ ap (λ (x : B). replicate r.count x ++ map g (spread rs)) e
    ∙ sym (map_rows g r.count r.row (spread rs))
