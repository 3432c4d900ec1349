-- The next rows, by the count of the run that reading stands in: none, that run so many times, or that run to its end and then the next.
-- Assumes nothing.
use Rattle.std.specs.Prelude.{Option, Some, None}
use Prim.Native.Nat.{ℕ, zero, suc, ◌+◌, ◌-◌, ◌≤◌, ◌<◌}
use native.Mathlib.Nat.{add-zero}
use native.Mathlib.Omega.{arith}
use mathlib.Core.Bool.{Bool, true, false, cond, ◌&&◌}
use mathlib.Core.List.{List, [], ◌∷◌}
use mathlib.Core.Logic.{⊎_elim}
use mathlib.Core.Path.{◌≡◌, refl, sym, ap, ◌∙◌}
use lib.Dec.{ltb, eqb}
use lib.ListN.{replicate}
use borrow.Author.Tests.{lt-ltb, le-ltb, eq-eqb, ne_eqb}
use Rattle.varint.specs.declared.Count.{Count}
use Rattle.varint.specs.Varint.{count_at, counted}
use Rattle.area.proofs.Laws.{lt-or-ge}
use Rattle.rle.specs.declared.Spot.{Spot}
use Rattle.rle.specs.Stepping.{spot, none, row, stuck, rows, leave, one, before, and_then, here, settle, next, steps_from}
use Rattle.rle.proofs.Steps.{before-nil, before-before}

-- ---- leaving a run
stays : (v len r p t : ℕ) → (v ≡ t → ⊥) → leave (counted v len) (spot r p t) ≡ spot r p t
unfolding leave
stays v len r p t h = go (ltb 0 v)
  where
    go : (b : Bool) → cond (b && eqb v t) (spot (r + 1) (p + len) 0) (spot r p t) ≡ spot r p t
    go true = simp (ne_eqb _ _ h)
    go false = refl

stays-zero : (len r p t : ℕ) → leave (counted 0 len) (spot r p t) ≡ spot r p t
unfolding leave
stays-zero len r p t = refl

goes : (v len r p t : ℕ) → 0 < v → v ≡ t → leave (counted v len) (spot r p t) ≡ spot (r + 1) (p + len) 0
unfolding leave
goes v len r p t h e = simp (lt-ltb _ _ h, eq-eqb _ _ e)

fresh : (c : Option Count) (r p : ℕ) → leave c (spot r p 0) ≡ spot r p 0
unfolding leave
fresh None r p = refl
fresh (Some c) r p = go c.value
  where
    go : (v : ℕ) → leave (counted v c.len) (spot r p 0) ≡ spot r p 0
    go zero = refl
    go (suc v) = stays (suc v) c.len r p 0 (λ e. omega arith)

module _ (runs : ℕ) (counts : List ℕ) where
  -- ---- one row
  pub here-past : (s : Spot) → runs ≤ s.run → here runs counts s ≡ None
  unfolding here
  here-past s h = simp (le-ltb _ _ h)

  pub here-is : (s : Spot) {c : Option Count} → s.run < runs → c ≡ count_at counts s.at → here runs counts s ≡ c
  unfolding here
  here-is s h e = simp (lt-ltb _ _ h) (sym e)

  -- by the count there, and the place after leaving
  by : (s t : Spot) {c : Option Count} → here runs counts s ≡ c → leave c s ≡ t → next runs counts s ≡ one (here runs counts t) t
  unfolding next settle
  by s t e l = rw (e, l)

  next-fresh : (r p : ℕ) → next runs counts (spot r p 0) ≡ one (here runs counts (spot r p 0)) (spot r p 0)
  next-fresh r p = by (spot r p 0) (spot r p 0) refl (fresh _ r p)

  pub none-bad : (s : Spot) → here runs counts s ≡ None → next runs counts s ≡ none
  unfolding leave one
  none-bad s e = by s s e refl ∙ rw e

  module _ (r p t : ℕ) {v len : ℕ} (h : r < runs) (e : counted v len ≡ count_at counts p) where
    is : here runs counts (spot r p t) ≡ counted v len
    is = here-is (spot r p t) h e

    stay : (v ≡ t → ⊥) → next runs counts (spot r p t) ≡ one (counted v len) (spot r p t)
    stay n = by (spot r p t) (spot r p t) is (stays v len r p t n) ∙ rw is

    pub none-zero : v ≡ 0 → next runs counts (spot r p t) ≡ none
    unfolding one
    none-zero z =
        let i : here runs counts (spot r p t) ≡ counted 0 len = is ∙ rw z in
        by (spot r p t) (spot r p t) i (stays-zero len r p t) ∙ rw i (simp (le-ltb t 0 (omega arith)))

    pub none_below : v < t → next runs counts (spot r p t) ≡ none
    unfolding one
    none_below b = stay (λ q. omega arith) ∙ simp (le-ltb t v (omega arith))

    next-in : t + 1 < v → next runs counts (spot r p t) ≡ row r (spot r p (t + 1))
    unfolding one
    next-in b = stay (λ q. omega arith) ∙ simp (lt-ltb t v (omega arith), stays v len r p (t + 1) (λ q. omega arith))

    next_last : t + 1 ≡ v → next runs counts (spot r p t) ≡ row r (spot (r + 1) (p + len) 0)
    unfolding one
    next_last b = stay (λ q. omega arith) ∙ simp (lt-ltb t v (omega arith), goes v len r p (t + 1) (omega arith) (sym b))

    next-used : 0 < v → v ≡ t → next runs counts (spot r p t) ≡ next runs counts (spot (r + 1) (p + len) 0)
    next-used z b = by (spot r p t) (spot (r + 1) (p + len) 0) is (goes v len r p t z b) ∙ sym (next-fresh (r + 1) (p + len))

  -- ---- some rows
  step : (n : ℕ) (s t : Spot) (i : ℕ) → next runs counts s ≡ row i t
      → steps_from runs counts (suc n) s ≡ before (i ∷ []) (steps_from runs counts n t)
  unfolding steps_from and_then
  step n s t i e = rw e

  same : (n : ℕ) (s t : Spot) → next runs counts s ≡ next runs counts t → steps_from runs counts (suc n) s ≡ steps_from runs counts (suc n) t
  unfolding steps_from
  same n s t e = rw e

  pub stops : (n : ℕ) (s : Spot) → 0 < n → next runs counts s ≡ none → steps_from runs counts n s ≡ stuck
  unfolding steps_from and_then
  stops zero s p e = absurd (omega arith)
  stops (suc n) s p e = rw e

  -- past the last run there are no rows
  pub past-runs : (n : ℕ) (s : Spot) → 0 < n → runs ≤ s.run → steps_from runs counts n s ≡ stuck
  past-runs n s p h = stops n s p (none-bad s (here-past s h))

  module _ (r p : ℕ) {v len : ℕ} (h : r < runs) (e : counted v len ≡ count_at counts p) where
    -- k rows of a run that has more
    pub rows_in : (k t : ℕ) → t + k < v → steps_from runs counts k (spot r p t) ≡ rows (replicate k r) (spot r p (t + k))
    unfolding steps_from before
    rows_in zero t b = rw add-zero
    rows_in (suc k) t b =
        let q : t + 1 + k < v = omega arith in
        let m : t + 1 + k ≡ t + suc k = omega arith in
        step k (spot r p t) (spot r p (t + 1)) r (next-in r p t h e (omega arith)) ∙ rw (rows_in k (t + 1) q, m)

    -- the rest of a run, and rows behind it
    rows_out : (k m t : ℕ) → t + suc k ≡ v
        → steps_from runs counts (suc k + m) (spot r p t) ≡ before (replicate (suc k) r) (steps_from runs counts m (spot (r + 1) (p + len) 0))
    rows_out zero m t b =
        let a : suc zero + m ≡ suc m = omega arith in
        rw a (step m (spot r p t) (spot (r + 1) (p + len) 0) r (next_last r p t h e (omega arith)))
    rows_out (suc k) m t b =
        let a : suc (suc k) + m ≡ suc (suc k + m) = omega arith in
        let q : t + 1 + suc k ≡ v = omega arith in
        rw (a, step (suc k + m) (spot r p t) (spot r p (t + 1)) r (next-in r p t h e (omega arith)), rows_out k m (t + 1) q)
        (before-before (r ∷ []) (replicate (suc k) r) _)

    rows-rest : (n t k : ℕ) → v - t ≡ suc k → suc k ≤ n
        → steps_from runs counts n (spot r p t) ≡ before (replicate (v - t) r) (steps_from runs counts (n - (v - t)) (spot (r + 1) (p + len) 0))
    rows-rest n t k i d =
        let j : n ≡ suc k + (n - suc k) = omega arith in
        rw i (ap (λ (x : ℕ). steps_from runs counts x (spot r p t)) j ∙ rows_out k (n - suc k) t (omega arith))

    -- a run is passed: its rows that are left, be they none, and the others behind it
    pub rows-past : (n t : ℕ) → 0 < n → 0 < v → t ≤ v → v - t ≤ n
        → steps_from runs counts n (spot r p t) ≡ before (replicate (v - t) r) (steps_from runs counts (n - (v - t)) (spot (r + 1) (p + len) 0))
    rows-past zero t a b c d = absurd (omega arith)
    rows-past (suc n) t a b c d = ⊎_elim
        (λ (l : t < v). rows-rest (suc n) t (v - t - 1) (omega arith) (omega arith))
        (λ (g : v ≤ t).
        let i : v - t ≡ 0 = omega arith in
        let j : suc n - 0 ≡ suc n = omega arith in
        same n (spot r p t) (spot (r + 1) (p + len) 0) (next-used r p t h e b (omega arith)) ∙ rw (i, j) (sym (before-nil _)))
        (lt-or-ge t v)
