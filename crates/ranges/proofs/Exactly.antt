-- The ranges have every place that is marked and no other, and no two of them are neighbours. Assumes nothing.
use Prim.Native.Nat.{ℕ, zero, suc, ◌+◌, ◌-◌, ◌*◌, ◌≤◌, ◌<◌}
use native.Mathlib.Nat.{zero-add}
use native.Mathlib.Omega.{arith}
use mathlib.Core.Bool.{Bool, true, false, false≢true}
use mathlib.Core.List.{List, [], ◌∷◌}
use mathlib.Core.Logic.{◌↔◌, ◌⊎◌, inl, inr, ⊎_elim}
use mathlib.Core.Path.{◌≡◌, refl, sym, ◌∙◌}
use lib.ListN.{length, get_or}
use Rattle.area.proofs.Laws.{lt-or-ge}
use Rattle.std.specs.Prelude.{Option, Some, None}
use Rattle.ranges.specs.Ranges.{Range, ranges_from, ranges_of}
use Rattle.ranges.specs.Exactly.{Has, ApartFrom}

-- ---- a place that is marked, of places from i on
abbrev Marked : ℕ → List Bool → ℕ → Type 0
Marked i [] p = ⊥
Marked i (b ∷ bs) p = ((p ≡ i) × (b ≡ true)) ⊎ Marked (suc i) bs p

marked_from : (bs : List Bool) (i p : ℕ) → Marked i bs p → i ≤ p
marked_from [] i p m = absurd m
marked_from (b ∷ bs) i p (inl m) = omega arith
marked_from (b ∷ bs) i p (inr m) = let h = marked_from bs (suc i) p m in omega arith

told-marked : (bs : List Bool) (i p : ℕ) → get_or bs p false ≡ true → Marked i bs (i + p)
told-marked [] i p e = absurd (false≢true e)
told-marked (b ∷ bs) i zero e = inl (omega arith, e)
told-marked (b ∷ bs) i (suc p) e = let s : suc i + p ≡ i + suc p = omega arith in inr (rw s at (told-marked bs (suc i) p e))

marked-told : (bs : List Bool) (i p : ℕ) → Marked i bs (i + p) → get_or bs p false ≡ true
marked-told [] i p m = absurd m
marked-told (b ∷ bs) i zero (inl m) = m.1
marked-told (b ∷ bs) i zero (inr m) = absurd (omega (arith, marked_from bs (suc i) (i + 0) m))
marked-told (b ∷ bs) i (suc p) (inl m) = absurd (omega (arith, m.0))
marked-told (b ∷ bs) i (suc p) (inr m) = let s : i + suc p ≡ suc i + p = omega arith in marked-told bs (suc i) p (rw s at m)

-- ---- before the place i
abbrev Within : Option ℕ → ℕ → ℕ → Type 0
Within None i p = ⊥
Within (Some f) i p = (f ≤ p) × (p < i)

-- an open range has a place, and begins at k or behind it
abbrev From : ℕ → Option ℕ → ℕ → Type 0
From k None i = k ≤ i
From k (Some f) i = (k ≤ f) × (f < i)

-- ---- a place is in a range exactly if it is in the open one or marked
no_more : {A : Type 0} → ⊥ ⊎ A → A
no_more (inl n) = absurd n
no_more (inr a) = a

has-marked : (bs : List Bool) (i : ℕ) (o : Option ℕ) (p : ℕ) → From 0 o i → Has (ranges_from i o bs) p → Within o i p ⊎ Marked i bs p
unfolding ranges_from Has
has-marked [] i None p b h = absurd h
has-marked [] i (Some f) p b (inl h) = inl (h.0, omega arith)
has-marked [] i (Some f) p b (inr h) = absurd h
has-marked (true ∷ bs) i None p b h = inr (⊎_elim (λ w. inl (omega arith, refl)) inr (has-marked bs (suc i) (Some i) p (omega arith, omega arith) h))
has-marked (true ∷ bs) i (Some f) p b h =
    ⊎_elim (λ w. ⊎_elim (λ l. inl (w.0, l)) (λ g. inr (inl (omega arith, refl))) (lt-or-ge p i)) (λ m. inr (inr m))
    (has-marked bs (suc i) (Some f) p (omega arith, omega arith) h)
has-marked (false ∷ bs) i None p b h = inr (inr (no_more (has-marked bs (suc i) None p (omega arith) h)))
has-marked (false ∷ bs) i (Some f) p b (inl h) = inl (h.0, omega arith)
has-marked (false ∷ bs) i (Some f) p b (inr h) = inr (inr (no_more (has-marked bs (suc i) None p (omega arith) h)))

not-here : {A B : Type 0} → (A × (false ≡ true)) ⊎ B → B
not-here (inl m) = absurd (false≢true m.1)
not-here (inr b) = b

marked-has : (bs : List Bool) (i : ℕ) (o : Option ℕ) (p : ℕ) → From 0 o i → Within o i p ⊎ Marked i bs p → Has (ranges_from i o bs) p
unfolding ranges_from Has
marked-has [] i None p b w = no_more w
marked-has [] i (Some f) p b (inl w) = inl (w.0, omega arith)
marked-has [] i (Some f) p b (inr m) = absurd m
marked-has (true ∷ bs) i None p b w =
    marked-has bs (suc i) (Some i) p (omega arith, omega arith) (⊎_elim (λ m. inl (omega arith, omega arith)) inr (no_more w))
marked-has (true ∷ bs) i (Some f) p b (inl w) = marked-has bs (suc i) (Some f) p (omega arith, omega arith) (inl (w.0, omega arith))
marked-has (true ∷ bs) i (Some f) p b (inr w) =
    marked-has bs (suc i) (Some f) p (omega arith, omega arith) (⊎_elim (λ m. inl (omega arith, omega arith)) inr w)
marked-has (false ∷ bs) i None p b w = marked-has bs (suc i) None p (omega arith) (inr (not-here (no_more w)))
marked-has (false ∷ bs) i (Some f) p b (inl w) = inl (w.0, omega arith)
marked-has (false ∷ bs) i (Some f) p b (inr w) = inr (marked-has bs (suc i) None p (omega arith) (inr (not-here w)))

-- A place is in one of the ranges exactly if it is marked.
pub in-a-range-exactly : (bs : List Bool) (i : ℕ) → (get_or bs i false ≡ true) ↔ Has (ranges_of bs) i
in-a-range-exactly bs i = (
  λ e. marked-has bs 0 None i (omega arith) (inr (rw zero-add at (told-marked bs 0 i e))),
  λ h. marked-told bs 0 i (rw zero-add (no_more (has-marked bs 0 None i (omega arith) h))),
)

-- ---- no two ranges are neighbours
apart_from : (bs : List Bool) (k i : ℕ) (o : Option ℕ) → From k o i → ApartFrom k (ranges_from i o bs)
unfolding ranges_from ApartFrom
apart_from [] k i None h = tt
apart_from [] k i (Some f) h = (h.0, omega arith, tt)
apart_from (true ∷ bs) k i None h = apart_from bs k (suc i) (Some i) (h, omega arith)
apart_from (true ∷ bs) k i (Some f) h = apart_from bs k (suc i) (Some f) (h.0, omega arith)
apart_from (false ∷ bs) k i None h = apart_from bs k (suc i) None (omega arith)
apart_from (false ∷ bs) k i (Some f) h = (h.0, omega arith, apart_from bs (i - 1 + 2) (suc i) None (omega arith))

-- Ranges ascend, and behind each lies a place that none has: so they are as long as they can be.
pub ranges_apart : (bs : List Bool) → ApartFrom 0 (ranges_of bs)
ranges_apart bs = apart_from bs 0 0 None (omega arith)

-- There are no ranges exactly if no place is marked.
pub none-marked : (bs : List Bool) → (ranges_of bs ≡ []) ↔ ((i : ℕ) → get_or bs i false ≡ false)
unfolding Has ApartFrom
none-marked bs = (λ e i. not-marked e i (get_or bs i false) refl, λ h. no-ranges h (ranges_of bs) refl)
  where
    not-marked : ranges_of bs ≡ [] → (i : ℕ) (b : Bool) → get_or bs i false ≡ b → get_or bs i false ≡ false
    not-marked e i true m = absurd (rw e at ((in-a-range-exactly bs i).0 m))
    not-marked e i false m = m

    no-ranges : ((i : ℕ) → get_or bs i false ≡ false) → (rs : List Range) → ranges_of bs ≡ rs → ranges_of bs ≡ []
    no-ranges h [] e = e
    no-ranges h (r ∷ rs) e =
        let a : ApartFrom 0 (r ∷ rs) = rw e at (ranges_apart bs) in
        let there : Has (r ∷ rs) r.first = inl (omega arith, a.1) in
        absurd (false≢true (sym (h r.first) ∙ (in-a-range-exactly bs r.first).1 (rw e there)))

-- ---- how many ranges there are at most: between two of them lies a place that isn't marked
slack_of : Option ℕ → ℕ
slack_of None = 1
slack_of (Some f) = 2

few-from : (bs : List Bool) (i : ℕ) (o : Option ℕ) → 2 * length (ranges_from i o bs) ≤ length bs + slack_of o
unfolding ranges_from slack_of
few-from [] i None = omega arith
few-from [] i (Some f) = omega arith
few-from (true ∷ bs) i None = omega (arith, few-from bs (suc i) (Some i))
few-from (false ∷ bs) i None = omega (arith, few-from bs (suc i) None)
few-from (true ∷ bs) i (Some f) = omega (arith, few-from bs (suc i) (Some f))
few-from (false ∷ bs) i (Some f) = omega (arith, few-from bs (suc i) None)

pub few-ranges : (bs : List Bool) → 2 * length (ranges_of bs) ≤ length bs + 1
unfolding slack_of
few-ranges bs = few-from bs 0 None
