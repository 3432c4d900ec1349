-- Steps: rows in front of others, how many rows there are, which runs they lie in, and how they split. Assumes nothing.
use Rattle.std.specs.Prelude.{Option, Some, None}
use Prim.Native.Nat.{ℕ, zero, suc, ◌+◌, ◌≤◌, ◌<◌}
use native.Mathlib.Nat.{add-zero, zero-add, suc-add}
use native.Mathlib.Numerals.{add-one}
use native.Mathlib.Omega.{arith}
use mathlib.Core.Bool.{Bool, true, false, cond, ◌&&◌}
use mathlib.Core.List.{List, [], ◌∷◌, ◌++◌, append_assoc}
use mathlib.Core.Path.{◌≡◌, refl, sym, ap, subst, ◌∙◌}
use lib.Dec.{ltb, eqb}
use lib.ListN.{length, take, drop, replicate}
use lib.Seq.{take_at, drop_at}
use borrow.Author.Tests.{ltb-true}
use Rattle.plain.specs.Plain.{places}
use Rattle.varint.specs.declared.Count.{Count}
use Rattle.varint.specs.Varint.{count_at}
use Rattle.rle.specs.declared.Spot.{Spot}
use Rattle.rle.specs.Stepping.{spot, Step, none, row, Steps, stuck, rows, leave, one, before, and_then, here, settle, next, steps_from}
use Rattle.rle.specs.Pieces.{steps_in, reached}

-- ---- rows in front of others
pub before-nil : (w : Steps) → before [] w ≡ w
unfolding before
before-nil stuck = refl
before-nil (rows is t) = refl

pub before-before : (is js : List ℕ) (w : Steps) → before is (before js w) ≡ before (is ++ js) w
unfolding before
before-before is js stuck = refl
before-before is js (rows ks t) = rw append_assoc

pub reached-before : (is : List ℕ) (w : Steps) → reached (before is w) ≡ reached w
unfolding before reached
reached-before is stuck = refl
reached-before is (rows js t) = refl

-- what stands behind rows
pub record Behind (is : List ℕ) (w : Steps) (js : List ℕ) (t : Spot) : Type 0 where
  pub rest : List ℕ
  pub gives : w ≡ rows rest t
  pub all : js ≡ is ++ rest

never : {is : List ℕ} {t : Spot} → stuck ≡ rows is t → ⊥
never e = let z : ◌≡◌ {A = ℕ} 0 1 = cc in omega arith

pub behind : (is : List ℕ) (w : Steps) (js : List ℕ) (t : Spot) → before is w ≡ rows js t → Behind is w js t
unfolding before
behind is stuck js t e = absurd (never e)
behind is (rows ks u) js t e = record { rest = ks; gives = cc; all = cc }

-- ---- each of some runs lies below a number
abbrev pub Below : ℕ → List ℕ → Type 0
Below n [] = Unit
Below n (i ∷ is) = (i < n) × Below n is

module _ (n : ℕ) where
  -- rows of one run, and others behind them
  pub below_rows : (k i : ℕ) (js : List ℕ) → i < n → Below n js → Below n (replicate k i ++ js)
  below_rows zero i js h b = b
  below_rows (suc k) i js h b = (h, below_rows k i js h b)

  pub below_parts : (is js : List ℕ) → Below n (is ++ js) → Below n is × Below n js
  below_parts [] js h = (tt, h)
  below_parts (i ∷ is) js h = let k = below_parts is js h.1 in ((h.0, k.0), k.1)

  pub below_more : (m : ℕ) (is : List ℕ) → m ≤ n → Below m is → Below n is
  below_more m [] h k = tt
  below_more m (i ∷ is) h k = (omega arith, below_more m is h k.1)

-- ---- steps one by one, whether rows are coded by runs or not
pub steps-zero : (coded : Bool) (runs : ℕ) (counts : List ℕ) (s : Spot) → steps_in coded runs counts 0 s ≡ rows [] s
unfolding steps_in steps_from places
steps-zero true runs counts s = refl
steps-zero false runs counts s = rw add-zero

-- the next row, and the place after it
unfoldable pub next_in : Bool → ℕ → List ℕ → Spot → Step
next_in coded runs counts s = cond coded (next runs counts s) (row s.run (spot (s.run + 1) s.at s.taken))

pub steps-more : (coded : Bool) (runs : ℕ) (counts : List ℕ) (n : ℕ) (s : Spot)
    → steps_in coded runs counts (suc n) s ≡ and_then (next_in coded runs counts s) (λ t. steps_in coded runs counts n t)
unfolding steps_in steps_from places next_in and_then before
steps-more true runs counts n s = refl
steps-more false runs counts n s = let e : s.run + suc n ≡ suc s.run + n = omega arith in rw (e, add-one)

-- ---- what holds of all steps; of `none` and `stuck` nothing is said
-- Rows that are not coded by runs have to be there. Of coded rows nothing is asked, since there reading stops past the last run: `coded-room`.
abbrev pub Room : Bool → ℕ → ℕ → Spot → Type 0
Room coded runs n s = coded ≡ false → s.run + n ≤ runs

pub coded-room : {A : Type 0} → true ≡ false → A
coded-room e = let z : ◌≡◌ {A = ℕ} 0 1 = cc in absurd (omega arith)

module _ (runs : ℕ) (counts : List ℕ) where
  -- a row lies in one of the runs, and the place after it in one or just behind the last
  abbrev InRuns : Step → Type 0
  InRuns none = Unit
  InRuns (row i t) = (i < runs) × (t.run ≤ runs)

  leave-in : (c : Option Count) (s : Spot) → s.run < runs → (leave c s).run ≤ runs
  unfolding leave
  leave-in None s h = omega arith
  leave-in (Some c) s h = go (ltb 0 c.value && eqb c.value s.taken)
    where
      go : (b : Bool) → (cond b (spot (s.run + 1) (s.at + c.len) 0) s).run ≤ runs
      go true = omega arith
      go false = omega arith

  one_in : (c : Option Count) (s : Spot) → s.run < runs → InRuns (one c s)
  unfolding one
  one_in None s h = tt
  one_in (Some c) s h = go (ltb s.taken c.value)
    where
      t : Spot
      t = leave (Some c) (spot s.run s.at (s.taken + 1))

      go : (b : Bool) → InRuns (cond b (row s.run t) none)
      go true = (h, leave-in (Some c) (spot s.run s.at (s.taken + 1)) h)
      go false = tt

  here_in : (s : Spot) → InRuns (one (here runs counts s) s)
  unfolding here one
  here_in s = go (ltb s.run runs) refl
    where
      go : (b : Bool) → ltb s.run runs ≡ b → InRuns (one (cond b (count_at counts s.at) None) s)
      go true h = one_in (count_at counts s.at) s (ltb-true _ _ h)
      go false h = tt

  -- with room for n more rows behind it
  abbrev InRoom : Bool → ℕ → Step → Type 0
  InRoom coded n none = Unit
  InRoom coded n (row i t) = (i < runs) × (t.run ≤ runs) × Room coded runs n t

  coded_in : (n : ℕ) (x : Step) → InRuns x → InRoom true n x
  coded_in n none h = tt
  coded_in n (row i t) h = (h.0, h.1, coded-room)

  next-in : (coded : Bool) (n : ℕ) (s : Spot) → Room coded runs (suc n) s → InRoom coded n (next_in coded runs counts s)
  unfolding next_in next
  next-in true n s h = coded_in n (next runs counts s) (here_in (settle runs counts s))
  next-in false n s h = let k : s.run + suc n ≤ runs = h refl in (omega arith, omega arith, λ e. omega arith)

  -- so many rows; if there is room, all in the runs; and reading that stands in the runs or just behind the last stays there
  module _ (coded : Bool) where
    abbrev Sized : ℕ → Spot → Steps → Type 0
    Sized n s stuck = Unit
    Sized n s (rows is t) = (length is ≡ n) × (Room coded runs n s → Below runs is × (s.run ≤ runs → t.run ≤ runs))

    one_more : (n i : ℕ) (s t : Spot) (w : Steps) → (Room coded runs (suc n) s → InRoom coded n (row i t)) → Sized n t w
        → Sized (suc n) s (before (i ∷ []) w)
    unfolding before
    one_more n i s t stuck h z = tt
    one_more n i s t (rows is u) h z =
        (ap suc z.0, λ m. let k = h m in let y = z.1 k.2 in ((k.0, y.0), λ l. y.1 k.1))

    sized : (n : ℕ) (s : Spot) → Sized n s (steps_in coded runs counts n s)
    unfolding and_then
    sized zero s = rw (steps-zero coded runs counts s) (refl, λ m. (tt, λ h. h))
    sized (suc n) s = rw (steps-more coded runs counts n s) (go (λ t. sized n t) (next_in coded runs counts s) (λ m. next-in coded n s m))
      where
        go : ((t : Spot) → Sized n t (steps_in coded runs counts n t)) → (x : Step) → (Room coded runs (suc n) s → InRoom coded n x)
            → Sized (suc n) s (and_then x (λ t. steps_in coded runs counts n t))
        go ih none h = tt
        go ih (row i t) h = one_more n i s t (steps_in coded runs counts n t) h (ih t)

module _ (coded : Bool) (runs : ℕ) (counts : List ℕ) (n : ℕ) (s : Spot) {is : List ℕ} {t : Spot}
    (e : steps_in coded runs counts n s ≡ rows is t) where
  told : Sized runs counts coded n s (rows is t)
  told = subst (λ (w : Steps). Sized runs counts coded n s w) e (sized runs counts coded n s)

  pub in-length : length is ≡ n
  in-length = told.0

  pub in-below : Room coded runs n s → Below runs is
  in-below m = (told.1 m).0

  pub in_end : Room coded runs n s → s.run ≤ runs → t.run ≤ runs
  in_end m = (told.1 m).1

module _ (runs : ℕ) (counts : List ℕ) (n : ℕ) (s : Spot) {is : List ℕ} {t : Spot} (e : steps_from runs counts n s ≡ rows is t) where
  pub steps-length : length is ≡ n
  unfolding steps_in
  steps-length = in-length true runs counts n s e

  pub steps-below : Below runs is
  unfolding steps_in
  steps-below = in-below true runs counts n s e coded-room

  pub steps-end : s.run ≤ runs → t.run ≤ runs
  unfolding steps_in
  steps-end = in_end true runs counts n s e coded-room

-- ---- steps in two parts
-- some rows, and then what comes from where they end
unfoldable pub onward : Steps → (Spot → Steps) → Steps
onward stuck rest = stuck
onward (rows is t) rest = before is (rest t)

onward-before : (is : List ℕ) (w : Steps) (rest : Spot → Steps) → before is (onward w rest) ≡ onward (before is w) rest
unfolding before onward
onward-before is stuck rest = refl
onward-before is (rows js t) rest = before-before is js (rest t)

pub in_split : (coded : Bool) (runs : ℕ) (counts : List ℕ) (m n : ℕ) (s : Spot)
    → steps_in coded runs counts (m + n) s ≡ onward (steps_in coded runs counts m s) (λ t. steps_in coded runs counts n t)
unfolding and_then onward
in_split coded runs counts zero n s = rw (zero-add, steps-zero coded runs counts s) (sym (before-nil _))
in_split coded runs counts (suc m) n s =
    rw (suc-add, steps-more coded runs counts (m + n) s, steps-more coded runs counts m s)
    (go (λ t. in_split coded runs counts m n t) (next_in coded runs counts s))
  where
    rest : Spot → Steps
    rest t = steps_in coded runs counts n t

    go : ((t : Spot) → steps_in coded runs counts (m + n) t ≡ onward (steps_in coded runs counts m t) rest) → (x : Step)
        → and_then x (λ t. steps_in coded runs counts (m + n) t) ≡ onward (and_then x (λ t. steps_in coded runs counts m t)) rest
    go ih none = refl
    go ih (row i t) = rw (ih t) (onward-before (i ∷ []) (steps_in coded runs counts m t) rest)

pub steps-split : (runs : ℕ) (counts : List ℕ) (m n : ℕ) (s : Spot)
    → steps_from runs counts (m + n) s ≡ onward (steps_from runs counts m s) (λ t. steps_from runs counts n t)
unfolding steps_in
steps-split = in_split true

-- the two parts of rows that are there, by what gives so many rows from a place on
pub record Parts (steps : ℕ → Spot → Steps) (m n : ℕ) (s : Spot) (is : List ℕ) (t : Spot) : Type 0 where
  pub mid : Spot
  pub first : steps m s ≡ rows (take m is) mid
  pub rest : steps n mid ≡ rows (drop m is) t

halves : (m : ℕ) (js ks is : List ℕ) → length js ≡ m → is ≡ js ++ ks → (js ≡ take m is) × (ks ≡ drop m is)
halves m js ks is l e = rw e (sym (take_at js ks m l), sym (drop_at js ks m l))

pub in_parts : (coded : Bool) (runs : ℕ) (counts : List ℕ) (m n : ℕ) (s : Spot) {is : List ℕ} {t : Spot}
    → steps_in coded runs counts (m + n) s ≡ rows is t → Parts (steps_in coded runs counts) m n s is t
unfolding onward
in_parts coded runs counts m n s {is} {t} e = go (steps_in coded runs counts m s) refl (sym (in_split coded runs counts m n s) ∙ e)
  where
    go : (w : Steps) → steps_in coded runs counts m s ≡ w → onward w (λ u. steps_in coded runs counts n u) ≡ rows is t
        → Parts (steps_in coded runs counts) m n s is t
    go stuck f q = absurd (never q)
    go (rows js u) f q =
        let b = behind js (steps_in coded runs counts n u) is t q in
        let h = halves m js b.rest is (in-length coded runs counts m s f) b.all in
        record {
          mid = u;
          first = f ∙ ap (λ (x : List ℕ). rows x u) h.0;
          rest = b.gives ∙ ap (λ (x : List ℕ). rows x t) h.1;
        }

pub steps-parts : (runs : ℕ) (counts : List ℕ) (m n : ℕ) (s : Spot) {is : List ℕ} {t : Spot}
    → steps_from runs counts (m + n) s ≡ rows is t → Parts (steps_from runs counts) m n s is t
unfolding steps_in
steps-parts = in_parts true
