-- `advance` and the loops of `pass_runs` and `pass_on`: what is left to pass reaches where the whole does. Assumes nothing.
use Rattle.std.specs.Prelude.{Option, Some, None}
use Prim.Native.Nat.{ℕ, ◌+◌, ◌-◌, ◌≤◌, ◌<◌}
use native.Mathlib.Nat.{zero-add}
use native.Mathlib.Omega.{arith}
use mathlib.Core.List.{List}
use mathlib.Core.Path.{◌≡◌, refl, sym, ap, ◌∙◌}
use lib.ListN.{replicate}
use Rattle.varint.specs.declared.Count.{Count}
use Rattle.varint.specs.Varint.{count_at, counted}
use Rattle.rle.specs.declared.Spot.{Spot}
use Rattle.rle.specs.Stepping.{spot, here, steps_from}
use Rattle.rle.specs.Pieces.{rest_of, reached, Onward, Goes, run_rest, gone}
use Rattle.rle.proofs.Steps.{reached-before}
use Rattle.rle.proofs.OneRun.{here-is}
use Rattle.rle.proofs.RestOfRun.{Found, found, wrong-stuck, found_in, found-past, rest-past, rest-bad, rest-zero, rest-rows}
use Rattle.rle.specs.declared.Rest.{Rest}

pub record Going (runs : ℕ) (counts : List ℕ) (n : ℕ) (s : Spot) (run at taken left : ℕ) : Type 0 where
  pub whole : reached (steps_from runs counts n s) ≡ reached (steps_from runs counts left (spot run at taken))

pub going_start : (runs : ℕ) (counts : List ℕ) (n : ℕ) (s : Spot) → Going runs counts n s s.run s.at s.taken n
going_start runs counts n s = record { whole = refl }

-- a run of which no row is taken is passed from its start on
pub from-its-start : (runs : ℕ) (counts : List ℕ) (n : ℕ) (s : Spot) → s.taken ≡ 0
    → reached (steps_from runs counts n (spot s.run s.at 0)) ≡ reached (steps_from runs counts n s)
from-its-start runs counts n s h = ap (λ (t : ℕ). reached (steps_from runs counts n (spot s.run s.at t))) (sym h)

module _ {runs : ℕ} {counts : List ℕ} {n : ℕ} {s : Spot} {run at taken left : ℕ} (w : Going runs counts n s run at taken left) where
  pub going_end : left ≤ 0 → Some (spot run at taken) ≡ reached (steps_from runs counts n s)
  unfolding reached steps_from
  going_end h = let z : left ≡ 0 = omega arith in sym (w.whole ∙ rw z)

  module _ (l : 0 < left) {a : Option Rest} (e : a ≡ rest_of (here runs counts (spot run at taken)) taken) where
    pub going-wrong : a ≡ None → None ≡ reached (steps_from runs counts n s)
    unfolding reached
    going-wrong b = sym (w.whole ∙ rw (wrong-stuck runs counts (spot run at taken) e left l b))

    module _ {free len : ℕ} (b : a ≡ Some (run_rest free len)) where
      pub going-found : Found runs counts (spot run at taken) free len
      going-found = found runs counts (spot run at taken) e b

      pub going-in : left < free → Some (spot run at (taken + left)) ≡ reached (steps_from runs counts n s)
      unfolding reached
      going-in z = sym (w.whole ∙ rw (found_in going-found left z))

      pub going_on : free ≤ left → Going runs counts n s (run + 1) (at + len) 0 (left - free)
      going_on f = record { whole = w.whole ∙ rw (found-past going-found left l f) (reached-before (replicate free run) _) }

-- ---- from the start of a run on, run by run up to the run `stop`: the same, however many runs there are behind it
pub record Passing (counts : List ℕ) (stop n : ℕ) (s : Spot) (run at left : ℕ) : Type 0 where
  pub going : (runs : ℕ) → stop ≤ runs → Going runs counts n s run at 0 left
  pub ahead : s.run ≤ run
  pub few : left ≤ n
  pub inside : s.run ≤ stop → run ≤ stop

pub passing-start : (counts : List ℕ) (stop n run at : ℕ) → Passing counts stop n (spot run at 0) run at n
passing-start counts stop n run at = record {
  going = λ runs h. record { whole = refl };
  ahead = omega arith;
  few = omega arith;
  inside = λ h. h;
}

-- the count of a run before `stop` is the same in more runs
same_here : (counts : List ℕ) (stop runs : ℕ) (s : Spot) → stop ≤ runs → s.run < stop → here stop counts s ≡ here runs counts s
same_here counts stop runs s le h = here-is stop counts s h refl ∙ sym (here-is runs counts s (omega arith) refl)

module _ {counts : List ℕ} {stop n : ℕ} {s : Spot} {run at left : ℕ} (w : Passing counts stop n s run at left) where
  -- no rows are left, at a place of this run
  no_more : (taken : ℕ) → Onward stop s n (spot run at taken) 0
  no_more taken = record {
    ahead = w.ahead;
    few = omega arith;
    inside = w.inside;
    stopped = λ l. absurd (omega arith);
    fresh = λ l. absurd (omega arith);
  }

  pub passing-end : left ≤ 0 → Goes counts stop s n (Some (gone (spot run at 0) 0))
  passing-end z =
      let none : left ≡ 0 = omega arith in
      record { leads = λ runs h. rw none at (w.going runs h).whole; onward = no_more 0 }

  pub passing-stop : stop ≤ run → Goes counts stop s n (Some (gone (spot run at 0) left))
  passing-stop z = record {
    leads = λ runs h. (w.going runs h).whole;
    onward = record { ahead = w.ahead; few = w.few; inside = w.inside; stopped = λ l. z; fresh = λ l. refl };
  }

  module _ (l : 0 < left) {a : Option Rest} (e : a ≡ rest_of (here stop counts (spot run at 0)) 0) where
    in-more : (runs : ℕ) → stop ≤ runs → run < stop → a ≡ rest_of (here runs counts (spot run at 0)) 0
    in-more runs h i = e ∙ ap (λ c. rest_of c 0) (same_here counts stop runs (spot run at 0) h i)

    pub passing-wrong : a ≡ None → run < stop → Goes counts stop s n None
    passing-wrong b i = record { leads = λ runs h. going-wrong (w.going runs h) l (in-more runs h i) b; onward = tt }

    module _ {free len : ℕ} (b : a ≡ Some (run_rest free len)) where
      pub passing-found : Found stop counts (spot run at 0) free len
      passing-found = found stop counts (spot run at 0) e b

      pub passing-in : left < free → Goes counts stop s n (Some (gone (spot run at left) 0))
      unfolding reached steps_from
      passing-in z = record {
        leads = λ runs h. sym (rw (zero-add left) at (going-in (w.going runs h) l (in-more runs h passing-found.inside) b z));
        onward = no_more left;
      }

      pub passing-on : free ≤ left → Passing counts stop n s (run + 1) (at + len) (left - free)
      passing-on f = record {
        going = λ runs h. going_on (w.going runs h) l (in-more runs h passing-found.inside) b f;
        ahead = omega (arith, w.ahead);
        few = omega (arith, w.few);
        inside = λ h. omega (arith, passing-found.inside);
      }

-- ---- the same with the runs that are left before `stop` counted down
pub record Few (counts : List ℕ) (stop n : ℕ) (s : Spot) (few at left : ℕ) : Type 0 where
  pub passing : Passing counts stop n s (stop - few) at left
  pub within : few ≤ stop

pub few-start : (counts : List ℕ) (most n run at : ℕ) → Few counts (run + most) n (spot run at 0) most at n
few-start counts most n run at =
    let m : run + most - most ≡ run = omega arith in
    record { passing = rw m (passing-start counts (run + most) n run at); within = omega arith }

module _ {counts : List ℕ} {stop n : ℕ} {s : Spot} {few at left : ℕ} (w : Few counts stop n s few at left) where
  pub few-end : left ≤ 0 → Goes counts stop s n (Some (gone (spot (stop - few) at 0) 0))
  few-end z = passing-end w.passing z

  pub few-used : few ≡ 0 → Goes counts stop s n (Some (gone (spot stop at 0) left))
  few-used z =
      let m : stop - few ≡ stop = omega arith in
      rw m at (passing-stop w.passing (omega arith))

  -- a run before `stop`, by its count
  module _ (l : 0 < left) (some : few ≡ 0 → ⊥) {c : Option Count} (e : c ≡ count_at counts at) where
    lies-before : stop - few < stop
    lies-before = omega (arith, w.within)

    pub few-bad : c ≡ None → Goes counts stop s n None
    few-bad b = passing-wrong w.passing l (rest-bad stop counts (spot (stop - few) at 0) lies-before e b) refl lies-before

    module _ {v len : ℕ} (b : c ≡ counted v len) where
      pub few-zero : v ≡ 0 → Goes counts stop s n None
      few-zero z = passing-wrong w.passing l (rest-zero stop counts (spot (stop - few) at 0) lies-before e b z) refl lies-before

      module _ (z : v ≡ 0 → ⊥) where
        free : Some (run_rest v len) ≡ rest_of (here stop counts (spot (stop - few) at 0)) 0
        free =
            let m : v - 0 ≡ v = omega arith in
            ap (λ (k : ℕ). Some (run_rest k len)) (sym m) ∙ rest-rows stop counts (spot (stop - few) at 0) lies-before e b z (omega arith)

        pub few-found : Found stop counts (spot (stop - few) at 0) v len
        few-found = passing-found w.passing l free refl

        pub few-in : left < v → Goes counts stop s n (Some (gone (spot (stop - few) at left) 0))
        few-in h = passing-in w.passing l free refl h

        pub few_on : v ≤ left → Few counts stop n s (few - 1) (at + len) (left - v)
        few_on h =
            let m : stop - few + 1 ≡ stop - (few - 1) = omega (arith, w.within) in
            record { passing = rw m at (passing-on w.passing l free refl h); within = omega (arith, w.within) }

-- ---- no run is left
module _ {runs : ℕ} {counts : List ℕ} {n : ℕ} {s : Spot} {run at taken left : ℕ} (w : Going runs counts n s run at taken left) where
  pub going-past : 0 < left → runs ≤ run → None ≡ reached (steps_from runs counts n s)
  unfolding reached
  going-past l h = sym (w.whole ∙ rw (wrong-stuck runs counts (spot run at taken) (rest-past runs counts (spot run at taken) h) left l refl))
