-- What ending a range and adding places come to, by the tests that led there. Assumes nothing.
use Prim.Native.Nat.{ℕ, ◌+◌, ◌-◌, ◌<◌, ◌≤◌}
use native.Mathlib.Omega.{arith}
use mathlib.Core.Bool.{Bool, true, false, beq}
use mathlib.Core.List.{List}
use mathlib.Core.Path.{◌≡◌, refl, sym, ◌∙◌}
use lib.ListN.{length, set}
use borrow.Author.Tests.{lt-ltb, le-ltb, eq-eqb, ne_eqb}
use Rattle.std.specs.Prelude.{Option, Some, None, is_some}
use Rattle.ranges.specs.declared.Mark.{Mark}
use Rattle.ranges.specs.Recording.{mark, noted, ended, ended_by, firsts_ended, firsts_by, lasts_ended, lasts_by, opened, passed, added, firsts_added, lasts_added}

-- ---- a number at a slot
module _ (xs : List ℕ) (i x : ℕ) where
  pub slot-there : i < length xs → set xs i x ≡ noted xs i x
  unfolding noted
  slot-there h = rw (lt-ltb i (length xs) h)

  pub no_slot : length xs ≤ i → xs ≡ noted xs i x
  unfolding noted
  no_slot h = rw (le-ltb i (length xs) h)

-- ---- the open range ended
module _ (m : Mark) (firsts lasts : List ℕ) where
  -- a mark and what the lists then hold
  abbrev pub Ends : Mark → List ℕ → List ℕ → Type 0
  Ends r firsts' lasts' = (r ≡ ended m) × ((firsts' ≡ firsts_ended m firsts) × (lasts' ≡ lasts_ended m lasts))

  pub nothing_ends : m.since ≡ None → Ends m firsts lasts
  unfolding ended_by firsts_by lasts_by
  nothing_ends b = rw b (refl, (refl, refl))

  pub put-down :
      {f : ℕ} {firsts' lasts' : List ℕ} → m.since ≡ Some f → firsts' ≡ noted firsts m.count f → lasts' ≡ noted lasts m.count (m.next - 1)
      → Ends (mark None m.next (m.count + 1)) firsts' lasts'
  unfolding ended_by firsts_by lasts_by
  put-down b f l = rw b (refl, (f, l))

-- no range is open once it has ended
pub ended-none : (m : Mark) → (ended m).since ≡ None
unfolding ended_by
ended-none m = go m.since refl
  where
    go : (o : Option ℕ) → m.since ≡ o → (ended m).since ≡ None
    go (Some f) e = rw e refl
    go None e = rw e refl

-- ---- places more
module _ (m : Mark) (on : Bool) (n : ℕ) (firsts lasts : List ℕ) where
  abbrev pub Adds : Mark → List ℕ → List ℕ → Type 0
  Adds r firsts' lasts' = (r ≡ added m on n) × ((firsts' ≡ firsts_added m on n firsts) × (lasts' ≡ lasts_added m on n lasts))

  pub nothing-added : n ≡ 0 → Adds m firsts lasts
  unfolding added firsts_added lasts_added
  nothing-added z = rw (eq-eqb n 0 z) (refl, (refl, refl))

  module _ (some : 0 < n) where
    pub marked-added : {r : Mark} → on ≡ true → r ≡ opened m n → Adds r firsts lasts
    unfolding added firsts_added lasts_added
    marked-added o e = rw (ne_eqb n 0 (λ z. omega arith), o) (e, (refl, refl))

    pub passed-added : on ≡ false → Adds (passed m n) (firsts_ended m firsts) (lasts_ended m lasts)
    unfolding added firsts_added lasts_added
    passed-added o = rw (ne_eqb n 0 (λ z. omega arith), o) (refl, (refl, refl))

    pub others-added :
        {r : Mark} {firsts' lasts' : List ℕ} → on ≡ false → Ends m firsts lasts r firsts' lasts'
        → Adds (mark r.since (m.next + n) r.count) firsts' lasts'
    unfolding passed
    others-added o e =
        let p = passed-added o in
        (rw (e.0, ended-none m) p.0, (e.1.0 ∙ p.1.0, e.1.1 ∙ p.1.1))

-- ---- one place more, as the place before it
same_truth : (x y : Bool) → beq x y ≡ true → x ≡ y
same_truth true true e = refl
same_truth true false e = sym e
same_truth false true e = e
same_truth false false e = refl

module _ (m : Mark) (on : Bool) (firsts lasts : List ℕ) where
  pub goes-on-so : beq on (is_some m.since) ≡ true → Adds m on 1 firsts lasts (mark m.since (m.next + 1) m.count) firsts lasts
  unfolding added firsts_added lasts_added opened passed ended_by firsts_by lasts_by
  goes-on-so t = by m.since refl
    where
      by : (o : Option ℕ) → m.since ≡ o → Adds m on 1 firsts lasts (mark m.since (m.next + 1) m.count) firsts lasts
      by (Some f) o = let e : on ≡ true = same_truth on true (rw o at t) in rw (e, o) (refl, (refl, refl))
      by None o = let e : on ≡ false = same_truth on false (rw o at t) in rw (e, o) (refl, (refl, refl))
