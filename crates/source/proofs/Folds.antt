-- What rows come to, run by run: of some rows behind others, and of rows of one run. Assumes nothing.
use Prim.Native.Nat.{ℕ, zero, suc, ◌+◌, ◌*◌, ◌<◌}
use native.Mathlib.Nat.{add-zero, zero-add, suc-mul, zero-mul}
use native.Mathlib.Omega.{arith}
use mathlib.Core.Bool.{Bool, true, false, ◌&&◌, and_assoc, and-false}
use mathlib.Core.List.{List, [], ◌∷◌, ◌++◌, append_assoc, map}
use mathlib.Core.Path.{◌≡◌, refl, sym}
use lib.ListN.{length, replicate, length-append}
pub use Rattle.encode.proofs.Bools.{both}
use Rattle.area.specs.Area.{repeats, climbs}
use Rattle.plain.specs.Plain.{all_of, joined, ends_from}
pub use Rattle.plain.proofs.Ends.{length-ends}
use Rattle.source.specs.Rows.{sum_of}

-- ---- a test of each
module _ (p : ℕ → Bool) where
  pub all_append : (is js : List ℕ) → all_of p (is ++ js) ≡ (all_of p is && all_of p js)
  unfolding all_of
  all_append [] js = refl
  all_append (i ∷ is) js = rw (all_append is js) (sym (and_assoc (p i) (all_of p is) (all_of p js)))

  -- a run of which there is no row needs no test
  pub all_same : (m i : ℕ) → (0 < m → p i ≡ true) → all_of p (replicate m i) ≡ true
  unfolding all_of
  all_same zero i h = refl
  all_same (suc m) i h = rw (h (omega arith)) (all_same m i (λ l. h (omega arith)))

  pub same-all : (m i : ℕ) → all_of p (replicate m i) ≡ true → 0 < m → p i ≡ true
  unfolding all_of
  same-all zero i h l = absurd (omega arith)
  same-all (suc m) i h l = (both (p i) (all_of p (replicate m i)) h).0

  -- rows of a run that isn't good, whatever stands before them
  pub all-bad : (is : List ℕ) (m i : ℕ) → 0 < m → p i ≡ false → all_of p (is ++ replicate m i) ≡ false
  unfolding all_of
  all-bad [] zero i l h = absurd (omega arith)
  all-bad [] (suc m) i l h = rw h
  all-bad (j ∷ is) m i l h = rw (all-bad is m i l h) (and-false (p j))

-- ---- a sum
module _ (f : ℕ → ℕ) where
  pub sum-append : (is js : List ℕ) → sum_of f (is ++ js) ≡ sum_of f is + sum_of f js
  unfolding sum_of
  sum-append [] js = sym (zero-add (sum_of f js))
  sum-append (i ∷ is) js = rw (sum-append is js) (omega arith)

  pub sum_same : (m i : ℕ) → sum_of f (replicate m i) ≡ m * f i
  unfolding sum_of
  sum_same zero i = sym (zero-mul (f i))
  sum_same (suc m) i = rw (sum_same m i, suc-mul) (omega arith)

-- ---- bytes one after another, and where each text ends, by the size of each
module _ (g : ℕ → List ℕ) where
  pub joined-append : (is js : List ℕ) → joined g (is ++ js) ≡ joined g is ++ joined g js
  unfolding joined
  joined-append [] js = refl
  joined-append (i ∷ is) js = rw (joined-append is js, append_assoc)

  pub joined_same : (m i : ℕ) → joined g (replicate m i) ≡ repeats m (g i)
  unfolding joined repeats
  joined_same zero i = refl
  joined_same (suc m) i = rw (joined_same m i)

  module _ (f : ℕ → ℕ) (sized : (i : ℕ) → f i ≡ length (g i)) where
    pub length-joined : (is : List ℕ) → length (joined g is) ≡ sum_of f is
    unfolding joined sum_of
    length-joined [] = refl
    length-joined (i ∷ is) = rw (length-append (g i) (joined g is), length-joined is, sized i)

    pub ends-append : (at : ℕ) (is js : List ℕ) → ends_from at (map g (is ++ js)) ≡ ends_from at (map g is) ++ ends_from (at + sum_of f is) (map g js)
    unfolding ends_from sum_of
    ends-append at [] js = rw add-zero
    ends-append at (i ∷ is) js =
        let e : at + (f i + sum_of f is) ≡ at + length (g i) + sum_of f is = omega (arith, sized i) in
        rw (e, ends-append (at + length (g i)) is js)

    pub ends_same : (at m i : ℕ) → ends_from at (map g (replicate m i)) ≡ climbs m at (f i)
    unfolding ends_from climbs
    ends_same at zero i = refl
    ends_same at (suc m) i = rw (sized i) (rw (← sized i) (rw (ends_same (at + f i) m i)))
