-- One row n times: one run of n rows, and one entry. All by induction, so that no such list is ever written out. Assumes nothing.
use Prim.Native.Nat.{ℕ, zero, suc, ◌+◌, ◌≤◌, ◌<◌}
use native.Mathlib.Nat.{add-zero}
use native.Mathlib.Omega.{arith}
use mathlib.Core.Bool.{true}
use mathlib.Core.List.{List, [], ◌∷◌, ◌++◌, append-nil}
use mathlib.Core.Path.{◌≡◌, refl, ap, ◌∙◌}
use lib.ListN.{length, replicate}
use borrow.Author.Tests.{lt-ltb}
use Rattle.limits.specs.Limits.{MOST_COUNT}
use Rattle.encode.specs.Bytes.{little}
use Rattle.encode.specs.declared.Kind.{Kind}
use Rattle.varint.specs.Varint.{spelling}
use Rattle.plain.specs.Rows.{Row, fits}
use Rattle.plain.specs.Plain.{joined}
use Rattle.plain.proofs.Same.{same_self}
use Rattle.rle.specs.RunLength.{run, runs_from, runs_of, counts_of, run_length_of}
use Rattle.rle.proofs.Folds.{map-replicate}
use Rattle.dict.specs.Dictionary.{with_entry, entries_after, entries_of, key_of}
use Rattle.format.specs.Sizes.{keys_of, all_fit}

pub all-fit : (k : Kind) (x : Row) → fits k x ≡ true → (n : ℕ) → all_fit k (replicate n x) ≡ true
unfolding all_fit
all-fit k x h zero = refl
all-fit k x h (suc n) = rw h (all-fit k x h n)

-- ---- runs
-- each row joins the run, as long as a count can be so large
join : (x : Row) (m n : ℕ) → m + n ≤ MOST_COUNT → runs_from x m (replicate n x) ≡ run x (m + n) ∷ []
unfolding runs_from
join x m zero few = rw (add-zero m)
join x m (suc n) few =
    let below : m < MOST_COUNT = omega arith in
    let sum : m + suc n ≡ m + 1 + n = omega arith in
    rw (same_self x, lt-ltb m MOST_COUNT below, sum) (join x (m + 1) n (omega arith))

module _ (x : Row) where
  pub one-run : (n : ℕ) → 0 < n → n ≤ MOST_COUNT → runs_of (replicate n x) ≡ run x n ∷ []
  unfolding runs_of
  one-run zero some few = absurd (omega arith)
  one-run (suc n) some few = let sum : 1 + n ≡ suc n = omega arith in rw sum at (join x 1 n (omega arith))

  -- and so the block has one count, and the inner block of one item
  pub one-run-block : (build : List Row → List ℕ) (n : ℕ) → 0 < n → n ≤ MOST_COUNT
      → run_length_of build (replicate n x) ≡ little 4 1 ++ little 4 (length (spelling n)) ++ spelling n ++ build (x ∷ [])
  unfolding run_length_of counts_of joined
  one-run-block build zero some few = absurd (omega arith)
  one-run-block build (suc n) some few = rw (one-run (suc n) some few, append-nil (spelling (suc n)))

-- ---- a dictionary: a row that is an entry adds none
entries-stay : (es : List Row) (x : Row) → with_entry es x ≡ es → (n : ℕ) → entries_after es (replicate n x) ≡ es
unfolding entries_after
entries-stay es x h zero = refl
entries-stay es x h (suc n) = ap (λ (l : List Row). entries_after l (replicate n x)) h ∙ entries-stay es x h n

module _ (x : Row) (first : with_entry [] x ≡ x ∷ []) (again : with_entry (x ∷ []) x ≡ x ∷ []) where
  pub one_entry : (n : ℕ) → 0 < n → entries_of (replicate n x) ≡ x ∷ []
  unfolding entries_of entries_after
  one_entry zero some = absurd (omega arith)
  one_entry (suc n) some = ap (λ (l : List Row). entries_after l (replicate n x)) first ∙ entries-stay (x ∷ []) x again n

  pub one_key : (n : ℕ) → 0 < n → keys_of (replicate n x) ≡ replicate n (key_of (x ∷ []) x)
  unfolding keys_of
  one_key n some = rw (one_entry n some) (map-replicate (key_of (x ∷ [])) n x)
