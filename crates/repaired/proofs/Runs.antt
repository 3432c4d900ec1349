-- The first run of rows that are the same and of others behind them: all of these and no more, where no more fit into a run, no row is behind them, or the
-- first of those differs. Assumes nothing.
use Prim.Native.Nat.{ℕ, zero, suc, ◌+◌, ◌≤◌, ◌<◌}
use native.Mathlib.Nat.{add-zero}
use native.Mathlib.Omega.{arith}
use mathlib.Core.Bool.{false, ◌&&◌, and-false}
use mathlib.Core.List.{List, [], ◌∷◌, ◌++◌}
use mathlib.Core.Path.{◌≡◌, refl, ap, ◌∙◌}
use lib.Dec.{ltb}
use lib.ListN.{replicate}
use borrow.Author.Tests.{lt-ltb, le-ltb}
use Rattle.limits.specs.Limits.{MOST_COUNT}
use Rattle.plain.specs.Rows.{Row, same}
use Rattle.plain.proofs.Same.{same_self}
use Rattle.rle.specs.RunLength.{run, runs_from, runs_of}

-- rows join the run as long as a count can be so large
join : (r : Row) (n m : ℕ) (rest : List Row) → n + m ≤ MOST_COUNT → runs_from r n (replicate m r ++ rest) ≡ runs_from r (n + m) rest
unfolding runs_from
join r n zero rest few = rw add-zero
join r n (suc m) rest few =
    let sum : n + suc m ≡ n + 1 + m = omega arith in
    rw (same_self r, lt-ltb n MOST_COUNT (omega arith), sum) (join r (n + 1) m rest (omega arith))

-- why a run ends
pub data Ends (r : Row) (m : ℕ) : List Row → Type 0 where
  full : {rest : List Row} → m ≡ MOST_COUNT → Ends r m rest
  last : Ends r m []
  other : {s : Row} {rest : List Row} → same r s ≡ false → Ends r m (s ∷ rest)

past : (r : Row) (m : ℕ) (s : Row) (rest : List Row) → (same r s && ltb m MOST_COUNT) ≡ false → runs_from r m (s ∷ rest) ≡ run r m ∷ runs_of (s ∷ rest)
unfolding runs_from runs_of
past r m s rest e = rw e

ended : {r : Row} {m : ℕ} {rest : List Row} → Ends r m rest → runs_from r m rest ≡ run r m ∷ runs_of rest
unfolding runs_from runs_of
ended last = refl
ended {r} {m} (other {s} {rest} e) = past r m s rest (rw e)
ended {r} {m} (full {rest} e) = go rest
  where
    go : (rest : List Row) → runs_from r m rest ≡ run r m ∷ runs_of rest
    go [] = refl
    go (s ∷ rest) = past r m s rest (rw (le-ltb m MOST_COUNT (omega arith)) (and-false (same r s)))

pub first_run : {r : Row} {m : ℕ} {rest : List Row} → 0 < m → m ≤ MOST_COUNT → Ends r m rest → runs_of (replicate m r ++ rest) ≡ run r m ∷ runs_of rest
unfolding runs_of
first_run {r} {m} {rest} some few ends = go m refl
  where
    go : (n : ℕ) → m ≡ n → runs_of (replicate m r ++ rest) ≡ run r m ∷ runs_of rest
    go zero e = absurd (omega arith)
    go (suc n) e =
        let sum : 1 + n ≡ m = omega arith in
        ap (λ (k : ℕ). runs_of (replicate k r ++ rest)) e ∙ join r 1 n rest (omega arith) ∙ rw sum (ended ends)
