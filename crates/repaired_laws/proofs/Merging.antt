-- Runs that are joined: the runs of the rows of some runs are no more than these, and their counts take no more bytes. Assumes nothing.
use Prim.Native.Nat.{ℕ, zero, suc, ◌+◌, ◌-◌, ◌≤◌, ◌<◌}
use native.Mathlib.Nat.{add-zero}
use native.Mathlib.Omega.{arith}
use mathlib.Core.Bool.{Bool, true, false}
use mathlib.Core.List.{List, [], ◌∷◌, ◌++◌}
use mathlib.Core.Logic.{⊎_elim}
use mathlib.Core.Path.{◌≡◌, refl, ap}
use lib.ListN.{length, replicate, length-append}
use borrow.Author.Tests.{lt-ltb}
use Rattle.limits.specs.Limits.{MOST_COUNT}
use Rattle.area.proofs.Laws.{lt-or-ge}
use Rattle.varint.specs.Varint.{spelling}
use Rattle.plain.specs.Each.{Each}
use Rattle.plain.specs.Rows.{Row, same}
use Rattle.plain.specs.Plain.{joined}
use Rattle.plain.proofs.Same.{same-equal, same_self}
use Rattle.rle.specs.RunLength.{Run, run, runs_from, runs_of, counts_of}
use Rattle.block_laws.proofs.Runs.{spread, Counted}
use Rattle.repaired_laws.proofs.Spellings.{in-one-run, in-two-runs}

-- ---- a run, and rows of the next run behind it
-- equal rows join it as long as a count can be so large
join : (x : Row) (m n : ℕ) (ys : List Row) → m + n ≤ MOST_COUNT → runs_from x m (replicate n x ++ ys) ≡ runs_from x (m + n) ys
unfolding runs_from
join x m zero ys few = rw (add-zero m)
join x m (suc n) ys few =
    let below : m < MOST_COUNT = omega arith in
    let sum : m + suc n ≡ m + 1 + n = omega arith in
    rw (same_self x, lt-ltb m MOST_COUNT below, sum) (join x (m + 1) n ys (omega arith))

-- and else fill it, and are a run more
fill : (x : Row) (m n rest : ℕ) (ys : List Row) → m ≤ MOST_COUNT → rest < MOST_COUNT → m + n ≡ MOST_COUNT + suc rest
    → runs_from x m (replicate n x ++ ys) ≡ run x MOST_COUNT ∷ runs_from x (suc rest) ys
unfolding runs_from
fill x m zero rest ys few small e = absurd (omega arith)
fill x m (suc n) rest ys few small e = ⊎_elim
    (λ (l : m < MOST_COUNT). rw (same_self x, lt-ltb m MOST_COUNT l) (fill x (m + 1) n rest ys (omega arith) small (omega arith)))
    (λ (l : MOST_COUNT ≤ m).
    let full : m ≡ MOST_COUNT = omega arith in
    let left : n ≡ rest = omega arith in
    let sum : 1 + rest ≡ suc rest = omega arith in
    rw (full, left, same_self x) (ap (λ (rs : List Run). run x MOST_COUNT ∷ rs) (rw sum at (join x 1 rest ys (omega arith)))))
    (lt-or-ge m MOST_COUNT)

-- rows that differ from it are the next run
next : (r x : Row) (m n : ℕ) (ys : List Row) → same r x ≡ false → 0 < n → n ≤ MOST_COUNT
    → runs_from r m (replicate n x ++ ys) ≡ run r m ∷ runs_from x n ys
unfolding runs_from
next r x m zero ys e some few = absurd (omega arith)
next r x m (suc n) ys e some few =
    let sum : 1 + n ≡ suc n = omega arith in
    rw e (ap (λ (rs : List Run). run r m ∷ rs) (rw sum at (join x 1 n ys (omega arith))))

-- ---- no more runs than so many, and no more bytes
pub record AtMost (most bytes : ℕ) (rs : List Run) : Type 0 where
  pub runs : length rs ≤ most
  pub counts : length (counts_of rs) ≤ bytes

-- one more in front
one_more : {most bytes : ℕ} {rs : List Run} (r : Row) (n : ℕ) → AtMost most bytes rs → AtMost (suc most) (length (spelling n) + bytes) (run r n ∷ rs)
unfolding counts_of joined
one_more {most} {bytes} {rs} r n h =
    let l = length-append (spelling n) (counts_of rs) in
    record { runs = omega arith; counts = omega arith }

relaxed : {most bytes bytes' : ℕ} {rs : List Run} → AtMost most bytes rs → bytes ≤ bytes' → AtMost most bytes' rs
relaxed h l = record { runs = h.runs; counts = omega arith }

-- ---- a run before the rows of others
abbrev All : List Run → Type 0
All rs = (r : Row) (m : ℕ) → 0 < m → m ≤ MOST_COUNT → AtMost (suc (length rs)) (length (spelling m) + length (counts_of rs)) (runs_from r m (spread rs))

module _ (q : Run) (rs : List Run) (c : Counted q) (later : All rs) (r : Row) (m : ℕ) (some : 0 < m) (few : m ≤ MOST_COUNT) where
  abbrev Claim : List Row → Type 0
  Claim xs = AtMost (suc (suc (length rs))) (length (spelling m) + (length (spelling q.count) + length (counts_of rs))) (runs_from r m xs)

  differing : same r q.row ≡ false → Claim (replicate q.count q.row ++ spread rs)
  differing e = rw (next r q.row m q.count (spread rs) e c.0 (omega arith)) (one_more r m (later q.row q.count c.0 (omega arith)))

  equal : Claim (replicate q.count r ++ spread rs)
  equal = ⊎_elim
      (λ (l : MOST_COUNT < m + q.count).
      let rest : ℕ = m + q.count - suc MOST_COUNT in
      let sum : m + q.count ≡ MOST_COUNT + suc rest = omega arith in
      let s = in-two-runs m q.count (suc rest) few (omega arith) sum in
      rw (fill r m q.count rest (spread rs) few (omega arith) sum)
      (relaxed (one_more r MOST_COUNT (later r (suc rest) (omega arith) (omega arith))) (omega arith)))
      (λ (l : m + q.count ≤ MOST_COUNT).
      let s = in-one-run m q.count l in
      let h = later r (m + q.count) (omega arith) l in
      rw (join r m q.count (spread rs) l) (record { runs = omega arith; counts = omega arith }))
      (lt-or-ge MOST_COUNT (m + q.count))

  either : Claim (replicate q.count q.row ++ spread rs)
  either = go (same r q.row) refl
    where
      go : (t : Bool) → same r q.row ≡ t → Claim (replicate q.count q.row ++ spread rs)
      go true e = rw (← same-equal r q.row e) equal
      go false e = differing e

all : (rs : List Run) → Each Counted rs → All rs
unfolding spread runs_from counts_of joined
all [] h r m some few = one_more r m (record { runs = omega arith; counts = omega arith })
all (q ∷ rs) h r m some few =
    let l = length-append (spelling q.count) (counts_of rs) in
    relaxed (either q rs h.0 (all rs h.1) r m some few) (omega arith)

-- ---- the rows of some runs, each of which has a row and no more than a count can say
pub merged : (rs : List Run) → Each Counted rs → AtMost (length rs) (length (counts_of rs)) (runs_of (spread rs))
unfolding spread runs_of counts_of joined
merged [] h = record { runs = omega arith; counts = omega arith }
merged (q ∷ rs) h = go q.count refl
  where
    go : (n : ℕ) → q.count ≡ n → AtMost (suc (length rs)) (length (spelling q.count ++ counts_of rs)) (runs_of (replicate n q.row ++ spread rs))
    go zero e = absurd (omega (arith, h.0.0))
    go (suc n) e =
        let l = length-append (spelling q.count) (counts_of rs) in
        let sum : 1 + n ≡ q.count = omega arith in
        rw (join q.row 1 n (spread rs) (omega (arith, h.0.1)), sum)
        (relaxed (all rs h.1 q.row q.count h.0.0 (omega (arith, h.0.1))) (omega arith))
