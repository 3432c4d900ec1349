-- How long the spellings of run counts are: a smaller count has no longer one, and the sum of two counts, in one run or in two, none that is longer
-- than theirs together. Assumes nothing.
use Prim.Native.Nat.{ℕ, ◌+◌, ◌^◌, ◌≤◌, ◌<◌}
use native.Mathlib.Omega.{arith}
use mathlib.Core.Logic.{⊎_elim}
use mathlib.Core.Path.{◌≡◌}
use lib.ListN.{length}
use Rattle.limits.specs.Limits.{MOST_COUNT}
use Rattle.area.proofs.Laws.{lt-or-ge}
use Rattle.varint.specs.Varint.{spelling}
use Rattle.varint.proofs.Spelling.{spell-some, size1, size2, size3, size4, size5}

abbrev size : ℕ → ℕ
size v = length (spelling v)

some_bytes : (v : ℕ) → 1 ≤ size v
unfolding spelling
some_bytes v = spell-some 4 v

-- ---- by the number of bytes of a count: what holds of each that is as large holds of its own
by_size :
    (P : ℕ → Type 0) (m : ℕ) → m < 2 ^ 32 → (m < 128 → P 1) → (m < 16384 → P 2) → (m < 2097152 → P 3) → (m < 268435456 → P 4) → P 5
    → P (size m)
by_size P m h one two three four five = ⊎_elim
    (λ (a : m < 128). rw (← size1 m a) (one a))
    (λ (a : 128 ≤ m). ⊎_elim
    (λ (b : m < 16384). rw (← size2 m a b) (two b))
    (λ (b : 16384 ≤ m). ⊎_elim
    (λ (c : m < 2097152). rw (← size3 m b c) (three c))
    (λ (c : 2097152 ≤ m). ⊎_elim
    (λ (d : m < 268435456). rw (← size4 m c d) (four d))
    (λ (d : 268435456 ≤ m). rw (← size5 m d h) five)
    (lt-or-ge m 268435456))
    (lt-or-ge m 2097152))
    (lt-or-ge m 16384))
    (lt-or-ge m 128)

-- ---- counts below a limit
below1 : (v : ℕ) → v < 128 → size v ≤ 1
below1 v h = omega (arith, size1 v h)

below2 : (v : ℕ) → v < 16384 → size v ≤ 2
below2 v h = ⊎_elim (λ (a : v < 128). omega (arith, size1 v a)) (λ (a : 128 ≤ v). omega (arith, size2 v a h)) (lt-or-ge v 128)

below3 : (v : ℕ) → v < 2097152 → size v ≤ 3
below3 v h = ⊎_elim (λ (a : v < 16384). omega (arith, below2 v a)) (λ (a : 16384 ≤ v). omega (arith, size3 v a h)) (lt-or-ge v 16384)

below4 : (v : ℕ) → v < 268435456 → size v ≤ 4
below4 v h = ⊎_elim (λ (a : v < 2097152). omega (arith, below3 v a)) (λ (a : 2097152 ≤ v). omega (arith, size4 v a h)) (lt-or-ge v 2097152)

pub below5 : (v : ℕ) → v < 2 ^ 32 → size v ≤ 5
below5 v h = ⊎_elim (λ (a : v < 268435456). omega (arith, below4 v a)) (λ (a : 268435456 ≤ v). omega (arith, size5 v a h)) (lt-or-ge v 268435456)

-- ---- a count that isn't larger, and one that is at most twice as large
no-larger : (v m : ℕ) → m < 2 ^ 32 → v ≤ m → size v ≤ size m
no-larger v m h l =
    by_size (λ n. size v ≤ n) m h
    (λ a. below1 v (omega arith)) (λ a. below2 v (omega arith)) (λ a. below3 v (omega arith)) (λ a. below4 v (omega arith)) (below5 v (omega arith))

twice : (v m : ℕ) → m < 2 ^ 32 → v < 2 ^ 32 → v ≤ m + m → size v ≤ size m + 1
twice v m h g l =
    by_size (λ n. size v ≤ n + 1) m h
    (λ a. below2 v (omega arith)) (λ a. below3 v (omega arith)) (λ a. below4 v (omega arith)) (λ a. below5 v g) (omega (arith, below5 v g))

-- ---- two counts in one run
pub in-one-run : (a b : ℕ) → a + b ≤ MOST_COUNT → length (spelling (a + b)) ≤ length (spelling a) + length (spelling b)
in-one-run a b h = ⊎_elim
    (λ (l : a < b). omega (arith, twice (a + b) b (omega arith) (omega arith) (omega arith), some_bytes a))
    (λ (l : b ≤ a). omega (arith, twice (a + b) a (omega arith) (omega arith) (omega arith), some_bytes b))
    (lt-or-ge a b)

-- ---- in two, of which the first is full: one of the counts has five bytes, and the other is no smaller than the rest
pub in-two-runs :
    (a b rest : ℕ) → a ≤ MOST_COUNT → b ≤ MOST_COUNT → a + b ≡ MOST_COUNT + rest
    → length (spelling MOST_COUNT) + length (spelling rest) ≤ length (spelling a) + length (spelling b)
in-two-runs a b rest h g e = ⊎_elim
    (λ (l : a < b). omega (arith, size5 b (omega arith) (omega arith), no-larger rest a (omega arith) (omega arith), below5 MOST_COUNT (omega arith)))
    (λ (l : b ≤ a). omega (arith, size5 a (omega arith) (omega arith), no-larger rest b (omega arith) (omega arith), below5 MOST_COUNT (omega arith)))
    (lt-or-ge a b)
