-- No row has been shown: a bitmap of zeros marks none. Assumes nothing.
use Prim.Native.Nat.{ℕ, zero, suc, ◌*◌, ◌/◌, ◌≤◌}
use native.Mathlib.Nat.{zero-div}
use native.Mathlib.Omega.{arith}
use mathlib.Core.Path.{◌≡◌, refl}
use mathlib.Core.List.{List, []}
use lib.ListN.{length, get_or, replicate, length-replicate}
use Rattle.encode.specs.declared.Kind.{Kind}
use Rattle.nullable.specs.Nullable.{bit_at}
use Rattle.dict.specs.Dictionary.{index_of}
use Rattle.used.specs.Used.{Used, Met, Shown}

abbrev zeros : ℕ → List ℕ
zeros m = replicate m 0

zero-byte : (m i : ℕ) → get_or (zeros m) i 0 ≡ 0
zero-byte zero i = refl
zero-byte (suc m) zero = refl
zero-byte (suc m) (suc i) = zero-byte m i

zero_bit : (m j : ℕ) → bit_at (zeros m) j ≡ 0
unfolding bit_at
zero_bit m j = rw (zero-byte m (j / 8), zero-div)

pub used-none : (k : Kind) (n : ℕ) (items : List ℕ) (m : ℕ) → n ≤ 8 * m → Used k n items (replicate m 0) []
unfolding index_of
used-none k n items m h =
    let l : length (zeros m) ≡ m = length-replicate m 0 in
    record {
      firsts = record { long = omega arith; first = λ j l b. let z = zero_bit m j in absurd (omega arith) };
      marked = λ j l f. rw (zero_bit m j);
    }

met-none : (k : Kind) (n : ℕ) (items : List ℕ) (m : ℕ) → n ≤ 8 * m → Met k n items (replicate m 0) []
met-none k n items m h =
    let l : length (zeros m) ≡ m = length-replicate m 0 in
    record { long = omega arith; there = λ j l b. let z = zero_bit m j in absurd (omega arith) }

-- where a bitmap marks none already; where both are zeros
pub shown-unmet : {k : Kind} {n : ℕ} {items bits : List ℕ} → Used k n items bits [] → (m : ℕ) → n ≤ 8 * m → Shown k n items bits (replicate m 0) []
shown-unmet {k} {n} {items} u m h = record { used = u; those-met = met-none k n items m h }

pub shown-none : (k : Kind) (n : ℕ) (items : List ℕ) (m m' : ℕ) → n ≤ 8 * m → n ≤ 8 * m' → Shown k n items (replicate m 0) (replicate m' 0) []
shown-none k n items m m' h h' = shown-unmet (used-none k n items m h) m' h'
