-- What is written is read back: a spelling, followed by anything, decodes to its number and its length. And how long spellings are. Assumes nothing.
use Rattle.std.specs.Prelude.{Option}
use Prim.Native.Nat.{ℕ, zero, suc, ◌+◌, ◌-◌, ◌*◌, ◌/◌, ◌%◌, ◌^◌, ◌≤◌, ◌<◌}
use native.Mathlib.Numerals.{add-one}
use native.Mathlib.Omega.{arith}
use mathlib.Core.Bool.{cond}
use mathlib.Core.Logic.{⊎_elim}
use mathlib.Core.Path.{◌≡◌, refl, sym, ◌∙◌}
use mathlib.Core.List.{List, ◌∷◌, ◌++◌, append_assoc}
use lib.Dec.{ltb}
use lib.ListN.{length, take, drop}
use lib.Seq.{drop_at, length-take-le}
use borrow.Author.Tests.{lt-ltb, le-ltb, ne_eqb}
use Rattle.area.specs.Area.{over}
use Rattle.varint.specs.declared.Count.{Count}
use Rattle.varint.specs.Varint.{counted, more, count_within, in_32_bits, count_of, count_at, spell_within, spelling}
use Rattle.area.proofs.Laws.{lt-or-ge}
use Rattle.varint.proofs.Spelling.{spell_last, spell-more, size1, size2, size3, size4, size5}

count-last : (k b : ℕ) (s : List ℕ) → b < 128 → count_within (suc k) (b ∷ s) ≡ counted b 1
unfolding count_within
count-last k b s h = simp (lt-ltb _ _ h)

count-more : (k b : ℕ) (s : List ℕ) → 128 ≤ b → count_within (suc k) (b ∷ s) ≡ more (b - 128) (count_within k s)
unfolding count_within
count-more k b s h = simp (le-ltb _ _ h)

more-is : (low v n m w : ℕ) (r : Option Count) → r ≡ counted v n → 0 < v → low + 128 * v ≡ w → suc n ≡ m → more low r ≡ counted w m
unfolding more
more-is low v n m w r e z p q = let some = ne_eqb v 0 (λ (h : v ≡ 0). omega arith) in rw (e, some, p, add-one, q)

-- by the bytes that are allowed: seven bits each
count-spell : (k v : ℕ) (rest : List ℕ) → v < 128 ^ suc k
    → count_within (suc k) (spell_within (suc k) v ++ rest) ≡ counted v (length (spell_within (suc k) v))
count-spell zero v rest h = rw (spell_last 0 v h) (count-last 0 v rest h)
count-spell (suc k) v rest h = go (count-spell k (v / 128) rest (omega arith))
  where
    go : count_within (suc k) (spell_within (suc k) (v / 128) ++ rest) ≡ counted (v / 128) (length (spell_within (suc k) (v / 128)))
        → count_within (suc (suc k)) (spell_within (suc (suc k)) v ++ rest) ≡ counted v (length (spell_within (suc (suc k)) v))
    go ih = ⊎_elim
        (λ (l : v < 128). rw (spell_last (suc k) v l) (count-last (suc k) v rest l))
        (λ (l : 128 ≤ v). rw (spell-more (suc k) v l)
        (count-more (suc k) (128 + v % 128) (spell_within (suc k) (v / 128) ++ rest) (omega arith) ∙ more-is _ _ _ _ _ _ ih (omega arith) (omega arith) refl))
        (lt-or-ge v 128)

-- ---- the round trip: at the head of a list, and at a place of an area that it was laid over
pub round_trip : (v : ℕ) (rest : List ℕ) → v < 2 ^ 32 → count_of (spelling v ++ rest) ≡ counted v (length (spelling v))
unfolding count_of spelling in_32_bits
round_trip v rest h = rw (count-spell 4 v rest (omega arith)) (simp (lt-ltb _ _ h))

pub round-trip-at : (area : List ℕ) (at v : ℕ) → v < 2 ^ 32 → at + length (spelling v) ≤ length area
    → count_at (over area at (spelling v)) at ≡ counted v (length (spelling v))
unfolding count_at over
round-trip-at area at v h r =
    let l : length (take at area) ≡ at = length-take-le at area (omega arith) in
    rw (append_assoc, drop_at (take at area) (spelling v ++ drop (at + length (spelling v)) area) at l) (round_trip v _ h)

-- ---- how long a spelling is: one byte for each seven bits
abbrev pub size_of : ℕ → ℕ
size_of v = cond (ltb v 128) 1 (cond (ltb v 16384) 2 (cond (ltb v 2097152) 3 (cond (ltb v 268435456) 4 5)))

-- the five ranges of numbers, with the size of each
data Size (v : ℕ) : ℕ → Type 0 where
  one : v < 128 → Size v 1
  two : 128 ≤ v → v < 16384 → Size v 2
  three : 16384 ≤ v → v < 2097152 → Size v 3
  four : 2097152 ≤ v → v < 268435456 → Size v 4
  five : 268435456 ≤ v → Size v 5

sizes : (v : ℕ) → v < 2 ^ 32 → Size v (length (spelling v))
sizes v h = ⊎_elim
    (λ (a : v < 128). rw (← size1 v a) (one a))
    (λ (a : 128 ≤ v). ⊎_elim
    (λ (b : v < 16384). rw (← size2 v a b) (two a b))
    (λ (b : 16384 ≤ v). ⊎_elim
    (λ (d : v < 2097152). rw (← size3 v b d) (three b d))
    (λ (d : 2097152 ≤ v). ⊎_elim
    (λ (e : v < 268435456). rw (← size4 v d e) (four d e))
    (λ (e : 268435456 ≤ v). rw (← size5 v e h) (five e))
    (lt-or-ge v 268435456))
    (lt-or-ge v 2097152))
    (lt-or-ge v 16384))
    (lt-or-ge v 128)

size_is : {v n : ℕ} → Size v n → n ≡ size_of v
size_is (one a) = simp (lt-ltb _ _ a)
size_is (two a b) = simp (le-ltb _ _ a, lt-ltb _ _ b)
size_is {v} (three a b) = let l : 128 ≤ v = omega arith in simp (le-ltb _ _ l, le-ltb _ _ a, lt-ltb _ _ b)
size_is {v} (four a b) =
    let l : 128 ≤ v = omega arith in
    let m : 16384 ≤ v = omega arith in
    simp (le-ltb _ _ l, le-ltb _ _ m, le-ltb _ _ a, lt-ltb _ _ b)
size_is {v} (five a) =
    let l : 128 ≤ v = omega arith in
    let m : 16384 ≤ v = omega arith in
    let o : 2097152 ≤ v = omega arith in
    simp (le-ltb _ _ l, le-ltb _ _ m, le-ltb _ _ o, le-ltb _ _ a)

pub spelling-size : (v : ℕ) → v < 2 ^ 32 → length (spelling v) ≡ size_of v
spelling-size v h = size_is (sizes v h)

-- and so the numbers of each size are exactly these
abbrev pub Exactly : Type 0 → Type 0 → Type 0
Exactly A B = (A → B) × (B → A)

module _ (v : ℕ) (h : v < 2 ^ 32) where
  -- how a range follows from a size, of the ranges above
  sized : (n : ℕ) → length (spelling v) ≡ n → Size v n
  sized n e = rw e at (sizes v h)

  pub one_byte : Exactly (length (spelling v) ≡ 1) (v < 128)
  one_byte = (λ e. go (sized 1 e), λ a. sym (size1 v a))
    where
      go : Size v 1 → v < 128
      go (one a) = a

  pub two_bytes : Exactly (length (spelling v) ≡ 2) ((128 ≤ v) × (v < 16384))
  two_bytes = (λ e. go (sized 2 e), λ a. sym (size2 v a.0 a.1))
    where
      go : Size v 2 → (128 ≤ v) × (v < 16384)
      go (two a b) = (a, b)

  pub three-bytes : Exactly (length (spelling v) ≡ 3) ((16384 ≤ v) × (v < 2097152))
  three-bytes = (λ e. go (sized 3 e), λ a. sym (size3 v a.0 a.1))
    where
      go : Size v 3 → (16384 ≤ v) × (v < 2097152)
      go (three a b) = (a, b)

  pub four_bytes : Exactly (length (spelling v) ≡ 4) ((2097152 ≤ v) × (v < 268435456))
  four_bytes = (λ e. go (sized 4 e), λ a. sym (size4 v a.0 a.1))
    where
      go : Size v 4 → (2097152 ≤ v) × (v < 268435456)
      go (four a b) = (a, b)

  pub five-bytes : Exactly (length (spelling v) ≡ 5) (268435456 ≤ v)
  five-bytes = (λ e. go (sized 5 e), λ a. sym (size5 v a h))
    where
      go : Size v 5 → 268435456 ≤ v
      go (five a) = a
