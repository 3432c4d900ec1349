-- A bitmap's bytes: the whole ones are those held, and of the last one the unused bits are 0. Assumes nothing.
use Prim.Native.Nat.{ℕ, zero, suc, ◌+◌, ◌-◌, ◌*◌, ◌/◌, ◌%◌, ◌^◌, ◌≤◌, ◌<◌, min}
use native.Mathlib.Nat.{zero-add, one-mul, mod-eq_of_lt}
use native.Mathlib.Omega.{arith}
use mathlib.Core.Path.{◌≡◌, refl, sym, ap, ◌∙◌}
use mathlib.Core.List.{List, [], ◌∷◌, ◌++◌, map}
use lib.Dec.{lit<}
use lib.ListN.{length, take, drop, get_or, set}
use lib.Pow.{shl_exact}
use lib.Seq.{sets, drop-cons, length-take-le}
use Rattle.area.proofs.Laws.{sets-append}
use Rattle.plain.specs.Plain.{places}
use Rattle.plain.proofs.Places.{over_add, over-same}
use Rattle.nullable.specs.Nullable.{bitmap_length}
use Rattle.emit.specs.Parts.{held_byte, held_bitmap}

-- a one that is moved by fewer than eight bits stays in its byte
pub moved : (n : ℕ) → n < 8 → 1 * 2 ^ n % 2 ^ 8 ≡ 2 ^ n
moved n h = shl_exact {a = 1} 1 n 8 (lit< tt) (omega arith) ∙ one-mul (2 ^ n)

taken : (xs : List ℕ) (n i : ℕ) → i + n ≤ length xs → map (λ (k : ℕ). get_or xs k 0) (places n i) ≡ take n (drop i xs)
unfolding places
taken xs zero i h = refl
taken xs (suc n) i h = rw (drop-cons xs i 0 (omega arith)) (ap (λ (l : List ℕ). get_or xs i 0 ∷ l) (taken xs n (suc i) (omega arith)))

module _ (n : ℕ) (flags : List ℕ) where
  byte-whole : (k : ℕ) → get_or flags k 0 < 256 → 8 * k + 8 ≤ n → held_byte n flags k ≡ get_or flags k 0
  unfolding held_byte
  byte-whole k b h = let m : min 8 (n - 8 * k) ≡ 8 = omega arith in rw m (mod-eq_of_lt b)

  byte_last : held_byte n flags (n / 8) ≡ get_or flags (n / 8) 0 % 2 ^ (n % 8)
  unfolding held_byte
  byte_last = let m : min 8 (n - 8 * (n / 8)) ≡ n % 8 = omega arith in rw m

  module _ (small : (k : ℕ) → get_or flags k 0 < 256) (there : n / 8 ≤ length flags) where
    whole : map (held_byte n flags) (places (n / 8) 0) ≡ take (n / 8) flags
    whole =
        over-same (held_byte n flags) (λ k. get_or flags k 0) (n / 8) 0 (λ k a b. byte-whole k (small k) (omega arith))
        ∙ taken flags (n / 8) 0 (omega arith)

    bits-whole : n % 8 ≡ 0 → take (n / 8) flags ≡ held_bitmap n flags
    unfolding held_bitmap bitmap_length
    bits-whole h = let m : (n + 7) / 8 ≡ n / 8 = omega arith in rw m (sym whole)

    bits-rest : (n % 8 ≡ 0 → ⊥) → take (n / 8) flags ++ (get_or flags (n / 8) 0 % 2 ^ (n % 8) ∷ []) ≡ held_bitmap n flags
    unfolding held_bitmap bitmap_length places
    bits-rest h =
        let m : (n + 7) / 8 ≡ n / 8 + 1 = omega arith in
        rw (m, over_add (held_byte n flags) (n / 8) 1 0, whole, zero-add (n / 8), byte_last)

    -- the whole bytes are written; and where bits are left, the last byte behind them
    module _ (d : List ℕ) (at : ℕ) {out : List ℕ} where
      pub laid-whole : n % 8 ≡ 0 → out ≡ sets d at (take (n / 8) flags) → out ≡ sets d at (held_bitmap n flags)
      laid-whole h q = q ∙ ap (sets d at) (bits-whole h)

      pub laid-rest :
          {x : ℕ} → (n % 8 ≡ 0 → ⊥) → x ≡ get_or flags (n / 8) 0 % 2 ^ (n % 8) → out ≡ sets d at (take (n / 8) flags)
          → set out (at + n / 8) x ≡ sets d at (held_bitmap n flags)
      laid-rest {x} h e q =
          let b : ℕ = get_or flags (n / 8) 0 % 2 ^ (n % 8) in
          ap (λ (l : List ℕ). set l (at + n / 8) x) q
          ∙ ap (λ (y : ℕ). set (sets d at (take (n / 8) flags)) (at + n / 8) y) e
          ∙ ap (λ (k : ℕ). set (sets d at (take (n / 8) flags)) (at + k) b) (sym (length-take-le (n / 8) flags there))
          ∙ sym (sets-append (take (n / 8) flags) (b ∷ []) d at)
          ∙ ap (sets d at) (bits-rest h)
