-- The loops that fill, copy, repeat and climb: what each keeps true, and that it ends in what its contract says. Assumes nothing.
use Prim.Native.Nat.{ℕ, zero, suc, ◌+◌, ◌-◌, ◌*◌, ◌^◌, ◌≤◌, ◌<◌}
use native.Mathlib.Nat.{add-zero, suc-mul}
use native.Mathlib.Numerals.{add-one}
use native.Mathlib.Omega.{arith}
use mathlib.Core.Path.{◌≡◌, refl, ap, ◌∙◌}
use mathlib.Core.List.{List, ◌∷◌, ◌++◌}
use lib.ListN.{length, take, drop, get_or, set, replicate, length-set, length-drop}
use lib.Seq.{sets, length-sets, drop-cons, length-take-le}
use Rattle.area.specs.Area.{repeats, climbs}
use Rattle.area.proofs.Laws.{sets-append}

-- ---- `fill`: what is still to be stored, laid over what is there, is the answer
pub record Filling {A : Type 0} (dst₀ : List A) (at n : ℕ) (x : A) (dst : List A) (i : ℕ) : Type 0 where
  pub same : sets dst i (replicate (at + n - i) x) ≡ sets dst₀ at (replicate n x)
  pub hi : i ≤ at + n
  pub room : at + n ≤ length dst
  pub long : length dst ≡ length dst₀

module _ {A : Type 0} where
  pub filling-start : (dst : List A) (at n : ℕ) (x : A) → at + n ≤ length dst → Filling dst at n x dst at
  filling-start dst at n x r = let m : at + n - at ≡ n = omega arith in record { same = rw m; hi = omega arith; room = r; long = refl }

  module _ {dst₀ : List A} {at n : ℕ} {x : A} {dst : List A} {i : ℕ} (f : Filling dst₀ at n x dst i) where
    pub filling_step : i < at + n → Filling dst₀ at n x (set dst i x) (i + 1)
    filling_step h =
        let m : at + n - i ≡ suc (at + n - (i + 1)) = omega arith in
        record {
          same = rw add-one (rw (m, add-one) at f.same);
          hi = omega arith;
          room = omega (arith, length-set dst i x, f.room);
          long = length-set dst i x ∙ f.long;
        }

    pub filling-end : at + n ≤ i → dst ≡ sets dst₀ at (replicate n x)
    filling-end h = let m : at + n - i ≡ 0 = omega arith in rw m at f.same

part_length : (src : List ℕ) (from n : ℕ) → from + n ≤ length src → length (take n (drop from src)) ≡ n
part_length src from n h = length-take-le n (drop from src) (simp length-drop (omega arith))

-- ---- `copy`
pub record Copying (src : List ℕ) (from n : ℕ) (dst₀ : List ℕ) (at : ℕ) (dst : List ℕ) (i : ℕ) : Type 0 where
  pub same : sets dst (at + i) (take (n - i) (drop (from + i) src)) ≡ sets dst₀ at (take n (drop from src))
  pub hi : i ≤ n
  pub room : at + n ≤ length dst
  pub long : length dst ≡ length dst₀

pub copying-start : (src : List ℕ) (from n : ℕ) (dst : List ℕ) (at : ℕ) → at + n ≤ length dst → Copying src from n dst at dst 0
copying-start src from n dst at r =
    let m : n - 0 ≡ n = omega arith in
    record { same = rw (add-zero at, add-zero from, m); hi = omega arith; room = r; long = refl }

module _ {src : List ℕ} {from n : ℕ} {dst₀ : List ℕ} {at : ℕ} {dst : List ℕ} {i : ℕ} (c : Copying src from n dst₀ at dst i) where
  pub copying-step : i < n → from + n ≤ length src → Copying src from n dst₀ at (set dst (at + i) (get_or src (from + i) 0)) (i + 1)
  copying-step h k =
      let m : n - i ≡ suc (n - (i + 1)) = omega arith in
      let a : at + (i + 1) ≡ suc (at + i) = omega arith in
      let b : from + (i + 1) ≡ suc (from + i) = omega arith in
      let l = length-set dst (at + i) (get_or src (from + i) 0) in
      record {
        same = rw (a, b) (rw (m, drop-cons src (from + i) 0 (omega arith)) at c.same);
        hi = omega arith;
        room = omega (arith, c.room, l);
        long = l ∙ c.long;
      }

  pub copying-end : n ≤ i → dst ≡ sets dst₀ at (take n (drop from src))
  copying-end h = let m : n - i ≡ 0 = omega arith in rw m at c.same

-- ---- `copies`
pub record Repeating (src : List ℕ) (from n : ℕ) (dst₀ : List ℕ) (at times : ℕ) (dst : List ℕ) (left to : ℕ) : Type 0 where
  pub same : sets dst to (repeats left (take n (drop from src))) ≡ sets dst₀ at (repeats times (take n (drop from src)))
  pub room : to + left * n ≤ length dst
  pub long : length dst ≡ length dst₀

-- a product falls by its second factor when the first falls by one
one_less : (left d : ℕ) → 0 < left → left * d ≡ d + (left - 1) * d
one_less zero d h = absurd (omega arith)
one_less (suc k) d h = let m : suc k - 1 ≡ k = omega arith in rw (m, suc-mul k d) (omega arith)

repeat-more : (left : ℕ) (xs : List ℕ) → 0 < left → repeats left xs ≡ xs ++ repeats (left - 1) xs
unfolding repeats
repeat-more zero xs h = absurd (omega arith)
repeat-more (suc k) xs h = let m : suc k - 1 ≡ k = omega arith in rw m

pub repeating-start : (src : List ℕ) (from n : ℕ) (dst : List ℕ) (at times : ℕ) → at + times * n ≤ length dst
    → Repeating src from n dst at times dst (times - 0) at
repeating-start src from n dst at times h =
    let m : times - 0 ≡ times = omega arith in rw m (record { same = refl; room = h; long = refl })

module _ {src : List ℕ} {from n : ℕ} {dst₀ : List ℕ} {at times : ℕ} {dst : List ℕ} {left to : ℕ} (c : Repeating src from n dst₀ at times dst left to) where
  pub repeating-room : 0 < left → to + n ≤ length dst
  repeating-room h = omega (arith, c.room, one_less left n h)

  pub repeating-step :
      {dst' : List ℕ} → 0 < left → from + n ≤ length src → dst' ≡ sets dst to (take n (drop from src))
      → Repeating src from n dst₀ at times dst' (left - 1) (to + n)
  repeating-step {dst'} h k q =
      let xs : List ℕ = take n (drop from src) in
      let p : length xs ≡ n = part_length src from n k in
      let l : length dst' ≡ length dst = ap length q ∙ length-sets dst to xs in
      record {
        same = rw q (rw (repeat-more left xs h, sets-append xs (repeats (left - 1) xs) dst to, p) at c.same);
        room = omega (arith, c.room, one_less left n h, l);
        long = l ∙ c.long;
      }

  pub repeating-end : left ≤ 0 → dst ≡ sets dst₀ at (repeats times (take n (drop from src)))
  unfolding repeats
  repeating-end h = let m : left ≡ 0 = omega arith in rw m at c.same

-- ---- `climb`
pub record Climbing (dst₀ : List ℕ) (at n start step : ℕ) (dst : List ℕ) (left i end : ℕ) : Type 0 where
  pub same : sets dst i (climbs left end step) ≡ sets dst₀ at (climbs n start step)
  pub room : i + left ≤ length dst
  pub small : end + left * step < 2 ^ 32
  pub long : length dst ≡ length dst₀

climb-more : (left end step : ℕ) → 0 < left → climbs left end step ≡ (end + step) ∷ climbs (left - 1) (end + step) step
unfolding climbs
climb-more zero end step h = absurd (omega arith)
climb-more (suc k) end step h = let m : suc k - 1 ≡ k = omega arith in rw m

pub climbing-start : (dst : List ℕ) (at n start step : ℕ) → at + n ≤ length dst → start + n * step < 2 ^ 32
    → Climbing dst at n start step dst (at + n - at) at start
climbing-start dst at n start step r h =
    let m : at + n - at ≡ n = omega arith in rw m (record { same = refl; room = r; small = h; long = refl })

module _ {dst₀ : List ℕ} {at n start step : ℕ} {dst : List ℕ} {left i end : ℕ} (c : Climbing dst₀ at n start step dst left i end) where
  pub climbing-small : 0 < left → end + step < 2 ^ 32
  climbing-small h = omega (arith, c.small, one_less left step h)

  pub climbing-step : 0 < left → Climbing dst₀ at n start step (set dst i (end + step)) (left - 1) (i + 1) (end + step)
  climbing-step h =
      let l = length-set dst i (end + step) in
      record {
        same = rw (add-one i) (rw (climb-more left end step h) at c.same);
        room = omega (arith, c.room, l);
        small = omega (arith, c.small, one_less left step h);
        long = l ∙ c.long;
      }

  pub climbing-end : left ≤ 0 → dst ≡ sets dst₀ at (climbs n start step)
  unfolding climbs
  climbing-end h = let m : left ≡ 0 = omega arith in rw m at c.same
