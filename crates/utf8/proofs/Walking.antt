-- The walk over some bytes: what is due after them. Assumes nothing.
use Prim.Native.Nat.{ℕ, suc, ◌+◌, ◌-◌, ◌<◌, ◌≤◌}
use native.Mathlib.Nat.{add-zero}
use native.Mathlib.Omega.{arith}
use mathlib.Core.List.{List}
use mathlib.Core.Path.{◌≡◌}
use lib.ListN.{length, get_or, take, drop}
use lib.Seq.{drop-cons}
use Rattle.utf8.specs.Utf8.{next, after}
use Rattle.utf8.specs.States.{due_in}

-- after i of the n bytes: what is left decides
pub record Walking (s : List ℕ) (from n state i : ℕ) : Type 0 where
  pub rest : after (due_in state) (take (n - i) (drop (from + i) s)) ≡ after (due_in 0) (take n (drop from s))
  pub known : state < 9
  pub sound : i ≤ n

pub walking_start : (s : List ℕ) (from n : ℕ) → Walking s from n 0 0
walking_start s from n = let z : n - 0 ≡ n = omega arith in record { rest = rw (z, add-zero); known = omega arith; sound = omega arith }

module _ {s : List ℕ} {from n state i : ℕ} (w : Walking s from n state i) where
  pub walking-step :
      i < n → from + n ≤ length s → (b next-state : ℕ) → b ≡ get_or s (from + i) 0 → (next-state < 9) × (due_in next-state ≡ next (due_in state) b)
      → Walking s from n next-state (i + 1)
  unfolding after
  walking-step l r b next-state e m =
      let j : n - i ≡ suc (n - (i + 1)) = omega arith in
      let f : suc (from + i) ≡ from + (i + 1) = omega arith in
      let c : from + i < length s = omega arith in
      record {
        rest = rw (m.1, e, ← f) (rw (j, drop-cons s (from + i) 0 c) at w.rest);
        known = m.0;
        sound = omega arith;
      }

  pub walking-end : n ≤ i → due_in state ≡ after (due_in 0) (take n (drop from s))
  unfolding after
  walking-end h = let z : n - i ≡ 0 = omega arith in rw z at w.rest
