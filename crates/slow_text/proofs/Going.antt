-- One byte more, by what is due; and the walk over some bytes. Assumes nothing.
use Prim.Native.Nat.{ℕ, zero, suc, ◌+◌, ◌-◌, ◌<◌, ◌≤◌}
use native.Mathlib.Nat.{add-zero}
use native.Mathlib.Omega.{arith}
use mathlib.Core.Bool.{true, false}
use mathlib.Core.List.{List, [], ◌∷◌}
use mathlib.Core.Path.{◌≡◌, refl, sym, ap, ◌∙◌}
use lib.Dec.{eqb}
use lib.ListN.{length, get_or, take, drop}
use lib.Seq.{drop-cons}
use borrow.Author.Tests.{le-leb, lt-leb}
use Rattle.std.specs.Prelude.{Option, Some, None}
use Rattle.utf8.specs.Utf8.{due, never, from, within, forms, start_in, next, after, whole, is_text}
use Rattle.slow_text.specs.declared.Due.{Due as Record}
use Rattle.slow_text.specs.Due.{due_by, due_of, IsFew}

-- ---- one byte more
module _ (low high b : ℕ) where
  pub next-first : (left : ℕ) → left ≡ 0 → start_in forms b ≡ next (due_by left low high) b
  next-first left e = rw e

  -- one, two or three are due
  pub next-out : (left : ℕ) → 0 < left → left < 4 → within (from low high) b ≡ false → never ≡ next (due_by left low high) b
  next-out zero h l e = absurd (omega arith)
  next-out (suc zero) h l e = rw e
  next-out (suc (suc zero)) h l e = rw e
  next-out (suc (suc (suc zero))) h l e = rw e
  next-out (suc (suc (suc (suc left)))) h l e = absurd (omega arith)

  pub next-in : (left : ℕ) → 0 < left → left < 4 → within (from low high) b ≡ true → due_by (left - 1) 0x80 0xbf ≡ next (due_by left low high) b
  next-in zero h l e = absurd (omega arith)
  next-in (suc zero) h l e = rw e
  next-in (suc (suc zero)) h l e = rw e
  next-in (suc (suc (suc zero))) h l e = rw e
  next-in (suc (suc (suc (suc left)))) h l e = absurd (omega arith)

  pub out-low : b < low → within (from low high) b ≡ false
  out-low h = simp (lt-leb low b h)

  pub out-high : low ≤ b → high < b → within (from low high) b ≡ false
  out-high l h = simp (le-leb low b l, lt-leb b high h)

  pub in_both : low ≤ b → b ≤ high → within (from low high) b ≡ true
  in_both l h = simp (le-leb low b l, le-leb b high h)

-- ---- the walk: i of the n bytes are passed, and what is left decides
whole_of : (left low high : ℕ) → left ≤ 3 → eqb left 0 ≡ whole (due_by left low high)
whole_of zero low high h = refl
whole_of (suc zero) low high h = refl
whole_of (suc (suc zero)) low high h = refl
whole_of (suc (suc (suc zero))) low high h = refl
whole_of (suc (suc (suc (suc left)))) low high h = absurd (omega arith)

pub record Going (s : List ℕ) (from n : ℕ) (d : Option Record) (i : ℕ) : Type 0 where
  pub rest : after (due_of d) (take (n - i) (drop (from + i) s)) ≡ after (due []) (take n (drop from s))
  pub known : IsFew d
  pub sound : i ≤ n

pub going_start : (s : List ℕ) (from n : ℕ) (d : Option Record) → (due_of d ≡ due []) × IsFew d → Going s from n d 0
going_start s from n d e = let z : n - 0 ≡ n = omega arith in record { rest = rw (z, add-zero, e.0); known = e.1; sound = omega arith }

module _ {s : List ℕ} {from n : ℕ} {d : Option Record} {i : ℕ} (w : Going s from n d i) where
  pub going_step : i < n → from + n ≤ length s → {b : ℕ} {e : Option Record} → b ≡ get_or s (from + i) 0 → (due_of e ≡ next (due_of d) b) × IsFew e → Going s from n e (i + 1)
  unfolding after
  going_step l r {b} {e} is m =
      let j : n - i ≡ suc (n - (i + 1)) = omega arith in
      let f : suc (from + i) ≡ from + (i + 1) = omega arith in
      let c : from + i < length s = omega arith in
      record {
        rest = rw (m.0, is, ← f) (rw (j, drop-cons s (from + i) 0 c) at w.rest);
        known = m.1;
        sound = omega arith;
      }

-- what nothing can mend stays so, whatever is left
after-never : (s : List ℕ) → after never s ≡ never
unfolding after
after-never [] = refl
after-never (b ∷ s) = after-never s

module _ {s : List ℕ} {from n : ℕ} {d : Option Record} {i : ℕ} (w : Going s from n d i) where
  pub going_never : d ≡ None → false ≡ is_text (take n (drop from s))
  unfolding is_text
  going_never e =
      let never-left : after never (take (n - i) (drop (from + i) s)) ≡ after (due []) (take n (drop from s)) = rw e at w.rest in
      sym (ap whole (after-never (take (n - i) (drop (from + i) s)))) ∙ ap whole never-left

-- the end of the walk
module _ {s : List ℕ} {from n : ℕ} {x : Record} {i : ℕ} (w : Going s from n (Some x) i) where
  pub going_end : n ≤ i → eqb x.left 0 ≡ is_text (take n (drop from s))
  unfolding after is_text
  going_end h = let z : n - i ≡ 0 = omega arith in whole_of x.left x.low x.high w.known ∙ ap whole (rw z at w.rest)
