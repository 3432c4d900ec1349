-- The loop that stores the ends of texts: what is still to be stored, and what the texts come to. Assumes nothing.
use mathlib.Core.Path.{◌≡◌, refl, ◌∙◌}
use mathlib.Core.List.{List, ◌++◌, map}
use Prim.Native.Nat.{ℕ, suc, ◌+◌, ◌-◌, ◌*◌, ◌≤◌, ◌<◌}
use native.Mathlib.Nat.{add-zero}
use native.Mathlib.Numerals.{add-one}
use native.Mathlib.Omega.{arith}
use lib.ListN.{length, set, length-set, length-append}
use lib.Seq.{sets}
use Rattle.limits.specs.Limits.{MOST_WIDTH}
use Rattle.plain.specs.Plain.{places, joined, ends_from, char_at}

pub record EndsStored (w : ℕ) (s : List ℕ) (from n : ℕ) (ends₀ ends : List ℕ) (total i : ℕ) : Type 0 where
  pub rest : sets ends i (ends_from total (map (char_at w s) (places (n - i) (from + i)))) ≡ sets ends₀ 0 (ends_from 0 (map (char_at w s) (places n from)))
  pub sum : total + length (joined (char_at w s) (places (n - i) (from + i))) ≡ length (joined (char_at w s) (places n from))
  pub few : total ≤ MOST_WIDTH * i
  pub room : length ends ≡ length ends₀
  pub sound : i ≤ n

pub stored-start : (w : ℕ) (s : List ℕ) (from n : ℕ) (ends : List ℕ) → EndsStored w s from n ends ends 0 0
stored-start w s from n ends =
    let z : n - 0 ≡ n = omega arith in
    record { rest = rw (add-zero, z); sum = rw (add-zero, z) (omega arith); few = omega arith; room = refl; sound = omega arith }

module _ {w : ℕ} {s : List ℕ} {from n : ℕ} {ends₀ ends : List ℕ} {total i : ℕ} (g : EndsStored w s from n ends₀ ends total i) where
  pub stored-step :
      i < n → {len : ℕ} → len ≡ length (char_at w s (from + i)) → len ≤ MOST_WIDTH
      → EndsStored w s from n ends₀ (set ends i (total + len)) (total + len) (i + 1)
  unfolding places ends_from joined
  stored-step h {len} e l =
      let m : n - i ≡ suc (n - (i + 1)) = omega arith in
      let f : suc (from + i) ≡ from + (i + 1) = omega arith in
      let text : List ℕ = char_at w s (from + i) in
      let later : List ℕ = joined (char_at w s) (places (n - (i + 1)) (suc (from + i))) in
      let a : total + length (text ++ later) ≡ length (joined (char_at w s) (places n from)) = rw m at g.sum in
      let b : length (text ++ later) ≡ length text + length later = length-append text later in
      record {
        rest = rw (e, ← f, add-one) (rw (m, add-one) at g.rest);
        sum = rw (← f) (omega arith);
        few = omega (arith, g.few);
        room = length-set ends i (total + len) ∙ g.room;
        sound = omega arith;
      }

  pub stored-end :
      n ≤ i
      → ((total ≡ length (joined (char_at w s) (places n from))) × (total ≤ MOST_WIDTH * n)) × (ends ≡ sets ends₀ 0 (ends_from 0 (map (char_at w s) (places n from))))
  unfolding places ends_from joined
  stored-end h =
      let m : n - i ≡ 0 = omega arith in
      let a : total + 0 ≡ length (joined (char_at w s) (places n from)) = rw m at g.sum in
      ((omega arith, omega (arith, g.few, g.sound)), rw m at g.rest)
