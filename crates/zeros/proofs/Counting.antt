-- The loops of `few_zeros` and `zeros`: what is counted and what is left to count are all zeros. Assumes nothing.
use Prim.Native.Nat.{ℕ, ◌+◌, ◌-◌, ◌≤◌, ◌<◌, min}
use native.Mathlib.Nat.{add-zero, zero-add}
use native.Mathlib.Omega.{arith}
use mathlib.Core.Bool.{Bool, true, false, cond}
use mathlib.Core.List.{List, [], ◌∷◌, ◌++◌}
use mathlib.Core.Path.{◌≡◌, sym, ap, ◌∙◌}
use lib.Dec.{eqb}
use lib.ListN.{length, get_or, take, drop, length-take}
use lib.Seq.{drop-cons, drop-drop, take-add}
use native.Mathlib.Nat.{le-min, min-le_left, min-le_right}
use Rattle.zeros.specs.Zeros.{zero_in, zeros_in}

pub zeros-append : (xs ys : List ℕ) → zeros_in (xs ++ ys) ≡ zeros_in xs + zeros_in ys
unfolding zeros_in
zeros-append [] ys = sym (zero-add (zeros_in ys))
zeros-append (x ∷ xs) ys = let h = zeros-append xs ys in omega arith

one_at_most : (x : ℕ) → zero_in x ≤ 1
unfolding zero_in
one_at_most x = go (eqb x 0)
  where
    go : (t : Bool) → cond t 1 0 ≤ 1
    go true = omega arith
    go false = omega arith

pub zeros-few : (xs : List ℕ) → zeros_in xs ≤ length xs
unfolding zeros_in
zeros-few [] = omega arith
zeros-few (x ∷ xs) = let h = zeros-few xs in let o = one_at_most x in omega arith

-- of n bytes from a place on, i are looked at
pub record Counting (s : List ℕ) (from n count i : ℕ) : Type 0 where
  pub whole : zeros_in (take n (drop from s)) ≡ count + zeros_in (take (n - i) (drop (from + i) s))
  pub few : count ≤ i
  pub sound : i ≤ n

pub counting-start : (s : List ℕ) (from n : ℕ) → Counting s from n 0 0
counting-start s from n =
    let m : n - 0 ≡ n = omega arith in
    record { whole = rw (m, add-zero from) (sym (zero-add (zeros_in (take n (drop from s))))); few = omega arith; sound = omega arith }

module _ {s : List ℕ} {from n count i : ℕ} (c : Counting s from n count i) where
  -- some more
  pub counting-some : {m z : ℕ} → m ≤ n - i → i < n → z ≡ zeros_in (take m (drop (from + i) s)) → Counting s from n (count + z) (i + m)
  counting-some {m} {z} l h e =
      let k : n - i ≡ m + (n - (i + m)) = omega arith in
      let a : from + i + m ≡ from + (i + m) = omega arith in
      let parts : zeros_in (take (n - i) (drop (from + i) s)) ≡ z + zeros_in (take (n - (i + m)) (drop (from + (i + m)) s)) =
      ap (λ (j : ℕ). zeros_in (take j (drop (from + i) s))) k
      ∙ ap zeros_in (take-add m (n - (i + m)) (drop (from + i) s))
      ∙ zeros-append (take m (drop (from + i) s)) (take (n - (i + m)) (drop m (drop (from + i) s)))
      ∙ rw (e, drop-drop m (from + i) s, a) in
      let w = c.whole in
      let f = zeros-few (take m (drop (from + i) s)) in
      let t = length-take m (drop (from + i) s) in
      let u = min-le_left m (length (drop (from + i) s)) in
      record { whole = omega arith; few = omega (arith, c.few); sound = omega arith }

  -- one more
  pub counting-one : {z : ℕ} → i < n → from + i < length s → z ≡ zero_in (get_or s (from + i) 0) → Counting s from n (count + z) (i + 1)
  unfolding zeros_in
  counting-one h b e =
      counting-some (omega arith) h (e ∙ sym (rw (drop-cons s (from + i) 0 b) (add-zero (zero_in (get_or s (from + i) 0)))))

  pub counting-end : n ≤ i → count ≡ zeros_in (take n (drop from s))
  unfolding zeros_in
  counting-end h = let m : n - i ≡ 0 = omega arith in sym (c.whole ∙ rw m (add-zero count))

-- some more from the first byte on
pub counting-first : {s : List ℕ} {n count i m z : ℕ} → Counting s 0 n count i → m ≤ n - i → i < n → z ≡ zeros_in (take m (drop i s))
    → Counting s 0 n (count + z) (i + m)
counting-first {s} {n} {count} {i} {m} {z} c l h e = counting-some c l h (e ∙ ap (λ (j : ℕ). zeros_in (take m (drop j s))) (sym (zero-add i)))

-- the smaller of what is left and what is few
pub record Few (n some : ℕ) : Type 0 where
  pub within : some ≤ n
  pub few : some ≤ 192
  pub any : 0 < n → 0 < some

pub some-few : {n some : ℕ} → some ≡ min 192 n → Few n some
some-few {n} {some} e = record {
  within = rw e (min-le_right 192 n);
  few = rw e (min-le_left 192 n);
  any = λ h. rw e (le-min (omega arith) h);
}
