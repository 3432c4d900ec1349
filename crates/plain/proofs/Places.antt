-- The places i, i + 1, .., and what a function gives at each. Assumes nothing.
use mathlib.Core.Path.{◌≡◌, refl, sym, ap, ◌∙◌}
use mathlib.Core.List.{List, ◌∷◌, ◌++◌, map, map-append, map-map, map-id}
use Prim.Native.Nat.{ℕ, zero, suc, ◌+◌, ◌≤◌, ◌<◌}
use native.Mathlib.Nat.{add-zero, zero-add, suc-add}
use native.Mathlib.Omega.{arith}
use lib.ListN.{length, get_or, length-map}
use Rattle.plain.specs.Plain.{places}

pub length-places : (n i : ℕ) → length (places n i) ≡ n
unfolding places
length-places zero i = refl
length-places (suc n) i = ap suc (length-places n (suc i))

-- some places, and then those that follow
pub places-add : (m n i : ℕ) → places (m + n) i ≡ places m i ++ places n (i + m)
unfolding places
places-add zero n i = rw (zero-add, add-zero)
places-add (suc m) n i =
    let e : suc i + m ≡ i + suc m = omega arith in
    rw suc-add (ap (λ (l : List ℕ). i ∷ l) (places-add m n (suc i) ∙ ap (λ (k : ℕ). places m (suc i) ++ places n k) e))

-- each place moved on by the same number
pub places-shift : (n k i : ℕ) → places n (k + i) ≡ map (λ (j : ℕ). k + j) (places n i)
unfolding places
places-shift zero k i = refl
places-shift (suc n) k i =
    let e : suc (k + i) ≡ k + suc i = omega arith in
    ap (λ (l : List ℕ). (k + i) ∷ l) (ap (places n) e ∙ places-shift n k (suc i))

module _ {A : Type 0} where
  pub length_over : (f : ℕ → A) (n i : ℕ) → length (map f (places n i)) ≡ n
  length_over f n i = length-map (places n i) f ∙ length-places n i

  pub over_add : (f : ℕ → A) (m n i : ℕ) → map f (places (m + n) i) ≡ map f (places m i) ++ map f (places n (i + m))
  over_add f m n i = ap (map f) (places-add m n i) ∙ map-append f (places m i) (places n (i + m))

  pub over-shift : (f : ℕ → A) (n k i : ℕ) → map f (places n (k + i)) ≡ map (λ (j : ℕ). f (k + j)) (places n i)
  over-shift f n k i = ap (map f) (places-shift n k i) ∙ map-map f (λ (j : ℕ). k + j) (places n i)

  pub get_d_over : (f : ℕ → A) (n i k : ℕ) (d : A) → k < n → get_or (map f (places n i)) k d ≡ f (i + k)
  unfolding places
  get_d_over f zero i k d h = absurd (omega arith)
  get_d_over f (suc n) i zero d h = ap f (sym (add-zero i))
  get_d_over f (suc n) i (suc k) d h = let e : suc i + k ≡ i + suc k = omega arith in get_d_over f n (suc i) k d (omega arith) ∙ ap f e

  -- two functions that agree at each of the places
  pub over-same : (f g : ℕ → A) (n i : ℕ) → ((k : ℕ) → i ≤ k → k < i + n → f k ≡ g k) → map f (places n i) ≡ map g (places n i)
  unfolding places
  over-same f g zero i h = refl
  over-same f g (suc n) i h =
      ap (λ (x : A). x ∷ map f (places n (suc i))) (h i (omega arith) (omega arith))
      ∙ ap (λ (l : List A). g i ∷ l) (over-same f g n (suc i) (λ k a b. h k (omega arith) (omega arith)))

pub get_d-places : (n i k d : ℕ) → k < n → get_or (places n i) k d ≡ i + k
get_d-places n i k d h = rw map-id at (get_d_over (λ (j : ℕ). j) n i k d h)
