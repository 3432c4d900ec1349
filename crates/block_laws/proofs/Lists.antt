-- Laws of lists: a fact of each element, what a function gives at each place, and items one after another. Assumes nothing.
use Prim.Native.Nat.{ℕ, zero, suc, ◌+◌, ◌*◌, ◌<◌}
use native.Mathlib.Nat.{zero-add, zero-mul, suc-mul}
use native.Mathlib.Omega.{arith}
use mathlib.Core.List.{List, [], ◌∷◌, ◌++◌, map, append_assoc}
use mathlib.Core.Path.{◌≡◌, refl, sym, ap, ◌∙◌}
use lib.ListN.{length, take, drop, get_or, length-map, get_or-map}
use lib.Seq.{take_at, drop-append-add, ext_get_or}
use Rattle.plain.specs.Each.{Each}
use Rattle.plain.specs.Plain.{joined, places}
use Rattle.plain.proofs.Each.{Wide}
use Rattle.plain.proofs.Places.{length_over, get_d_over}

-- ---- a fact of each element
pub each_at : {A : Type 0} (P : A → Type 0) (xs : List A) (d : A) → Each P xs → (i : ℕ) → i < length xs → P (get_or xs i d)
each_at P [] d h i l = absurd (omega arith)
each_at P (x ∷ xs) d h zero l = h.0
each_at P (x ∷ xs) d h (suc i) l = each_at P xs d h.1 i (omega arith)

pub each_map : {A B : Type 0} (P : B → Type 0) (g : A → B) (xs : List A) → Each (λ x. P (g x)) xs → Each P (map g xs)
each_map P g [] h = tt
each_map P g (x ∷ xs) h = (h.0, each_map P g xs h.1)

-- two functions that agree on each element
pub map_each : {A B : Type 0} (f g : A → B) (xs : List A) → Each (λ x. f x ≡ g x) xs → map f xs ≡ map g xs
map_each f g [] h = refl
map_each {A} {B} f g (x ∷ xs) h = ap (λ (y : B). y ∷ map f xs) h.0 ∙ ap (λ (l : List B). g x ∷ l) (map_each f g xs h.1)

-- ---- what one function gives at each place, and another of each element
pub over-list :
    {A B : Type 0} (f : ℕ → B) (g : A → B) (xs : List A) (d : A) → ((i : ℕ) → i < length xs → f i ≡ g (get_or xs i d))
    → map f (places (length xs) 0) ≡ map g xs
over-list f g xs d h =
    ext_get_or (g d) (map f (places (length xs) 0)) (map g xs) (length_over f (length xs) 0 ∙ sym (length-map xs g))
    (λ i l. let m : i < length xs = omega (arith, length_over f (length xs) 0) in
    get_d_over f (length xs) 0 i (g d) m ∙ ap f (zero-add i) ∙ h i m ∙ sym (get_or-map g xs i d))

-- ---- items of w bytes each, one after another
module _ {A : Type 0} (f : A → List ℕ) (w : ℕ) where
  -- item i, whatever stands behind them
  pub item-joined :
      (xs : List A) (d : A) (rest : List ℕ) → Each (Wide f w) xs → (i : ℕ) → i < length xs
      → take w (drop (i * w) (joined f xs ++ rest)) ≡ f (get_or xs i d)
  unfolding joined
  item-joined [] d rest h i l = absurd (omega arith)
  item-joined (x ∷ xs) d rest h zero l =
      rw (zero-mul w, append_assoc (f x) (joined f xs) rest) (take_at (f x) (joined f xs ++ rest) w h.0)
  item-joined (x ∷ xs) d rest h (suc i) l =
      let e : suc i * w ≡ length (f x) + i * w = omega (arith, suc-mul i w, h.0) in
      rw (e, append_assoc (f x) (joined f xs) rest, drop-append-add (f x) (joined f xs ++ rest) (i * w))
      (item-joined xs d rest h.1 i (omega arith))
