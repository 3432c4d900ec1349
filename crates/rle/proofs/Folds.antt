-- Rows of one run, and what stands behind them, under a function. Assumes nothing.
use Prim.Native.Nat.{ℕ, zero, suc, ◌<◌}
use mathlib.Core.List.{List, [], ◌∷◌, ◌++◌, map, map-append}
use mathlib.Core.Path.{◌≡◌, refl, ap, ◌∙◌}
use lib.ListN.{replicate}
use Rattle.rle.proofs.Steps.{Below}

module _ {A B : Type 0} (f : A → B) where
  pub map-replicate : (n : ℕ) (x : A) → map f (replicate n x) ≡ replicate n (f x)
  map-replicate zero x = refl
  map-replicate (suc n) x = ap (λ (l : List B). f x ∷ l) (map-replicate n x)

  pub map_rows : (n : ℕ) (x : A) (ys : List A) → map f (replicate n x ++ ys) ≡ replicate n (f x) ++ map f ys
  map_rows n x ys = map-append f (replicate n x) ys ∙ ap (λ (l : List B). l ++ map f ys) (map-replicate n x)

-- two functions that agree below a number
pub map_below : {A : Type 0} (f g : ℕ → A) (n : ℕ) (is : List ℕ) → ((i : ℕ) → i < n → f i ≡ g i) → Below n is → map f is ≡ map g is
map_below f g n [] h b = refl
map_below {A} f g n (i ∷ is) h b =
    ap (λ (x : A). x ∷ map f is) (h i b.0) ∙ ap (λ (l : List A). g i ∷ l) (map_below f g n is h b.1)
