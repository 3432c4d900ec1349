-- Laws of lists: each of them, one more at the end, and what stands one after another. Assumes nothing.
use Prim.Native.Nat.{ℕ, suc, ◌+◌, ◌-◌, ◌≤◌, ◌<◌}
use native.Mathlib.Nat.{add-zero}
use native.Mathlib.Omega.{arith}
use mathlib.Core.List.{List, [], ◌∷◌, ◌++◌, map, append_assoc, append-nil}
use mathlib.Core.Path.{◌≡◌, refl, sym, ap, ◌∙◌}
use lib.ListN.{length, take, drop, set, length-append}
use lib.Seq.{take_at, take-suc-set, take-take}
use Rattle.area.specs.Area.{over}
use Rattle.plain.specs.Each.{Each}
use Rattle.plain.specs.Plain.{joined, ends_from}

module _ {A : Type 0} where
  -- ---- each of a list
  pub each_first : (P : A → Type 0) (xs ys : List A) → Each P (xs ++ ys) → Each P xs
  each_first P [] ys h = tt
  each_first P (x ∷ xs) ys h = (h.0, each_first P xs ys h.1)

  pub each-second : (P : A → Type 0) (xs ys : List A) → Each P (xs ++ ys) → Each P ys
  each-second P [] ys h = h
  each-second P (x ∷ xs) ys h = each-second P xs ys h.1

  -- ---- one more at the end
  pub length-snoc : (xs : List A) (x : A) → length (xs ++ (x ∷ [])) ≡ length xs + 1
  length-snoc xs x = length-append xs (x ∷ [])

  -- a store behind the first n elements
  pub take-stored : (l xs : List A) (n : ℕ) (x : A) → n ≡ length xs → n < length l → take (length xs) l ≡ xs → take (length (xs ++ (x ∷ []))) (set l n x) ≡ xs ++ (x ∷ [])
  take-stored l xs n x e h q =
      let s : length (xs ++ (x ∷ [])) ≡ suc n = omega (arith, length-snoc xs x) in
      rw s (take-suc-set l n x h ∙ rw e (ap (λ (y : List A). y ++ (x ∷ [])) q))

  -- a store into the last of them
  pub take-bumped : (l xs : List A) (n : ℕ) (x y : A) → n ≡ length (xs ++ (x ∷ [])) → n ≤ length l → take (length (xs ++ (x ∷ []))) l ≡ xs ++ (x ∷ [])
      → take (length (xs ++ (y ∷ []))) (set l (n - 1) y) ≡ xs ++ (y ∷ [])
  take-bumped l xs n x y e h q =
      let s : length (xs ++ (x ∷ [])) ≡ length xs + 1 = length-snoc xs x in
      let m : n - 1 ≡ length xs = omega arith in
      let t : take (length xs) l ≡ xs =
      sym (take-take (length xs) (length (xs ++ (x ∷ []))) l (omega arith)) ∙ ap (take (length xs)) q ∙ take_at xs (x ∷ []) (length xs) refl in
      take-stored l xs (n - 1) y m (omega arith) t

  -- what is laid over an area behind the first n elements
  pub take-over : (l xs ys : List A) (n : ℕ) → n ≡ length xs → n ≤ length l → take (length xs) l ≡ xs → take (length (xs ++ ys)) (over l n ys) ≡ xs ++ ys
  unfolding over
  take-over l xs ys n e h q =
      let t : take n l ≡ xs = rw e q in
      rw t (take_at (xs ++ ys) (drop (n + length ys) l) (length (xs ++ ys)) refl)

  -- ---- one after another
  pub joined-append : (f : A → List ℕ) (xs ys : List A) → joined f (xs ++ ys) ≡ joined f xs ++ joined f ys
  unfolding joined
  joined-append f [] ys = refl
  joined-append f (x ∷ xs) ys = rw (joined-append f xs ys, append_assoc)

  pub joined-one : (f : A → List ℕ) (x : A) → joined f (x ∷ []) ≡ f x
  unfolding joined
  joined-one f x = append-nil (f x)

  pub joined_snoc : (f : A → List ℕ) (xs : List A) (x : A) → joined f (xs ++ (x ∷ [])) ≡ joined f xs ++ f x
  joined_snoc f xs x = joined-append f xs (x ∷ []) ∙ ap (λ (l : List ℕ). joined f xs ++ l) (joined-one f x)

  pub length-joined-snoc : (f : A → List ℕ) (xs : List A) (x : A) → length (joined f (xs ++ (x ∷ []))) ≡ length (joined f xs) + length (f x)
  length-joined-snoc f xs x = ap length (joined_snoc f xs x) ∙ length-append (joined f xs) (f x)

  -- two functions that agree on each
  pub joined_same : (f g : A → List ℕ) (xs : List A) → Each (λ x. f x ≡ g x) xs → joined f xs ≡ joined g xs
  unfolding joined
  joined_same f g [] h = refl
  joined_same f g (x ∷ xs) h = rw (h.0, joined_same f g xs h.1)

  pub ends_snoc : (f : A → List ℕ) (at : ℕ) (xs : List A) (x : A)
      → ends_from at (map f (xs ++ (x ∷ []))) ≡ ends_from at (map f xs) ++ ((at + length (joined f xs) + length (f x)) ∷ [])
  unfolding ends_from joined
  ends_snoc f at [] x = rw add-zero
  ends_snoc f at (y ∷ xs) x =
      let e : at + length (f y) + length (joined f xs) + length (f x) ≡ at + length (f y ++ joined f xs) + length (f x)
      = omega (arith, length-append (f y) (joined f xs)) in
      rw (ends_snoc f (at + length (f y)) xs x, e)

pub joined-map : {A B : Type 0} (f : B → List ℕ) (g : A → B) (xs : List A) → joined f (map g xs) ≡ joined (λ x. f (g x)) xs
unfolding joined
joined-map f g [] = refl
joined-map f g (x ∷ xs) = rw (joined-map f g xs)
