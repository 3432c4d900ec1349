-- Entries of rows that are each null or one of a list: they are different rows of that list, so that no measure of them all is above the list's.
-- Assumes nothing.
use Prim.Native.Nat.{ℕ, zero, suc, ◌+◌, ◌*◌, ◌≤◌, ◌<◌}
use native.Mathlib.Omega.{arith}
use mathlib.Core.Bool.{Bool, true, false, cond, ◌||◌}
use mathlib.Core.List.{List, [], ◌∷◌, ◌++◌}
use mathlib.Core.Path.{◌≡◌, refl}
use lib.Dec.{ltb}
use lib.ListN.{length, get_or, length-append}
use borrow.Author.Tests.{ltb-true, ltb-false}
use Rattle.plain.specs.Each.{Each}
use Rattle.plain.specs.Rows.{Row, null, int, bytes, same}
use Rattle.plain.specs.Plain.{joined}
use Rattle.plain.proofs.Each.{all-each, length-joined}
use Rattle.plain.proofs.Same.{same_self}
use Rattle.dict.specs.Dictionary.{index_of, with_entry, entries_after, entries_of}

-- ---- whether a row is one of some
unfoldable is_in : Row → List Row → Bool
is_in r [] = false
is_in r (e ∷ es) = same r e || is_in r es

-- one that isn't has no place among them
not_in : (r : Row) (es : List Row) → ltb (index_of r es) (length es) ≡ false → is_in r es ≡ false
unfolding is_in index_of
not_in r [] h = refl
not_in r (e ∷ es) h = go (same r e) (ltb-false _ _ h) (not_in r es)
  where
    go : (t : Bool) → suc (length es) ≤ cond t 0 (suc (index_of r es)) → (ltb (index_of r es) (length es) ≡ false → is_in r es ≡ false) → (t || is_in r es) ≡ false
    go true l ih = absurd (omega arith)
    go false l ih = ih (no_less (ltb (index_of r es) (length es)) refl)
      where
        no_less : (t : Bool) → ltb (index_of r es) (length es) ≡ t → t ≡ false
        no_less true e = absurd (omega (arith, ltb-true (index_of r es) (length es) e))
        no_less false e = refl

-- one more at the end
stays-in : (r x : Row) (es : List Row) → is_in r es ≡ true → is_in r (es ++ (x ∷ [])) ≡ true
unfolding is_in
stays-in r x [] h = let z : ◌≡◌ {A = ℕ} 0 1 = cc in absurd (omega arith)
stays-in r x (e ∷ es) h = go (same r e) h (stays-in r x es)
  where
    go : (t : Bool) → (t || is_in r es) ≡ true → (is_in r es ≡ true → is_in r (es ++ (x ∷ [])) ≡ true) → (t || is_in r (es ++ (x ∷ []))) ≡ true
    go true q ih = refl
    go false q ih = ih q

last-in : (x : Row) (es : List Row) → is_in x (es ++ (x ∷ [])) ≡ true
unfolding is_in
last-in x [] = rw (same_self x)
last-in x (e ∷ es) = go (same x e) (last-in x es)
  where
    go : (t : Bool) → is_in x (es ++ (x ∷ [])) ≡ true → (t || is_in x (es ++ (x ∷ []))) ≡ true
    go true h = refl
    go false h = h

-- ---- rows of a list, and a measure of them
pub record OneOf (ys : List Row) (r : Row) : Type 0 where
  pub place : ℕ
  pub there : place < length ys
  pub found : get_or ys place null ≡ r

abbrev pub NullOrOneOf : List Row → Row → Type 0
NullOrOneOf ys null = Unit
NullOrOneOf ys (int v) = OneOf ys (int v)
NullOrOneOf ys (bytes bs) = OneOf ys (bytes bs)

pub if-one-of : (ys : List Row) (r : Row) → OneOf ys r → NullOrOneOf ys r
if-one-of ys null h = tt
if-one-of ys (int v) h = h
if-one-of ys (bytes bs) h = h

module _ (f : Row → List ℕ) where
  -- of those that are no entries yet
  unfoldable left : List Row → List Row → ℕ
  left es [] = 0
  left es (y ∷ ys) = cond (is_in y es) 0 (length (f y)) + left es ys

  all_left : (ys : List Row) → left [] ys ≡ length (joined f ys)
  unfolding left is_in joined
  all_left [] = refl
  all_left (y ∷ ys) = omega (arith, length-append (f y) (joined f ys), all_left ys)

  -- a row that becomes one takes its own measure from the rest, at least
  one_less : (es : List Row) (x y : Row) → cond (is_in y (es ++ (x ∷ []))) 0 (length (f y)) ≤ cond (is_in y es) 0 (length (f y))
  one_less es x y = go (is_in y es) refl
    where
      go : (t : Bool) → is_in y es ≡ t → cond (is_in y (es ++ (x ∷ []))) 0 (length (f y)) ≤ cond t 0 (length (f y))
      go true e = rw (stays-in y x es e) (omega arith)
      go false e = at_most (is_in y (es ++ (x ∷ [])))
        where
          at_most : (u : Bool) → cond u 0 (length (f y)) ≤ length (f y)
          at_most true = omega arith
          at_most false = omega arith

  none_more : (es : List Row) (x : Row) (ys : List Row) → left (es ++ (x ∷ [])) ys ≤ left es ys
  unfolding left
  none_more es x [] = omega arith
  none_more es x (y ∷ ys) = omega (arith, one_less es x y, none_more es x ys)

  own-less : (es : List Row) (x : Row) (ys : List Row) → is_in x es ≡ false → (i : ℕ) → i < length ys → get_or ys i null ≡ x
      → length (f x) + left (es ++ (x ∷ [])) ys ≤ left es ys
  unfolding left
  own-less es x [] new i l e = absurd (omega arith)
  own-less es x (y ∷ ys) new zero l e = rw (e, last-in x es, new) (omega (arith, none_more es x ys))
  own-less es x (y ∷ ys) new (suc i) l e = omega (arith, one_less es x y, own-less es x ys new i (omega arith) e)

  -- ---- entries and what is left: together never more
  abbrev both : List Row → List Row → ℕ
  both es ys = length (joined f es) + left es ys

  pub joined-last : (es : List Row) (x : Row) → length (joined f (es ++ (x ∷ []))) ≡ length (joined f es) + length (f x)
  unfolding joined
  joined-last [] x = omega (arith, length-append (f x) [])
  joined-last (e ∷ es) x =
      rw (length-append (f e) (joined f (es ++ (x ∷ []))), length-append (f e) (joined f es)) (omega (arith, joined-last es x))

  with-one : (es : List Row) (x : Row) (ys : List Row) → OneOf ys x → both (cond (ltb (index_of x es) (length es)) es (es ++ (x ∷ []))) ys ≤ both es ys
  with-one es x ys h = go (ltb (index_of x es) (length es)) refl
    where
      go : (t : Bool) → ltb (index_of x es) (length es) ≡ t → both (cond t es (es ++ (x ∷ []))) ys ≤ both es ys
      go true e = omega arith
      go false e = omega (arith, joined-last es x, own-less es x ys (not_in x es e) h.place h.there h.found)

  with_row : (es : List Row) (x : Row) (ys : List Row) → NullOrOneOf ys x → both (with_entry es x) ys ≤ both es ys
  unfolding with_entry
  with_row es null ys h = omega arith
  with_row es (int v) ys h = with-one es (int v) ys h
  with_row es (bytes bs) ys h = with-one es (bytes bs) ys h

  with_rows : (es rows ys : List Row) → Each (NullOrOneOf ys) rows → both (entries_after es rows) ys ≤ both es ys
  unfolding entries_after
  with_rows es [] ys h = omega arith
  with_rows es (x ∷ rows) ys h = omega (arith, with_row es x ys h.0, with_rows (with_entry es x) rows ys h.1)

  pub entries-within : (rows ys : List Row) → Each (NullOrOneOf ys) rows → length (joined f (entries_of rows)) ≤ length (joined f ys)
  unfolding entries_of joined
  entries-within rows ys h = omega (arith, with_rows [] rows ys h, all_left ys)

-- their number: each measures one
pub entries-fewer : (rows ys : List Row) → Each (NullOrOneOf ys) rows → length (entries_of rows) ≤ length ys
entries-fewer rows ys h =
    let one : Row → List ℕ = λ r. 0 ∷ [] in
    let long : (xs : List Row) → length (joined one xs) ≡ length xs * 1 = λ xs. length-joined one 1 xs (all-each _ (λ r. refl) xs) in
    omega (arith, entries-within one rows ys h, long (entries_of rows), long ys)
