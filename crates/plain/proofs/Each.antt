-- A fact of each element of a list: of two lists, of every element, and of items that are equally long. Assumes nothing.
use Prim.Native.Nat.{ℕ, suc, ◌+◌, ◌-◌, ◌*◌, ◌≤◌}
use native.Mathlib.Nat.{suc-mul, zero-mul}
use native.Mathlib.Omega.{arith}
use mathlib.Core.Bool.{true}
use mathlib.Core.List.{List, [], ◌∷◌, ◌++◌}
use mathlib.Core.Path.{◌≡◌, sym}
use lib.ListN.{length, replicate, length-append, length-replicate}
use lib.Dec.{leb}
use borrow.Author.Tests.{leb-true}
use Rattle.encode.specs.Kinds.{width_of}
use Rattle.encode.specs.declared.Primitive.{Primitive}
use Rattle.encode.specs.declared.Kind.TheVariants.{Fixed, Char}
use Rattle.encode.proofs.Bools.{clash, both}
use Rattle.encode.proofs.RoundTrip.{item-length}
use Rattle.utf8.specs.Utf8.{is_text}
use Rattle.plain.specs.Each.{Each}
use Rattle.plain.specs.Rows.{Row, null, int, bytes, int_in, bytes_in, fits}
use Rattle.plain.specs.Plain.{joined, item_of}

module _ {A : Type 0} (P : A → Type 0) where
  pub each_append : (xs ys : List A) → Each P xs → Each P ys → Each P (xs ++ ys)
  each_append [] ys h g = g
  each_append (x ∷ xs) ys h g = (h.0, each_append xs ys h.1 g)

  pub each_more : (Q : A → Type 0) (xs : List A) → ((x : A) → P x → Q x) → Each P xs → Each Q xs
  each_more Q [] f h = tt
  each_more Q (x ∷ xs) f h = (f x h.0, each_more Q xs f h.1)

  pub all-each : ((x : A) → P x) → (xs : List A) → Each P xs
  all-each h [] = tt
  all-each h (x ∷ xs) = (h x, all-each h xs)

-- ---- items of w bytes each, one after another
module _ {A : Type 0} (f : A → List ℕ) (w : ℕ) where
  abbrev pub Wide : A → Type 0
  Wide x = length (f x) ≡ w

  pub length-joined : (xs : List A) → Each Wide xs → length (joined f xs) ≡ length xs * w
  unfolding joined
  length-joined [] h = sym (zero-mul w)
  length-joined (x ∷ xs) h =
      let e : suc (length xs) * w ≡ length xs * w + w = suc-mul (length xs) w in
      rw (length-append (f x) (joined f xs), e) (omega (arith, h.0, length-joined xs h.1))

-- an item of a fixed kind has the kind's width
pub fixed-wide : (p : Primitive) (rows : List Row) → Each (Wide (item_of (Fixed p)) (width_of p)) rows
unfolding item_of
fixed-wide p rows = all-each (Wide (item_of (Fixed p)) (width_of p)) (λ r. item-length p (int_in r)) rows

-- a char that fits is no longer than the width, and its item takes just that
pub char-short : (w : ℕ) (r : Row) → fits (Char w) r ≡ true → length (bytes_in r) ≤ w
unfolding fits bytes_in
char-short w null h = omega arith
char-short w (int v) h = clash (sym h)
char-short w (bytes bs) h = leb-true (length bs) w (both (leb (length bs) w) (is_text bs) h).0

char-item : (w : ℕ) (r : Row) → fits (Char w) r ≡ true → Wide (item_of (Char w)) w r
unfolding item_of
char-item w r h =
    let l : length (bytes_in r) ≤ w = char-short w r h in
    rw (length-append (bytes_in r) (replicate (w - length (bytes_in r)) 0), length-replicate {A = ℕ} (w - length (bytes_in r)) 0) (omega arith)

pub char-wide : (w : ℕ) (rows : List Row) → Each (λ r. fits (Char w) r ≡ true) rows → Each (Wide (item_of (Char w)) w) rows
char-wide w rows h = each_more (λ r. fits (Char w) r ≡ true) (Wide (item_of (Char w)) w) rows (char-item w) h
