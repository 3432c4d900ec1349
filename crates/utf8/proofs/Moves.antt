-- The two tables: the class of each of the 256 bytes, and from each of the nine states the move of each byte, which is the one that the
-- table of forms asks for. Each rule is one test that is computed. Assumes nothing.
use Prim.Native.Nat.{ℕ, zero, suc, ◌+◌, ◌<◌}
use native.Mathlib.Nat.{add-zero, add-suc, suc-add, zero-add, le_of_suc-le-suc, not-suc-le-zero}
use native.Mathlib.Omega.{arith}
use mathlib.Core.Bool.{Bool, true, false, ◌&&◌, and-eq-true_iff}
use mathlib.Core.List.{List, [], ◌∷◌}
use mathlib.Core.Path.{◌≡◌, refl, sym, ap, ◌∙◌}
use lib.Dec.{ltb, eqb}
use lib.ListN.{get_or}
use borrow.Author.Tests.{eqb-true, ltb-true}
use Rattle.utf8.specs.Utf8.{Range, from, Due, due, never, next, whole}
use Rattle.utf8.specs.States.{class_of, tabled, class_table, due_in, move_table, move_of}
use Rattle.utf8.proofs.Below.{below, below_at}

-- ---- the classes
tabled-at : (f : ℕ → ℕ) (n i k : ℕ) → k < n → get_or (tabled f n i) k 0 ≡ f (i + k)
tabled-at f zero i k h = absurd (not-suc-le-zero h)
tabled-at f (suc n) i zero h = ap f (sym (add-zero i))
tabled-at f (suc n) i (suc k) h = tabled-at f n (suc i) k (le_of_suc-le-suc h) ∙ ap f (suc-add i k ∙ sym (add-suc i k))

pub every_byte : (b : ℕ) → b < 256 → get_or class_table b 0 ≡ class_of b
unfolding class_table
every_byte b h = tabled-at class_of 256 0 b h ∙ ap class_of (zero-add b)

in_table : ℕ → Bool
in_table b = ltb (class_of b) 100

all-in-table : below 256 in_table ≡ true
unfolding in_table
all-in-table = refl

pub class-small : (b : ℕ) → b < 256 → class_of b < 100
unfolding in_table
class-small b h = ltb-true _ _ (below_at 256 in_table all-in-table b h)

-- ---- when two states wait for the same
abbrev same_range : Range → Range → Bool
same_range q r = eqb q.low r.low && eqb q.high r.high

abbrev same_ranges : List Range → List Range → Bool
same_ranges [] [] = true
same_ranges [] (r ∷ rs) = false
same_ranges (q ∷ qs) [] = false
same_ranges (q ∷ qs) (r ∷ rs) = same_range q r && same_ranges qs rs

abbrev same_due : Due → Due → Bool
same_due (due qs) (due rs) = same_ranges qs rs
same_due (due qs) never = false
same_due never (due rs) = false
same_due never never = true

apart : {A : Type 0} → false ≡ true → A
apart e = let z : ◌≡◌ {A = ℕ} 0 1 = cc in absurd (omega arith)

one-range : (a b c d : ℕ) → a ≡ c → b ≡ d → from a b ≡ from c d
one-range a b c d p q = rw (p, q)

same-range : (q r : Range) → same_range q r ≡ true → q ≡ r
same-range q r t =
    let p = (and-eq-true_iff (eqb q.low r.low) (eqb q.high r.high)).0 t in
    one-range q.low q.high r.low r.high (eqb-true q.low r.low p.0) (eqb-true q.high r.high p.1)

same-ranges : (qs rs : List Range) → same_ranges qs rs ≡ true → qs ≡ rs
same-ranges [] [] t = refl
same-ranges [] (r ∷ rs) t = apart t
same-ranges (q ∷ qs) [] t = apart t
same-ranges (q ∷ qs) (r ∷ rs) t =
    let p = (and-eq-true_iff (same_range q r) (same_ranges qs rs)).0 t in
    ap (λ (x : Range). x ∷ qs) (same-range q r p.0) ∙ ap (λ (l : List Range). r ∷ l) (same-ranges qs rs p.1)

same-due : (d e : Due) → same_due d e ≡ true → d ≡ e
same-due (due qs) (due rs) t = ap due (same-ranges qs rs t)
same-due (due qs) never t = apart t
same-due never (due rs) t = apart t
same-due never never t = refl

-- ---- the moves
right : ℕ → ℕ → Bool
right s b = ltb (move_of s (class_of b)) 9 && same_due (due_in (move_of s (class_of b))) (next (due_in s) b)

right-from : ℕ → Bool
right-from s = below 256 (right s)

all_right : below 9 right-from ≡ true
unfolding right right-from move_table
all_right = refl

pub every-move : (s b : ℕ) → s < 9 → b < 256 → (move_of s (class_of b) < 9) × (due_in (move_of s (class_of b)) ≡ next (due_in s) b)
unfolding right right-from
every-move s b h k =
    let p = (and-eq-true_iff (ltb (move_of s (class_of b)) 9) (same_due (due_in (move_of s (class_of b))) (next (due_in s) b))).0
    (below_at 256 (right s) (below_at 9 right-from all_right s h) b k) in
    (ltb-true _ _ p.0, same-due _ _ p.1)

-- ---- the state 0 alone is one in which a text may end
eq_bool : Bool → Bool → Bool
eq_bool true b = b
eq_bool false true = false
eq_bool false false = true

eq_bool_lem : (a b : Bool) → eq_bool a b ≡ true → a ≡ b
unfolding eq_bool
eq_bool_lem true true t = refl
eq_bool_lem true false t = apart t
eq_bool_lem false true t = apart t
eq_bool_lem false false t = refl

ends : ℕ → Bool
ends s = eq_bool (eqb s 0) (whole (due_in s))

all_end : below 9 ends ≡ true
unfolding ends eq_bool
all_end = refl

pub ends-right : (s : ℕ) → s < 9 → eqb s 0 ≡ whole (due_in s)
unfolding ends
ends-right s h = eq_bool_lem _ _ (below_at 9 ends all_end s h)

-- ---- a move as the code makes it: x is the class that it read, y the state
module _ (cs ms : List ℕ) (s b x y : ℕ) (h : s < 9) (k : b < 256) (c : cs ≡ class_table) (e : x ≡ get_or cs b 0) (f : y ≡ s) where
  class-read : x ≡ class_of b
  class-read = e ∙ ap (λ (t : List ℕ). get_or t b 0) c ∙ every_byte b k

  pub move-inside : x + y < 108
  move-inside = let l = class-small b k in omega (arith, class-read)

  pub move-right : ms ≡ move_table → (get_or ms (x + y) 0 < 9) × (due_in (get_or ms (x + y) 0) ≡ next (due_in s) b)
  move-right m = rw (m, class-read, f) (every-move s b h k)
