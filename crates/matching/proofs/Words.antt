-- Items of a fixed kind as numbers: two have the same number exactly where they have the same value, whatever the order of their bytes. `lookup`
-- proves that the first item of a value's number is the first of that value; here that is used of one item alone. Assumes nothing.
use Prim.Native.Nat.{ℕ, zero, suc, ◌+◌, ◌-◌, ◌*◌, ◌≤◌, ◌<◌}
use native.Mathlib.Nat.{zero-mul, one-mul}
use native.Mathlib.Omega.{arith}
use mathlib.Core.Path.{◌≡◌, refl, sym, ap, ◌∙◌}
use mathlib.Core.Bool.{Bool, true, false, cond, not, beq}
use mathlib.Core.List.{List, [], ◌∷◌, ◌++◌}
use borrow.Author.Tests.{eqb-true}
use lib.Dec.{eqb}
use lib.IntN.{ℤ}
use lib.ListN.{length, take, drop, get_or, replicate, length-drop, length-append, length-replicate}
use lib.Seq.{get_or-drop, take_all, length-take-le}
use Rattle.limits.specs.Limits.{is_width}
use Rattle.encode.specs.Bytes.{number, in_eight}
use Rattle.encode.specs.Kinds.{width_of, true_or_false, encoded, decoded, takes}
use Rattle.encode.specs.declared.Primitive.{Primitive}
use Rattle.encode.specs.declared.Primitive.TheVariants.{Bool as Boolean}
use Rattle.plain.specs.Rows.{int, int_in, same_int, same}
use Rattle.plain.specs.Plain.{places, fixed_at}
use Rattle.plain.proofs.Items.{item_room}
use Rattle.plain.proofs.Same.{same-equal}
use Rattle.lookup.specs.First.{first_at, first_value, first_number}
use Rattle.lookup.proofs.Alike.{int_same}
use Rattle.lookup.proofs.Words.{first-untaken, word-found, bool-test}
use Rattle.matching.specs.Matching.{equal_at, word_at}
use Rattle.matching.proofs.Pairs.{eqb_swap}

-- ---- one item alone: 0 where it is found, and 1 where it isn't
one_value : (p : Primitive) (s : List ℕ) (v : ℤ) → first_value p s 1 v ≡ cond (same_int v (decoded p (take (width_of p) s))) 0 1
unfolding first_value first_at places fixed_at
one_value p s v = rw zero-mul

one_number : (w : ℕ) (s : List ℕ) (want : ℕ) → first_number w s 1 want ≡ cond (eqb (number (take w s)) want) 0 1
unfolding first_number first_at places
one_number w s want = rw zero-mul

told : (x y : Bool) → ◌≡◌ {A = ℕ} (cond x 0 1) (cond y 0 1) → x ≡ y
told true true e = refl
told true false e = absurd (omega arith)
told false true e = absurd (omega arith)
told false false e = refl

-- bytes that begin with an item
record Item (p : Primitive) (s : List ℕ) : Type 0 where
  pub fit : (j : ℕ) → get_or s j 0 < 256
  pub room : 1 * width_of p ≤ length s

module _ (p : Primitive) (wide : 1 < width_of p) (t : List ℕ) (it : Item p t) where
  abbrev v : ℤ
  v = decoded p (take (width_of p) t)

  -- its value is one that the kind takes: others are never found
  taken : takes p v ≡ true
  taken = by (takes p v) refl
    where
      by : (x : Bool) → takes p v ≡ x → x ≡ true
      by true h = refl
      by false h =
          let z : ◌≡◌ {A = ℕ} 1 0 = first-untaken p t 1 v it.fit it.room h ∙ one_value p t v ∙ ap (λ (x : Bool). cond x 0 1) (int_same {u = v} refl) in
          absurd (omega (arith, z))

  -- the number by which its value is looked up: it tells which items have the value, and is the item's own
  abbrev want : ℕ
  want = number (take (width_of p) (in_eight (encoded p v)))

  found : (s : List ℕ) → Item p s → eqb (number (take (width_of p) s)) want ≡ same_int v (decoded p (take (width_of p) s))
  found s is =
      let e : first_number (width_of p) s 1 want ≡ first_value p s 1 v = word-found p s 1 v is.fit is.room taken (width_of p) refl wide refl refl refl in
      told _ _ (sym (one_number (width_of p) s want) ∙ e ∙ one_value p s v)

  own : number (take (width_of p) t) ≡ want
  own = eqb-true (number (take (width_of p) t)) want (found t it ∙ int_same {u = v} refl)

  word : (s : List ℕ) → Item p s → eqb (number (take (width_of p) t)) (number (take (width_of p) s)) ≡ same_int v (decoded p (take (width_of p) s))
  word s is =
      eqb_swap (number (take (width_of p) t)) (number (take (width_of p) s))
      ∙ ap (eqb (number (take (width_of p) s))) own
      ∙ found s is

-- ---- item k of two columns
module _ (p : Primitive) (n : ℕ) where
  item : (a : List ℕ) → ((j : ℕ) → get_or a j 0 < 256) → n * width_of p ≤ length a → (k : ℕ) → k < n → Item p (drop (k * width_of p) a)
  item a fit room k h =
      let r = item_room k n (width_of p) (length a) h room in
      record {
        fit = λ j. rw (get_or-drop (k * width_of p) a j 0) (fit (k * width_of p + j));
        room = rw one-mul (simp length-drop (omega arith));
      }

  module _ (a b : List ℕ) (fa : (j : ℕ) → get_or a j 0 < 256) (fb : (j : ℕ) → get_or b j 0 < 256) (ra : n * width_of p ≤ length a) (rb : n * width_of p ≤ length b) where
    pub word_same : 1 < width_of p → (k : ℕ) → k < n → word_at (width_of p) a b k ≡ equal_at p a b k
    unfolding word_at equal_at same fixed_at
    word_same wide k h = word p wide (drop (k * width_of p) a) (item a fa ra k h) (drop (k * width_of p) b) (item b fb rb k h)

-- ---- as the code reads it: the item at k times its width, and the number of its bytes and the zeros behind them
most : (w : ℕ) → is_width w ≡ true → w ≤ 8
most w h = grind (arith, h)

zeros : (m : ℕ) → number (replicate m 0) ≡ 0
zeros zero = refl
zeros (suc m) = omega (arith, zeros m)

number-padded : (t : List ℕ) (m : ℕ) → number (t ++ replicate m 0) ≡ number t
number-padded [] m = zeros m
number-padded (b ∷ bs) m = omega (arith, number-padded bs m)

module _ (w : ℕ) (few : w ≤ 8) (at : ℕ) (a : List ℕ) (r : at + w ≤ length a) where
  number-in_eight : number (take 8 (in_eight (take w (drop at a)))) ≡ number (take w (drop at a))
  number-in_eight =
      let t : List ℕ = take w (drop at a) in
      let l : length t ≡ w = length-take-le w (drop at a) (simp length-drop (omega arith)) in
      let whole : length (in_eight t) ≤ 8 = omega (arith, l, length-append t (replicate (8 - length t) 0), length-replicate {A = ℕ} (8 - length t) 0) in
      ap number (take_all 8 (in_eight t) whole) ∙ number-padded t (8 - length t)

module _ (w : ℕ) (a b : List ℕ) (k : ℕ) (h : is_width w ≡ true) (ra : k * w + w ≤ length a) (rb : k * w + w ≤ length b) where
  pub words-read :
      {x y : List ℕ} {m n : ℕ} → x ≡ in_eight (take w (drop (k * w) a)) → m ≡ number (take 8 x) → y ≡ in_eight (take w (drop (k * w) b)) → n ≡ number (take 8 y)
      → eqb m n ≡ word_at w a b k
  unfolding word_at
  words-read x m y n = let few = most w h in rw (m, x, n, y, number-in_eight w few (k * w) a ra, number-in_eight w few (k * w) b rb)

-- ---- bool: any nonzero byte is true
truths : (x y : Bool) → beq x y ≡ same_int (true_or_false x) (true_or_false y)
unfolding same_int
truths true true = refl
truths true false = refl
truths false true = refl
truths false false = refl

truth-read : (a : List ℕ) (k : ℕ) → k < length a → true_or_false (not (eqb (get_or a k 0) 0)) ≡ fixed_at Boolean a k
unfolding int_in same
truth-read a k h =
    let x : Bool = not (eqb (get_or a k 0) 0) in
    let e : same_int (true_or_false x) (fixed_at Boolean a k) ≡ true = sym (bool-test x a k h) ∙ truths x x ∙ int_same {u = true_or_false x} refl in
    ap int_in (same-equal (int (true_or_false x)) (int (fixed_at Boolean a k)) e)

pub bools-same :
    (a b : List ℕ) (k : ℕ) → k < length a → k < length b → beq (not (eqb (get_or a k 0) 0)) (not (eqb (get_or b k 0) 0)) ≡ equal_at Boolean a b k
unfolding equal_at same
bools-same a b k h l =
    truths (not (eqb (get_or a k 0) 0)) (not (eqb (get_or b k 0) 0))
    ∙ ap (λ (u : ℤ). same_int u (true_or_false (not (eqb (get_or b k 0) 0)))) (truth-read a k h)
    ∙ ap (same_int (fixed_at Boolean a k)) (truth-read b k l)
