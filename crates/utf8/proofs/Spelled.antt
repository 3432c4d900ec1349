-- Text is sequences one after another, each by a row of the table, and nothing else is. Assumes nothing.
use Prim.Native.Nat.{ℕ, zero, suc, ◌≤◌, ◌<◌}
use native.Mathlib.Omega.{arith}
use mathlib.Core.Bool.{Bool, true, false, cond, ◌&&◌, and-eq-true_iff}
use mathlib.Core.List.{List, [], ◌∷◌, ◌++◌}
use mathlib.Core.Logic.{inl, inr}
use mathlib.Core.Path.{◌≡◌, refl, sym, ap, subst, ◌∙◌}
use lib.Dec.{leb, ltb}
use lib.ListN.{length, length-append}
use borrow.Author.Tests.{leb-true, ltb-true, lt-leb}
use Rattle.utf8.specs.Utf8.{Range, Form, forms, Due, due, never, within, start_in, next, after, whole, is_text}
use Rattle.utf8.specs.Sequences.{InRanges, ByOneOf, Sequences, none, more}
use Rattle.utf8.proofs.Cutting.{after_never}

-- ---- sequences are text
after-append : (d : Due) (xs ys : List ℕ) → after d (xs ++ ys) ≡ after (after d xs) ys
unfolding after
after-append d [] ys = refl
after-append d (x ∷ xs) ys = after-append (next d x) xs ys

ranges-walked : (rs : List Range) (bs : List ℕ) → InRanges rs bs → after (due rs) bs ≡ due []
unfolding after
ranges-walked [] [] h = refl
ranges-walked [] (b ∷ bs) h = absurd h
ranges-walked (r ∷ rs) [] h = absurd h
ranges-walked (r ∷ rs) (b ∷ bs) h = ap (λ (t : Bool). after (cond t (due rs) never) bs) h.0 ∙ ranges-walked rs bs h.1

-- the rows stand in the order of their first bytes, so that a byte begins one row alone
abbrev all_above : ℕ → List Form → Bool
all_above m [] = true
all_above m (f ∷ fs) = ltb m f.first.low && all_above m fs

abbrev ordered : List Form → Bool
ordered [] = true
ordered (f ∷ fs) = all_above f.first.high fs && ordered fs

first_above : (m : ℕ) (fs : List Form) → all_above m fs ≡ true → (b : ℕ) (bs : List ℕ) → ByOneOf fs (b ∷ bs) → m < b
first_above m [] a b bs h = absurd h
first_above m (f ∷ fs) a b bs (inl h) =
    let p = ltb-true m f.first.low ((and-eq-true_iff (ltb m f.first.low) (all_above m fs)).0 a).0 in
    let l = leb-true f.first.low b ((and-eq-true_iff (leb f.first.low b) (leb b f.first.high)).0 h.0).0 in
    omega arith
first_above m (f ∷ fs) a b bs (inr h) = first_above m fs ((and-eq-true_iff (ltb m f.first.low) (all_above m fs)).0 a).1 b bs h

past_first : (r : Range) (b : ℕ) → r.high < b → within r b ≡ false
past_first r b h = rw (lt-leb b r.high h) (by (leb r.low b))
  where
    by : (t : Bool) → (t && false) ≡ false
    by true = refl
    by false = refl

begun : (fs : List Form) → ordered fs ≡ true → (b : ℕ) (bs : List ℕ) → ByOneOf fs (b ∷ bs) → after (start_in fs b) bs ≡ due []
begun [] o b bs h = absurd h
begun (f ∷ fs) o b bs (inl h) = ap (λ (t : Bool). after (cond t (due f.behind) (start_in fs b)) bs) h.0 ∙ ranges-walked f.behind bs h.1
begun (f ∷ fs) o b bs (inr h) =
    let p = (and-eq-true_iff (all_above f.first.high fs) (ordered fs)).0 o in
    ap (λ (t : Bool). after (cond t (due f.behind) (start_in fs b)) bs) (past_first f.first b (first_above f.first.high fs p.0 b bs h))
    ∙ begun fs p.1 b bs h

no_row : (fs : List Form) → ByOneOf fs [] → ⊥
no_row [] h = h
no_row (f ∷ fs) (inl h) = h
no_row (f ∷ fs) (inr h) = no_row fs h

one-sequence : (bs : List ℕ) → ByOneOf forms bs → after (due []) bs ≡ due []
unfolding after
one-sequence [] h = absurd (no_row forms h)
one-sequence (b ∷ bs) h = begun forms refl b bs h

all-sequences : {bs : List ℕ} → Sequences bs → after (due []) bs ≡ due []
all-sequences none = unfold after in refl
all-sequences (more bs rest h s) = after-append (due []) bs rest ∙ ap (λ (d : Due). after d rest) (one-sequence bs h) ∙ all-sequences s

pub sequences-text : {bs : List ℕ} → Sequences bs → is_text bs ≡ true
unfolding is_text
sequences-text s = ap whole (all-sequences s)

-- ---- and text is sequences
lost : {A : Type 0} {rs : List Range} → never ≡ due rs → A
lost e = let z : ◌≡◌ {A = ℕ} 0 1 = cc in absurd (omega arith)

-- bytes in the ranges that are due, and what follows them
record Cut (rs : List Range) (bs : List ℕ) : Type 0 where
  front : List ℕ
  rest : List ℕ
  whole : bs ≡ front ++ rest
  inside : InRanges rs front
  left : after (due []) rest ≡ due []

cut : (rs : List Range) (bs : List ℕ) → after (due rs) bs ≡ due [] → Cut rs bs
unfolding after
cut [] bs h = record { front = []; rest = bs; whole = refl; inside = tt; left = h }
cut (r ∷ rs) [] h = let z : ◌≡◌ {A = ℕ} 0 1 = cc in absurd (omega arith)
cut (r ∷ rs) (b ∷ bs) h = by (within r b) refl h (cut rs bs)
  where
    by : (t : Bool) → within r b ≡ t → after (cond t (due rs) never) bs ≡ due [] → (after (due rs) bs ≡ due [] → Cut rs bs) → Cut (r ∷ rs) (b ∷ bs)
    by true e g f =
        let c = f g in
        record { front = b ∷ c.front; rest = c.rest; whole = ap (λ (l : List ℕ). b ∷ l) c.whole; inside = (e, c.inside); left = c.left }
    by false e g f = lost (sym (after_never bs) ∙ g)

-- a sequence by one of the rows, and what follows it
record Begins (fs : List Form) (b : ℕ) (bs : List ℕ) : Type 0 where
  front : List ℕ
  rest : List ℕ
  whole : bs ≡ front ++ rest
  row : ByOneOf fs (b ∷ front)
  left : after (due []) rest ≡ due []

begins : (fs : List Form) (b : ℕ) (bs : List ℕ) → after (start_in fs b) bs ≡ due [] → Begins fs b bs
begins [] b bs h = lost (sym (after_never bs) ∙ h)
begins (f ∷ fs) b bs h = by (within f.first b) refl h (begins fs b bs)
  where
    by : (t : Bool) → within f.first b ≡ t → after (cond t (due f.behind) (start_in fs b)) bs ≡ due []
        → (after (start_in fs b) bs ≡ due [] → Begins fs b bs) → Begins (f ∷ fs) b bs
    by true e g k = let c = cut f.behind bs g in record { front = c.front; rest = c.rest; whole = c.whole; row = inl (e, c.inside); left = c.left }
    by false e g k = let c = k g in record { front = c.front; rest = c.rest; whole = c.whole; row = inr c.row; left = c.left }

-- n is no less than the bytes that are left
one_by_one : (n : ℕ) (bs : List ℕ) → length bs ≤ n → after (due []) bs ≡ due [] → Sequences bs
unfolding after
one_by_one zero [] l h = none
one_by_one zero (b ∷ bs) l h = absurd (omega arith)
one_by_one (suc n) [] l h = none
one_by_one (suc n) (b ∷ bs) l h =
    let c = begins forms b bs h in
    let m = ap length c.whole ∙ length-append c.front c.rest in
    subst Sequences (ap (λ (s : List ℕ). b ∷ s) (sym c.whole)) (more (b ∷ c.front) c.rest c.row (one_by_one n c.rest (omega arith) c.left))

ended : (d : Due) → whole d ≡ true → d ≡ due []
ended (due []) h = refl
ended (due (r ∷ rs)) h = let z : ◌≡◌ {A = ℕ} 0 1 = cc in absurd (omega arith)
ended never h = let z : ◌≡◌ {A = ℕ} 0 1 = cc in absurd (omega arith)

pub text-sequences : (bs : List ℕ) → is_text bs ≡ true → Sequences bs
unfolding is_text
text-sequences bs h = one_by_one (length bs) bs (omega arith) (ended (after (due []) bs) h)
