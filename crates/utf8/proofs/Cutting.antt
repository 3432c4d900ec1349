-- A text up to a NUL is a text: a NUL is never due within a sequence. Assumes nothing.
use Prim.Native.Nat.{ℕ, ◌<◌}
use native.Mathlib.Omega.{arith}
use mathlib.Core.Bool.{Bool, true, false, cond}
use mathlib.Core.List.{List, [], ◌∷◌, ◌++◌}
use mathlib.Core.Path.{◌≡◌, refl, sym, ap, ◌∙◌}
use borrow.Author.Tests.{lt-leb}
use Rattle.utf8.specs.Utf8.{Range, Form, forms, Due, due, never, within, start_in, next, after, whole, is_text}

-- ---- none of the ranges that can be due holds a NUL
abbrev Above : List Range → Type 0
Above [] = Unit
Above (r ∷ rs) = (0 < r.low) × Above rs

abbrev Past : Due → Type 0
Past (due rs) = Above rs
Past never = Unit

abbrev AllPast : List Form → Type 0
AllPast [] = Unit
AllPast (f ∷ fs) = Above f.behind × AllPast fs

start-past : (fs : List Form) (b : ℕ) → AllPast fs → Past (start_in fs b)
start-past [] b h = tt
start-past (f ∷ fs) b h = by (within f.first b) (start-past fs b h.1)
  where
    by : (t : Bool) → Past (start_in fs b) → Past (cond t (due f.behind) (start_in fs b))
    by true g = h.0
    by false g = g

forms-past : AllPast forms
forms-past =
    let one : 0 < 0x80 = omega arith in
    let lead : 0 < 0x90 = omega arith in
    let third : 0 < 0xa0 = omega arith in
    let two : (0 < 0x80) × ((0 < 0x80) × Unit) = (one, (one, tt)) in
    let three : (0 < 0x80) × ((0 < 0x80) × ((0 < 0x80) × Unit)) = (one, two) in
    (tt, ((one, tt), ((third, (one, tt)), (two, (two, (two, ((lead, two), (three, (three, tt)))))))))

next_past : (d : Due) (b : ℕ) → Past d → Past (next d b)
next_past never b h = tt
next_past (due []) b h = start-past forms b forms-past
next_past (due (r ∷ rs)) b h = by (within r b)
  where
    by : (t : Bool) → Past (cond t (due rs) never)
    by true = h.1
    by false = tt

-- ---- so it is taken only between two sequences
pub after_never : (bs : List ℕ) → after never bs ≡ never
unfolding after
after_never [] = refl
after_never (b ∷ bs) = after_never bs

nul-next : (r : Range) (rs : List Range) → 0 < r.low → next (due (r ∷ rs)) 0 ≡ never
nul-next r rs h = simp (lt-leb r.low 0 h)

lost : {A : Type 0} → false ≡ true → A
lost e = let z : ◌≡◌ {A = ℕ} 0 1 = cc in absurd (omega arith)

at-nul : (d : Due) (bs : List ℕ) → Past d → whole (after (next d 0) bs) ≡ true → whole d ≡ true
at-nul (due []) bs h e = refl
at-nul (due (r ∷ rs)) bs h e = lost (sym (ap whole (ap (λ (x : Due). after x bs) (nul-next r rs h.0) ∙ after_never bs)) ∙ e)
at-nul never bs h e = lost (sym (ap whole (after_never bs)) ∙ e)

cut : (xs ys : List ℕ) (d : Due) → Past d → whole (after d (xs ++ (0 ∷ ys))) ≡ true → whole (after d xs) ≡ true
unfolding after
cut [] ys d h e = at-nul d ys h e
cut (x ∷ xs) ys d h e = cut xs ys (next d x) (next_past d x h) e

pub text-before : (xs ys : List ℕ) → is_text (xs ++ (0 ∷ ys)) ≡ true → is_text xs ≡ true
unfolding is_text
text-before xs ys e = cut xs ys (due []) tt e

pub no_text : is_text [] ≡ true
unfolding is_text after
no_text = refl
