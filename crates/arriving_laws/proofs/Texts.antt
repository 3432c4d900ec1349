-- Char items byte by byte: from the start of one, all are text where each is text up to its first NUL. Assumes nothing.
use Prim.Native.Nat.{ℕ, zero, suc, ◌+◌, ◌*◌, ◌<◌}
use native.Mathlib.Nat.{suc-mul, zero-mul}
use native.Mathlib.Omega.{arith}
use mathlib.Core.Bool.{Bool, true, false, cond, ◌&&◌}
use mathlib.Core.List.{List, [], ◌∷◌, ◌++◌}
use mathlib.Core.Logic.{◌⊎◌, inl, inr}
use mathlib.Core.Path.{◌≡◌, refl, sym, ap, ◌∙◌}
use borrow.Author.Tests.{eq-eqb, ne_eqb}
use lib.Dec.{eqb}
use lib.ListN.{length, take, drop, length-append, length-drop, take-append-drop}
use lib.Seq.{length-take-le, drop-drop}
use Rattle.encode.specs.declared.Kind.TheVariants.{Char}
use Rattle.utf8.specs.Utf8.{Due, due, never, next, after, whole, is_text}
use Rattle.utf8.proofs.Cutting.{after_never}
use Rattle.plain.specs.Plain.{all_of, places, before_nul, char_at, all_text}
use Rattle.arriving_laws.specs.Owed.{Place, on, bad, is_on, place_behind, sequence_behind, next_place, places_behind, text_from, Begun}

-- ---- what is due behind one byte more
after-snoc : (d : Due) (xs : List ℕ) (b : ℕ) → after d (xs ++ (b ∷ [])) ≡ next (after d xs) b
unfolding after
after-snoc d [] b = refl
after-snoc d (x ∷ xs) b = after-snoc (next d x) xs b

-- ---- one item
-- behind an item: the start of the next one, if its sequences are whole
judged : Due → Place
judged d = cond (whole d) (on 0 false []) bad

-- the bytes that are held have begun a sequence, if there are any
abbrev pub Held : List ℕ → Type 0
Held held = (held ≡ []) ⊎ Begun held

module _ (w : ℕ) where
  -- no byte mends what is no text
  pub bad-stays : (bs : List ℕ) → places_behind w bad bs ≡ bad
  unfolding places_behind next_place
  bad-stays [] = refl
  bad-stays (b ∷ bs) = bad-stays bs

  -- behind a byte of an item: its end, or the bytes of it that are left
  behind :
      (at : ℕ) (ended : Bool) (held bs : List ℕ) (q : Place) → at + 1 + length bs ≡ w → (bs ≡ [] → cond (eqb (length held) 0) (on 0 false []) bad ≡ q)
      → (0 < length bs → places_behind w (on (at + 1) ended held) bs ≡ q) → places_behind w (place_behind w at ended held) bs ≡ q
  unfolding places_behind place_behind
  behind at ended held [] q l f g =
      let e : at + 1 ≡ w = omega arith in
      ap (λ (t : Bool). cond t (cond (eqb (length held) 0) (on 0 false []) bad) (on (at + 1) ended held)) (eq-eqb (at + 1) w e) ∙ f refl
  behind at ended held (b ∷ bs) q l f g =
      let e : at + 1 ≡ w → ⊥ = λ (z : at + 1 ≡ w). omega arith in
      ap (λ (t : Bool). places_behind w (cond t (cond (eqb (length held) 0) (on 0 false []) bad) (on (at + 1) ended held)) (b ∷ bs)) (ne_eqb (at + 1) w e)
      ∙ g (omega arith)

  -- behind its NUL an item may hold anything
  ended-item : (at : ℕ) (bs : List ℕ) → 0 < length bs → at + length bs ≡ w → places_behind w (on at true []) bs ≡ on 0 false []
  unfolding places_behind next_place
  ended-item at [] h l = absurd (omega arith)
  ended-item at (b ∷ bs) h l = behind at true [] bs (on 0 false []) (omega arith) (λ e. refl) (λ g. ended-item (at + 1) bs g (omega arith))

  -- a NUL: no sequence may have begun
  nul-read :
      (at : ℕ) (held bs : List ℕ) → Held held → at + 1 + length bs ≡ w
      → places_behind w (cond (eqb (length held) 0) (place_behind w at true []) bad) bs ≡ judged (after (due []) held)
  unfolding after judged Begun
  nul-read at [] bs o l = behind at true [] bs (on 0 false []) l (λ e. refl) (λ g. ended-item (at + 1) bs g l)
  nul-read at (x ∷ xs) bs (inl e) l = let z : suc (length xs) ≡ 0 = ap length e in absurd (omega arith)
  nul-read at (x ∷ xs) bs (inr (r, rs, e)) l =
      let z : suc (length xs) ≡ 0 → ⊥ = λ (y : suc (length xs) ≡ 0). omega arith in
      ap (λ (t : Bool). places_behind w (cond t (place_behind w at true []) bad) bs) (ne_eqb (suc (length xs)) 0 z) ∙ bad-stays bs ∙ sym (ap judged e)

  module _ (at : ℕ) (bs : List ℕ) (l : at + 1 + length bs ≡ w)
      (left : (held : List ℕ) → Held held → 0 < length bs → places_behind w (on (at + 1) false held) bs ≡ judged (after (after (due []) held) (before_nul bs))) where
    -- a byte of a sequence, by what is due behind it
    byte-read : (held : List ℕ) (d : Due) → 0 < length held → after (due []) held ≡ d → places_behind w (sequence_behind w at held d) bs ≡ judged (after d (before_nul bs))
    unfolding sequence_behind judged after before_nul Begun
    byte-read held never h e = bad-stays bs ∙ sym (ap judged (after_never (before_nul bs)))
    byte-read held (due []) h e =
        behind at false [] bs (judged (after (due []) (before_nul bs))) l (λ (n : bs ≡ []). rw n) (λ g. left [] (inl refl) g)
    byte-read held (due (r ∷ rs)) h e =
        let z : length held ≡ 0 → ⊥ = λ (y : length held ≡ 0). omega arith in
        behind at false held bs (judged (after (due (r ∷ rs)) (before_nul bs))) l (λ (n : bs ≡ []). rw (n, ne_eqb (length held) 0 z))
        (λ g. left held (inr (r, rs, e)) g ∙ ap (λ (x : Due). judged (after x (before_nul bs))) e)

  open-item :
      (at : ℕ) (held bs : List ℕ) → Held held → 0 < length bs → at + length bs ≡ w
      → places_behind w (on at false held) bs ≡ judged (after (after (due []) held) (before_nul bs))
  unfolding places_behind next_place before_nul after
  open-item at held [] o h l = absurd (omega arith)
  open-item at held (b ∷ bs) o h l = by (eqb b 0) (λ held o g. open-item (at + 1) held bs o g (omega arith))
    where
      by : (t : Bool) → ((held : List ℕ) → Held held → 0 < length bs → places_behind w (on (at + 1) false held) bs ≡ judged (after (after (due []) held) (before_nul bs)))
          → places_behind w (cond t (cond (eqb (length held) 0) (place_behind w at true []) bad) (sequence_behind w at (held ++ (b ∷ [])) (after (due []) (held ++ (b ∷ []))))) bs
          ≡ judged (after (after (due []) held) (cond t [] (b ∷ before_nul bs)))
      by true left = nul-read at held bs o (omega arith)
      by false left =
          let m = length-append held (b ∷ []) in
          byte-read at bs (omega arith) left (held ++ (b ∷ [])) (after (due []) (held ++ (b ∷ []))) (omega arith) refl
          ∙ ap (λ (x : Due). judged (after x (before_nul bs))) (after-snoc (due []) held b)

  -- from its start: text up to its first NUL
  one-item : (bs : List ℕ) → 0 < w → length bs ≡ w → places_behind w (on 0 false []) bs ≡ cond (is_text (before_nul bs)) (on 0 false []) bad
  unfolding judged is_text after
  one-item bs h l = open-item 0 [] bs (inl refl) (omega arith) (omega arith)

  -- ---- items one after another
  places-append : (p : Place) (xs ys : List ℕ) → places_behind w p (xs ++ ys) ≡ places_behind w (places_behind w p xs) ys
  unfolding places_behind
  places-append p [] ys = refl
  places-append p (x ∷ xs) ys = places-append (next_place w p x) xs ys

  and_then : (t : Bool) (bs : List ℕ) → text_from w (cond t (on 0 false []) bad) bs ≡ (t && text_from w (on 0 false []) bs)
  and_then true bs = refl
  and_then false bs = ap is_on (bad-stays bs)

-- tests that agree, each one place on
all-on : (f g : ℕ → Bool) → ((j : ℕ) → f j ≡ g (suc j)) → (n i : ℕ) → all_of f (places n i) ≡ all_of g (places n (suc i))
unfolding all_of places
all-on f g h zero i = refl
all-on f g h (suc n) i = ap (λ (t : Bool). t && all_of f (places n (suc i))) (h i) ∙ ap (λ (t : Bool). g (suc i) && t) (all-on f g h n (suc i))

-- the items behind the first
char-on : (w : ℕ) (b : List ℕ) (j : ℕ) → is_text (char_at w (drop w b) j) ≡ is_text (char_at w b (suc j))
unfolding char_at
char-on w b j =
    let m : suc j * w ≡ j * w + w = suc-mul j w in
    let e : w + j * w ≡ suc j * w = omega arith in
    ap (λ (l : List ℕ). is_text (before_nul (take w l))) (drop-drop (j * w) w b ∙ ap (λ (k : ℕ). drop k b) e)

first_char : (w : ℕ) (b : List ℕ) → is_text (before_nul (take w b)) ≡ is_text (char_at w b 0)
unfolding char_at
first_char w b = ap (λ (k : ℕ). is_text (before_nul (take w (drop k b)))) (sym (zero-mul w))

items-text : (w n : ℕ) (b : List ℕ) → 0 < w → length b ≡ n * w → text_from w (on 0 false []) b ≡ all_of (λ i. is_text (char_at w b i)) (places n 0)
unfolding all_of places places_behind
items-text w zero [] h l = refl
items-text w zero (x ∷ b) h l = let z = zero-mul w in absurd (omega arith)
items-text w (suc n) b h l =
    let m : suc n * w ≡ n * w + w = suc-mul n w in
    let a : length (take w b) ≡ w = length-take-le w b (omega arith) in
    let d = length-drop w b in
    let f : ℕ → Bool = λ (i : ℕ). is_text (char_at w b i) in
    ap (text_from w (on 0 false [])) (sym (take-append-drop w b))
    ∙ ap is_on (places-append w (on 0 false []) (take w b) (drop w b))
    ∙ ap (λ (p : Place). text_from w p (drop w b)) (one-item w (take w b) h a)
    ∙ and_then w (is_text (before_nul (take w b))) (drop w b)
    ∙ ap (λ (t : Bool). t && text_from w (on 0 false []) (drop w b)) (first_char w b)
    ∙ ap (λ (t : Bool). f 0 && t) (items-text w n (drop w b) h (omega arith) ∙ all-on (λ i. is_text (char_at w (drop w b) i)) f (char-on w b) n 0)

pub texts-from-start : (w n : ℕ) (b : List ℕ) → 0 < w → length b ≡ n * w → text_from w (on 0 false []) b ≡ all_text (Char w) n b
unfolding all_text
texts-from-start w n b h l = items-text w n b h l
