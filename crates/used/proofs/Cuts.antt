-- Bytes with no NUL next to a char item that is cut at its first one: they are its text exactly if they are its first bytes and the byte behind
-- them, if there is one, is a NUL. Assumes nothing.
use Prim.Native.Nat.{ℕ, zero, suc, ◌+◌, ◌*◌, ◌≤◌, ◌<◌}
use native.Mathlib.Omega.{arith}
use mathlib.Core.Path.{◌≡◌, refl, sym, ap, ◌∙◌}
use mathlib.Core.Bool.{Bool, true, false, cond, ◌&&◌}
use mathlib.Core.List.{List, [], ◌∷◌}
use borrow.Author.Tests.{eqb-true, eq-eqb, ne_eqb}
use lib.Dec.{eqb}
use lib.ListN.{length, take, drop, get_or}
use lib.Seq.{take-take, get_or-take, get_or-drop}
use Rattle.encode.specs.declared.Kind.TheVariants.{Char}
use Rattle.plain.specs.Rows.{bytes_in, same_bytes}
use Rattle.plain.specs.Plain.{before_nul, char_at, plain_row}
use Rattle.plain.proofs.Chars.{length-char}
use Rattle.plain.proofs.Ranges.{Lies}
use Rattle.matching.proofs.Pairs.{part_length}
use Rattle.used.specs.Used.{Cut}

-- a byte of a part
module _ (a : List ℕ) (from len : ℕ) where
  part-byte : (i : ℕ) → i < len → get_or (take len (drop from a)) i 0 ≡ get_or a (from + i) 0
  part-byte i h = rw (get_or-take, get_or-drop)

-- ---- two lists
-- nothing is left to cut
before-twice : (l : List ℕ) → before_nul (before_nul l) ≡ before_nul l
unfolding before_nul
before-twice [] = refl
before-twice (b ∷ l) = go (eqb b 0) refl (before-twice l)
  where
    go : (t : Bool) → eqb b 0 ≡ t → before_nul (before_nul l) ≡ before_nul l
        → before_nul (cond t [] (b ∷ before_nul l)) ≡ cond t [] (b ∷ before_nul l)
    go true e h = refl
    go false e h = simp e (ap (λ (m : List ℕ). b ∷ m) h)

no_nul : (a : ℕ) (t : List ℕ) → before_nul (a ∷ t) ≡ a ∷ t → (eqb a 0 ≡ false) × (before_nul t ≡ t)
unfolding before_nul
no_nul a t c = go (eqb a 0) refl c
  where
    go : (x : Bool) → eqb a 0 ≡ x → cond x [] (a ∷ before_nul t) ≡ a ∷ t → (eqb a 0 ≡ false) × (before_nul t ≡ t)
    go true q e = let z : 0 ≡ suc (length t) = ap length e in absurd (omega arith)
    go false q e = (q, ap (drop 1) e)

-- t next to x, cut at its first NUL, by the byte of x that stands behind as many as t has
cut-same : (t x : List ℕ) → before_nul t ≡ t → get_or x (length t) 0 ≡ 0 → same_bytes t (take (length t) x) ≡ same_bytes t (before_nul x)
unfolding same_bytes before_nul
cut-same [] [] c z = refl
cut-same [] (b ∷ x) c z = rw (eq-eqb b 0 z)
cut-same (a ∷ t) [] c z = refl
cut-same (a ∷ t) (b ∷ x) c z = go (eqb b 0) refl (cut-same t x (no_nul a t c).1 z)
  where
    go : (y : Bool) → eqb b 0 ≡ y → same_bytes t (take (length t) x) ≡ same_bytes t (before_nul x)
        → (eqb a b && same_bytes t (take (length t) x)) ≡ same_bytes (a ∷ t) (cond y [] (b ∷ before_nul x))
    go true q ih = ap (λ (k : Bool). k && same_bytes t (take (length t) x)) (ap (eqb a) (eqb-true b 0 q) ∙ (no_nul a t c).0)
    go false q ih = ap (λ (k : Bool). eqb a b && k) ih

cut-other : (t x : List ℕ) → (get_or x (length t) 0 ≡ 0 → ⊥) → false ≡ same_bytes t (before_nul x)
unfolding same_bytes before_nul
cut-other [] [] z = absurd (z refl)
cut-other [] (b ∷ x) z = rw (ne_eqb b 0 z)
cut-other (a ∷ t) [] z = refl
cut-other (a ∷ t) (b ∷ x) z = go (eqb b 0) (cut-other t x z)
  where
    none : (k : Bool) → false ≡ (k && false)
    none true = refl
    none false = refl

    go : (y : Bool) → false ≡ same_bytes t (before_nul x) → false ≡ same_bytes (a ∷ t) (cond y [] (b ∷ before_nul x))
    go true ih = refl
    go false ih = none (eqb a b) ∙ ap (λ (k : Bool). eqb a b && k) ih

past : (l : List ℕ) (i : ℕ) → length l ≤ i → get_or l i 0 ≡ 0
past [] i h = refl
past (b ∷ l) zero h = absurd (omega arith)
past (b ∷ l) (suc i) h = past l i (omega arith)

-- ---- the bytes of an item
-- where they are the text of a char item
pub item-cut : (w m : ℕ) (others : List ℕ) (j from len : ℕ) → Lies (Char w) m others j from len → Cut w others from len
unfolding plain_row bytes_in char_at
item-cut w m others j from len l =
    let e : take len (drop from others) ≡ char_at w others j = l.1 in
    let a : length (take len (drop from others)) ≡ len = part_length others from len l.0 in
    let b : length (take len (drop from others)) ≡ length (char_at w others j) = ap length e in
    let h : length (char_at w others j) ≤ w = length-char w others j in
    record { long = omega arith; inside = l.0; cut = ap before_nul e ∙ before-twice (take w (drop (j * w) others)) ∙ sym e }

-- next to char item i
module _ {w : ℕ} {others : List ℕ} {from len : ℕ} (g : Cut w others from len) (items : List ℕ) (i : ℕ) where
  behind : get_or (take w (drop (i * w) items)) (length (take len (drop from others))) 0 ≡ get_or (take w (drop (i * w) items)) len 0
  behind = ap (λ (k : ℕ). get_or (take w (drop (i * w) items)) k 0) (part_length others from len g.inside)

  -- the byte behind them tells
  pub char-other : len < w → (get_or items (i * w + len) 0 ≡ 0 → ⊥) → false ≡ same_bytes (take len (drop from others)) (char_at w items i)
  unfolding char_at
  char-other h z =
      cut-other (take len (drop from others)) (take w (drop (i * w) items)) (λ e. z (sym (behind ∙ part-byte items (i * w) w len h) ∙ e))

  -- r is what the bytes say
  module _ {r : Bool} (q : r ≡ same_bytes (take len (drop from others)) (take len (drop (i * w) items))) where
    by_bytes : get_or (take w (drop (i * w) items)) len 0 ≡ 0 → r ≡ same_bytes (take len (drop from others)) (char_at w items i)
    unfolding char_at
    by_bytes z =
        let t : List ℕ = take len (drop from others) in
        let x : List ℕ = take w (drop (i * w) items) in
        q
        ∙ ap (same_bytes t) (sym (take-take len w (drop (i * w) items) g.long) ∙ ap (λ (k : ℕ). take k x) (sym (part_length others from len g.inside)))
        ∙ cut-same t x g.cut (behind ∙ z)

    pub char-short : len < w → get_or items (i * w + len) 0 ≡ 0 → r ≡ same_bytes (take len (drop from others)) (char_at w items i)
    char-short h z = by_bytes (part-byte items (i * w) w len h ∙ z)

    pub char-whole : w ≤ len → i * w + w ≤ length items → r ≡ same_bytes (take len (drop from others)) (char_at w items i)
    char-whole h room = by_bytes (past (take w (drop (i * w) items)) len (omega (arith, part_length items (i * w) w room)))
