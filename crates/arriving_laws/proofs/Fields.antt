-- A field in pieces: one byte more of it, the step with its last byte and with any other, and what is read from a field and from what lies behind it.
-- Assumes nothing.
use Prim.Native.Nat.{ℕ, suc, ◌+◌, ◌-◌, ◌*◌, ◌≤◌}
use native.Mathlib.Omega.{arith}
use mathlib.Core.Bool.{Bool, true, false, cond}
use mathlib.Core.List.{List, [], ◌∷◌, ◌++◌, map}
use mathlib.Core.Path.{◌≡◌, refl, sym, ap, ◌∙◌}
use lib.Dec.{eqb}
use lib.ListN.{length, take, drop, length-append, length-drop}
use lib.Seq.{append_snoc, take_at, drop-append-add, take-append-le, drop-append-le}
use borrow.Author.Tests.{eqb-true, eqb-false}
use Rattle.encode.specs.Bytes.{number}
use Rattle.encode.specs.declared.Kind.{Kind}
use Rattle.plain.specs.Plain.{places, end_at, ends_of}
use Rattle.plain.proofs.Places.{over-shift, over-same}
use Rattle.nullable.specs.Nullable.{trailer_of}
use Rattle.format.specs.declared.Encoding.{Encoding}
use Rattle.format.specs.declared.Encoding.TheVariants.{Plain, Nullable, RunLength, RunLengthNullable, Dictionary}
use Rattle.arriving.specs.Stages.{Stage}
use Rattle.arriving.specs.Arriving.{Waiting, waiting, trailed, field_of, acted, pushed}
use Rattle.arriving_laws.specs.Owed.{trailed_by, tail_of}

-- ---- one byte more
pub one_more : (held bs : List ℕ) (b : ℕ) → held ++ (b ∷ bs) ≡ held ++ (b ∷ []) ++ bs
one_more held bs b = sym (append_snoc held b bs)

pub length_more : (held : List ℕ) (b : ℕ) → length (held ++ (b ∷ [])) ≡ suc (length held)
length_more held b = length-append held (b ∷ []) ∙ omega arith

-- a byte of a field: what holds behind a whole field and behind one that isn't
pub pushed-either :
    (P : Waiting → Type 0) (k : Kind) (e : Encoding) (n rest : ℕ) (s : Stage) (f : List ℕ)
    → (length f ≡ field_of s → P (waiting (acted k e n rest s f) []))
    → ((length f ≡ field_of s → ⊥) → P (waiting s f))
    → P (pushed k e n rest s f)
unfolding pushed
pushed-either P k e n rest s f whole part = by (eqb (length f) (field_of s)) refl
  where
    by : (t : Bool) → eqb (length f) (field_of s) ≡ t → P (cond t (waiting (acted k e n rest s f) []) (waiting s f))
    by true h = whole (eqb-true _ _ h)
    by false h = part (eqb-false _ _ h)

-- ---- the trailer is what ends the bytes, whatever lies before it
pub trailer-behind : (f l : List ℕ) → 4 ≤ length l → trailer_of (f ++ l) ≡ trailer_of l
unfolding trailer_of
trailer-behind f l h =
    let m : length (f ++ l) - 4 ≡ length f + (length l - 4) = omega (arith, length-append f l) in
    ap (λ (i : ℕ). number (drop i (f ++ l))) m ∙ ap number (drop-append-add f l (length l - 4))

pub trailer-whole : (f : List ℕ) → length f ≡ 4 → trailer_of f ≡ number f
unfolding trailer_of
trailer-whole f h = let z : length f - 4 ≡ 0 = omega arith in ap (λ (i : ℕ). number (drop i f)) z

pub trailed-behind : (e : Encoding) (bits : ℕ) (f l : List ℕ) (v : ℕ) → tail_of e bits ≤ length l → trailed_by e bits (f ++ l) v ≡ trailed_by e bits l v
unfolding trailed_by tail_of trailed
trailed-behind Plain bits f l v h = refl
trailed-behind Nullable bits f l v h = rw (trailer-behind f l (omega arith))
trailed-behind RunLength bits f l v h = refl
trailed-behind RunLengthNullable bits f l v h = rw (trailer-behind f l (omega arith))
trailed-behind Dictionary bits f l v h = refl

-- ---- ends, of four bytes each: the first one, and those behind it
end-behind : (f l : List ℕ) (i : ℕ) → length f ≡ 4 → end_at (f ++ l) (1 + i) ≡ end_at l i
unfolding end_at
end-behind f l i h =
    let m : 4 * (1 + i) ≡ length f + 4 * i = omega arith in
    rw (m, drop-append-add f l (4 * i))

pub ends_more : (f l : List ℕ) (n : ℕ) → length f ≡ 4 → ends_of (suc n) (f ++ l) ≡ number f ∷ ends_of n l
unfolding ends_of end_at places
ends_more f l n h =
    ap (λ (b : List ℕ). number b ∷ map (end_at (f ++ l)) (places n 1)) (take_at f l 4 h)
    ∙ ap (λ (es : List ℕ). number f ∷ es)
    (over-shift (end_at (f ++ l)) n 1 0
    ∙ over-same (λ (i : ℕ). end_at (f ++ l) (1 + i)) (end_at l) n 0 (λ i a b. end-behind f l i h))

-- and what lies behind the last doesn't matter
pub ends-before : (f l : List ℕ) (n : ℕ) → 4 * n ≤ length f → ends_of n (f ++ l) ≡ ends_of n f
unfolding ends_of end_at
ends-before f l n h = over-same (end_at (f ++ l)) (end_at f) n 0 (λ i a b. same i (omega arith))
  where
    same : (i : ℕ) → 4 * i + 4 ≤ length f → end_at (f ++ l) i ≡ end_at f i
    same i g =
        let m : 4 ≤ length (drop (4 * i) f) = simp length-drop (omega arith) in
        ap number (ap (take 4) (drop-append-le (4 * i) f l (omega arith)) ∙ take-append-le 4 (drop (4 * i) f) l m)
