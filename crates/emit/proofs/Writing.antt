-- Parts written one behind the other are the parts joined: the room for each, the place behind each, and what the area then holds. Assumes nothing.
use Rattle.std.specs.Prelude.{Option, Some, None}
use Prim.Native.Nat.{ℕ, suc, ◌+◌, ◌≤◌, ◌<◌}
use native.Mathlib.Nat.{add-zero}
use native.Mathlib.Omega.{arith}
use mathlib.Core.Bool.{Bool, true, false}
use mathlib.Core.Path.{◌≡◌, refl, sym, ap, ◌∙◌, subst}
use mathlib.Core.List.{List, [], ◌∷◌, ◌++◌, append_assoc}
use lib.IntN.{ℤ}
use lib.ListN.{length, take, set, length-append}
use lib.Seq.{sets, length-sets, set_comm, length-take-le}
use types.Run.{OneOf, miss}
use denote.Enum.Declared.{tag_of}
use borrow.Author.Tests.{le-leb}
use mir.Syntax.{w32}
use mir.Val.{of_z}
use Rattle.encode.specs.Bytes.{little, low_first}
use Rattle.encode.specs.declared.Kind.{Kind}
use Rattle.encode.specs.declared.Kind.TheVariants.{Fixed, Char, Blob}
use Rattle.encode.specs.contracts.Kind.{the_type}
use Rattle.encode.proofs.RoundTrip.{length-bytes}
use Rattle.area.proofs.Laws.{sets-append, over-sets}
use Rattle.varint.specs.Varint.{wrote, wrote_over}
use Rattle.plain.specs.Plain.{joined}
use Rattle.nullable.specs.Nullable.{bitmap_length}
use Rattle.emit.specs.Parts.{held_plain, held_bitmap, held_inner, held_counts, held_runs, held_keys}
use Rattle.emit.proofs.Lengths.{length-bits, length-inner, some_runs}

-- xs was written into d at the place; out is what d then holds, and to the place behind
abbrev pub Laid : List ℕ → ℕ → List ℕ → ℕ → List ℕ → Type 0
Laid d at xs to out = (to ≡ at + length xs) × (out ≡ sets d at xs)

module _ (d : List ℕ) (at : ℕ) where
  -- the same part by another name
  module _ {xs ys : List ℕ} (e : xs ≡ ys) where
    pub laid_as : {to : ℕ} {out : List ℕ} → Laid d at xs to out → Laid d at ys to out
    laid_as {to} {out} w = subst (λ (l : List ℕ). Laid d at l to out) e w

    pub room_as : at + length ys ≤ length d → at + length xs ≤ length d
    room_as h = subst (λ (l : List ℕ). at + length l ≤ length d) (sym e) h

  pub laid_none : {xs : List ℕ} → xs ≡ [] → Laid d at xs at d
  laid_none e = laid_as (sym e) (sym (add-zero at), refl)

  -- one part, and one behind it
  module _ (xs ys : List ℕ) where
    pub room-first : at + length (xs ++ ys) ≤ length d → at + length xs ≤ length d
    room-first h = omega (arith, length-append xs ys)

    module _ {to : ℕ} {out : List ℕ} (w : Laid d at xs to out) where
      pub room-second : at + length (xs ++ ys) ≤ length d → to + length ys ≤ length out
      room-second h = omega (arith, w.0, ap length w.1 ∙ length-sets d at xs, length-append xs ys)

      pub laid_both : {to' : ℕ} {out' : List ℕ} → Laid out to ys to' out' → Laid d at (xs ++ ys) to' out'
      laid_both {to'} {out'} v =
          let e : to' ≡ at + length (xs ++ ys) = omega (arith, v.0, w.0, length-append xs ys) in (
            e,
            v.1
                ∙ ap (λ (l : List ℕ). sets l to ys) w.1
                ∙ ap (λ (k : ℕ). sets (sets d at xs) k ys) w.0
                ∙ sym (sets-append xs ys d at),
          )

-- ---- a part written before one that is there already
sets-after : (ys d : List ℕ) (i j x : ℕ) → i < j → set (sets d j ys) i x ≡ sets (set d i x) j ys
sets-after [] d i j x h = refl
sets-after (y ∷ ys) d i j x h =
    sets-after ys (set d j y) i (suc j) x (omega arith)
    ∙ ap (λ (l : List ℕ). sets l (suc j) ys) (set_comm d j i y x (λ e. omega arith))

sets-before : (xs ys d : List ℕ) (i : ℕ) → sets (sets d (i + length xs) ys) i xs ≡ sets d i (xs ++ ys)
sets-before [] ys d i = rw add-zero
sets-before (x ∷ xs) ys d i =
    let m : i + suc (length xs) ≡ suc i + length xs = omega arith in
    ap (λ (l : List ℕ). sets l (suc i) xs) (sets-after ys d i (i + suc (length xs)) x (omega arith))
    ∙ ap (λ (k : ℕ). sets (sets (set d i x) k ys) (suc i) xs) m
    ∙ sets-before xs ys (set d i x) (suc i)

-- a dictionary: its keys at 12, then its head before them, then its entries behind
pub laid-dictionary :
    (a b keys entries d : List ℕ) → length a ≡ 8 → length b ≡ 4 → {behind to : ℕ} {out₁ out₂ out₃ out₄ : List ℕ}
    → Laid d 12 keys behind out₁ → out₂ ≡ sets out₁ 0 a → out₃ ≡ sets out₂ 8 b → Laid out₃ behind entries to out₄
    → out₄ ≡ sets d 0 (a ++ b ++ keys ++ entries)
laid-dictionary a b keys entries d p q {behind} {to} {out₁} {out₂} {out₃} {out₄} w e f v =
    (laid_both d 0 (a ++ b ++ keys) entries (place, here) v).1
  where
    twelve : length (a ++ b) ≡ 12
    twelve = omega (arith, length-append a b)

    place : behind ≡ 0 + length (a ++ b ++ keys)
    place = omega (arith, twelve, w.0, length-append (a ++ b) keys)

    eight : 0 + length a ≡ 8
    eight = omega arith

    head : out₃ ≡ sets out₁ 0 (a ++ b)
    head =
        f
        ∙ ap (λ (l : List ℕ). sets l 8 b) e
        ∙ ap (λ (k : ℕ). sets (sets out₁ 0 a) k b) (sym eight)
        ∙ sym (sets-append a b out₁ 0)

    from : 12 ≡ 0 + length (a ++ b)
    from = omega (arith, twelve)

    here : out₃ ≡ sets d 0 (a ++ b ++ keys)
    here =
        head
        ∙ ap (λ (l : List ℕ). sets l 0 (a ++ b)) w.1
        ∙ ap (λ (k : ℕ). sets (sets d k keys) 0 (a ++ b)) from
        ∙ sets-before (a ++ b) keys d 0

-- ---- a count where there is room for it
module _ (vs d : List ℕ) (at : ℕ) (h : at + length vs ≤ length d) where
  found : wrote d at vs ≡ Some (length vs)
  unfolding wrote
  found = simp (le-leb _ _ h)

  filled : wrote_over d at vs ≡ sets d at vs
  unfolding wrote_over
  filled = simp (le-leb _ _ h) (sym (over-sets vs d at h))

  module _ {r : Option ℕ} (e : r ≡ wrote d at vs) where
    pub laid-never : r ≡ None → ⊥
    laid-never k = let z : ◌≡◌ {A = ℕ} 0 1 = ap some (sym k ∙ e ∙ found) in omega arith
      where
        some : Option ℕ → ℕ
        some (Some n) = 1
        some None = 0

    module _ {len : ℕ} (k : r ≡ Some len) where
      pub laid-length : len ≡ length vs
      laid-length = ap held (sym k ∙ e ∙ found)
        where
          held : Option ℕ → ℕ
          held (Some n) = n
          held None = 0

      pub laid-count : {out : List ℕ} → out ≡ wrote_over d at vs → Laid d at vs (at + len) out
      laid-count q = (ap (λ (n : ℕ). at + n) laid-length, q ∙ filled)

-- ---- a plain block, by the kind that a match found
pub few_bytes :
    (k : Kind) (n len : ℕ) (items ends : List ℕ) → OneOf (0 ∷ 1 ∷ []) (tag_of the_type k) → take len items ≡ held_plain k n len items ends
unfolding held_plain
few_bytes (Fixed p) n len items ends h = refl
few_bytes (Char w) n len items ends h = refl
few_bytes (Blob text) n len items ends h = absurd (miss (0 ∷ 1 ∷ []) 2 tt h)

module _ (k : Kind) (n len : ℕ) (items ends : List ℕ) where
  pub blob-bytes : {text : Bool} → k ≡ Blob text → joined (little 4) (take n ends) ++ take len items ≡ held_plain k n len items ends
  unfolding held_plain
  blob-bytes e = ap (λ (j : Kind). held_plain j n len items ends) (sym e)

-- so many bytes of the items
module _ (at len : ℕ) (items : List ℕ) (h : len ≤ length items) where
  pub items-room : {room : ℕ} → at + length (take len items) ≤ room → (0 + len ≤ length items) × (at + len ≤ room)
  items-room r = omega (arith, length-take-le len items h)

  pub laid-items : (d : List ℕ) {out : List ℕ} → out ≡ sets d at (take len items) → Laid d at (take len items) (at + len) out
  laid-items d q = (ap (λ (m : ℕ). at + m) (sym (length-take-le len items h)), q)

-- ---- a bitmap and its trailer
module _ (d : List ℕ) (at n : ℕ) (flags : List ℕ) where
  pub bitmap-room : at + length (held_bitmap n flags ++ little 4 (bitmap_length n)) ≤ length d → at + (bitmap_length n + 4) ≤ length d
  bitmap-room h = omega (arith, length-append (held_bitmap n flags) (little 4 (bitmap_length n)), length-bits n flags, length-bytes low_first 4 (bitmap_length n))

  pub laid-bitmap :
      {len to : ℕ} {out out' : List ℕ} → len ≡ bitmap_length n → out ≡ sets d at (held_bitmap n flags) → Laid out (at + len) (little 4 len) to out'
      → Laid d at (held_bitmap n flags ++ little 4 (bitmap_length n)) to out'
  laid-bitmap {len} {to} {out} e q v =
      laid_both
      d
      at
      (held_bitmap n flags)
      (little 4 (bitmap_length n))
      (ap (λ (m : ℕ). at + m) (e ∙ sym (length-bits n flags)), q)
      (laid_as out (at + len) (ap (little 4) e) v)

-- ---- an inner block
module _ (f : Bool) (k : Kind) (n len : ℕ) (items ends flags : List ℕ) where
  pub bare-bytes : f ≡ false → held_plain k n len items ends ≡ held_inner f k n len items ends flags
  unfolding held_inner
  bare-bytes e = ap (λ (g : Bool). held_inner g k n len items ends flags) (sym e)

  pub flagged-bytes :
      f ≡ true → held_plain k n len items ends ++ (held_bitmap n flags ++ little 4 (bitmap_length n)) ≡ held_inner f k n len items ends flags
  unfolding held_inner
  flagged-bytes e =
      sym (append_assoc (held_plain k n len items ends) (held_bitmap n flags) (little 4 (bitmap_length n)))
      ∙ ap (λ (g : Bool). held_inner g k n len items ends flags) (sym e)

pub inner_room :
    (d : List ℕ) (at : ℕ) (f : Bool) (k : Kind) (n len : ℕ) (items ends flags : List ℕ) → at + length (held_inner f k n len items ends flags) ≤ length d
    → at + length (held_plain k n len items ends) ≤ length d
inner_room d at f k n len items ends flags h = omega (arith, length-inner f k n len items ends flags)

-- ---- runs
module _ (n : ℕ) (counts : List ℕ) where
  module _ {size : ℕ} (h : n ≡ 0 → ⊥) (e : size ≡ length (held_counts n counts)) where
    pub runs-bytes : (inner : List ℕ) → little 4 n ++ little 4 size ++ held_counts n counts ++ inner ≡ held_runs n counts inner
    runs-bytes inner = ap (λ (m : ℕ). little 4 n ++ little 4 m ++ held_counts n counts ++ inner) e ∙ sym (some_runs n counts inner h)

    pub keys-bytes :
        (keys : List ℤ)
        → little 4 n ++ little 4 size ++ held_counts n counts ++ joined (λ (key : ℤ). little 4 (of_z w32 key)) (take n keys) ≡ held_keys n counts keys
    unfolding held_keys
    keys-bytes keys = runs-bytes (joined (λ (key : ℤ). little 4 (of_z w32 key)) (take n keys))
