-- How long the parts are. Assumes nothing.
use Prim.Native.Nat.{ℕ, zero, suc, ◌+◌, ◌*◌, ◌/◌, ◌≤◌, ◌<◌}
use native.Mathlib.Omega.{arith}
use mathlib.Core.Bool.{Bool, true, false}
use mathlib.Core.Logic.{⊎_elim}
use mathlib.Core.Path.{◌≡◌, refl, ap, ◌∙◌}
use mathlib.Core.List.{List, [], ◌∷◌, ◌++◌}
use lib.IntN.{ℤ}
use lib.ListN.{length, take, length-append}
use lib.Seq.{length-take-le}
use borrow.Author.Tests.{eq-eqb, ne_eqb}
use mir.Syntax.{w32}
use mir.Val.{of_z}
use Rattle.encode.specs.Bytes.{little, low_first, high-first}
use Rattle.encode.specs.declared.Kind.{Kind}
use Rattle.encode.specs.declared.Kind.TheVariants.{Fixed, Char, Blob}
use Rattle.encode.proofs.RoundTrip.{length-bytes}
use Rattle.area.proofs.Laws.{lt-or-ge}
use Rattle.varint.specs.Varint.{spell_within, spelling}
use Rattle.varint.proofs.Spelling.{spell_last, spell-more}
use Rattle.plain.specs.Plain.{joined}
use Rattle.plain.proofs.Places.{length_over}
use Rattle.nullable.specs.Nullable.{bitmap_length}
use Rattle.emit.specs.Parts.{held_plain, held_byte, held_bitmap, held_inner, held_counts, held_runs, held_keys, held_dictionary}

-- ---- four bytes each
module _ {A : Type 0} (f : A → List ℕ) (four : (x : A) → length (f x) ≡ 4) where
  length-fours : (xs : List A) → length (joined f xs) ≡ 4 * length xs
  unfolding joined
  length-fours [] = refl
  length-fours (x ∷ xs) = rw (length-append (f x) (joined f xs), four x, length-fours xs) (omega arith)

  pub length-joined : (n : ℕ) (xs : List A) → n ≤ length xs → length (joined f (take n xs)) ≡ 4 * n
  length-joined n xs h = length-fours (take n xs) ∙ ap (λ (m : ℕ). 4 * m) (length-take-le n xs h)

-- ---- a plain block
-- the bytes of n items' ends
abbrev pub ends_length : Kind → ℕ → ℕ
ends_length (Fixed p) n = 0
ends_length (Char w) n = 0
ends_length (Blob text) n = 4 * n

pub length-plain :
    (k : Kind) (n len : ℕ) (items ends : List ℕ) → len ≤ length items → ((text : Bool) → k ≡ Blob text → n ≤ length ends)
    → length (held_plain k n len items ends) ≡ ends_length k n + len
unfolding held_plain
length-plain (Fixed p) n len items ends h e = length-take-le len items h ∙ omega arith
length-plain (Char w) n len items ends h e = length-take-le len items h ∙ omega arith
length-plain (Blob text) n len items ends h e =
    length-append (joined (little 4) (take n ends)) (take len items)
    ∙ omega (arith, length-joined (little 4) (length-bytes low_first 4) n ends (e text refl), length-take-le len items h)

-- ---- a nullable one
pub length-bits : (n : ℕ) (flags : List ℕ) → length (held_bitmap n flags) ≡ bitmap_length n
unfolding held_bitmap
length-bits n flags = length_over (held_byte n flags) (bitmap_length n) 0

-- the bytes of the bitmap of n flags and of its trailer
abbrev pub flags_length : Bool → ℕ → ℕ
flags_length false n = 0
flags_length true n = bitmap_length n + 4

pub length-inner :
    (f : Bool) (k : Kind) (n len : ℕ) (items ends flags : List ℕ)
    → length (held_inner f k n len items ends flags) ≡ length (held_plain k n len items ends) + flags_length f n
unfolding held_inner
length-inner false k n len items ends flags = omega arith
length-inner true k n len items ends flags = simp (length-append, length-bits) (omega (arith, length-bytes low_first 4 (bitmap_length n)))

-- ---- runs
spell-most : (k v : ℕ) → length (spell_within k v) ≤ k
unfolding spell_within
spell-most zero v = omega arith
spell-most (suc k) v =
    ⊎_elim
    (λ (h : v < 128). rw (spell_last k v h) (omega arith))
    (λ (h : 128 ≤ v). rw (spell-more k v h) (omega (arith, spell-most k (v / 128))))
    (lt-or-ge v 128)

pub spelling-most : (v : ℕ) → length (spelling v) ≤ 5
unfolding spelling
spelling-most v = spell-most 5 v

module _ (n : ℕ) (counts inner : List ℕ) where
  pub no-runs : n ≡ 0 → held_runs n counts inner ≡ []
  unfolding held_runs
  no-runs h = simp (eq-eqb n 0 h)

  pub some_runs : (n ≡ 0 → ⊥) → held_runs n counts inner ≡ little 4 n ++ little 4 (length (held_counts n counts)) ++ held_counts n counts ++ inner
  unfolding held_runs
  some_runs h = simp (ne_eqb n 0 h)

  pub length_runs : (n ≡ 0 → ⊥) → length (held_runs n counts inner) ≡ 8 + length (held_counts n counts) + length inner
  length_runs h =
      rw (some_runs h)
      (simp length-append (omega (arith, length-bytes low_first 4 n, length-bytes low_first 4 (length (held_counts n counts)))))

-- ---- a dictionary
module _ (n : ℕ) (counts : List ℕ) (keys : List ℤ) where
  pub no_keys : n ≡ 0 → held_keys n counts keys ≡ []
  unfolding held_keys
  no_keys h = no-runs n counts _ h

  pub length-keys : (n ≡ 0 → ⊥) → n ≤ length keys → length (held_keys n counts keys) ≡ 8 + length (held_counts n counts) + 4 * n
  unfolding held_keys
  length-keys h l =
      length_runs n counts (joined (λ key. little 4 (of_z w32 key)) (take n keys)) h
      ∙ ap (λ (m : ℕ). 8 + length (held_counts n counts) + m) (length-joined (λ key. little 4 (of_z w32 key)) (λ key. length-bytes low_first 4 (of_z w32 key)) n keys l)

pub length-dictionary :
    (k : Kind) (entries len n : ℕ) (items ends counts : List ℕ) (keys : List ℤ)
    → length (held_dictionary k entries len n items ends counts keys)
    ≡ 12 + length (held_keys n counts keys) + length (held_plain k entries len items ends)
unfolding held_dictionary
length-dictionary k entries len n items ends counts keys =
    simp length-append (omega (arith, length-bytes high-first 8 (length (held_keys n counts keys)), length-bytes high-first 4 entries))
