-- The rules of a nullable block, in order: the number that each broken rule gives, and that of the plain rules behind them. Assumes nothing.
use Prim.Native.Nat.{ℕ, zero, suc, ◌+◌, ◌-◌, ◌≤◌, ◌<◌}
use native.Mathlib.Omega.{arith}
use mathlib.Core.Path.{◌≡◌, refl, sym, ap, ◌∙◌}
use mathlib.Core.List.{List, [], ◌∷◌}
use lib.ListN.{length, take, drop, length-drop}
use lib.Seq.{take_all}
use borrow.Author.Tests.{lt-ltb, le-ltb, eq-eqb, ne_eqb}
use Rattle.encode.specs.Bytes.{number}
use Rattle.encode.specs.declared.Kind.{Kind}
use Rattle.limits.specs.Refusals.{CUT, LENGTH}
use Rattle.plain.specs.Rules.{first_of}
use Rattle.plain.specs.Plain.{plain_number}
use Rattle.nullable.specs.Nullable.{bitmap_length, trailer_of, plain_part, nullable_number}

-- the four bytes at the end are all that is left there
pub last-four : (b : List ℕ) → 4 ≤ length b → number (take 4 (drop (length b - 4) b)) ≡ trailer_of b
unfolding trailer_of
last-four b h = ap number (take_all 4 (drop (length b - 4) b) (simp length-drop (omega arith)))

-- the last rule alone
last : (e : ℕ) → first_of (e ∷ []) ≡ e
unfolding first_of
last zero = refl
last (suc e) = refl

module _ (k : Kind) (n : ℕ) (b : List ℕ) where
  pub no-trailer : length b < 4 → CUT ≡ nullable_number k n b
  unfolding nullable_number first_of
  no-trailer h = simp (lt-ltb (length b) 4 h)

  -- u is the number that was read, and w the length that it has to be
  module _ (h : 4 ≤ length b) {u w : ℕ} (p : u ≡ number (take 4 (drop (length b - 4) b))) (q : w ≡ bitmap_length n) where
    found : trailer_of b ≡ u
    found = sym (p ∙ last-four b h)

    pub other_length : (u ≡ w → ⊥) → LENGTH ≡ nullable_number k n b
    unfolding nullable_number first_of
    other_length z = rw (found, ← q) (simp (le-ltb (length b) 4 h, ne_eqb u w z))

    module _ (e : u ≡ w) where
      pub no-bitmap : length b < w + 4 → CUT ≡ nullable_number k n b
      unfolding nullable_number first_of
      no-bitmap l = rw (found, ← q) (simp (le-ltb (length b) 4 h, eq-eqb u w e, lt-ltb (length b) (w + 4) l))

      pub then-plain : {r : ℕ} → w + 4 ≤ length b → r ≡ plain_number k n (take (length b - (w + 4)) b) → r ≡ nullable_number k n b
      unfolding nullable_number first_of plain_part
      then-plain l v =
          let x : ℕ = plain_number k n (take (length b - (w + 4)) b) in
          v ∙ rw (found, ← q) (simp (le-ltb (length b) 4 h, eq-eqb u w e, le-ltb (length b) (w + 4) l) (sym (last x)))
