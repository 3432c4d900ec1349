-- The parts of a nullable block: how long they are, what a block that no rule refuses has, and the parts of the block of some rows. Assumes nothing.
use Prim.Native.Nat.{ℕ, ◌+◌, ◌-◌, ◌/◌, ◌≤◌, ◌<◌}
use native.Mathlib.Omega.{arith}
use mathlib.Core.Bool.{Bool, true, false, cond}
use mathlib.Core.Path.{◌≡◌, refl, sym, ap, ◌∙◌}
use mathlib.Core.List.{List, map, ◌++◌, append_assoc}
use lib.Dec.{ltb, eqb}
use lib.ListN.{length, drop, get_or, length-append, length-drop}
use lib.Seq.{length-take-le, take_at, drop_at}
use borrow.Author.Tests.{ltb-true, ltb-false, eqb-true, eqb-false}
use Rattle.encode.specs.Bytes.{little, number, low_first}
use Rattle.encode.specs.declared.Kind.{Kind}
use Rattle.encode.proofs.RoundTrip.{number-bytes, length-bytes}
use Rattle.limits.specs.Limits.{MOST_ITEMS}
use Rattle.limits.specs.Refusals.{CUT, LENGTH}
use Rattle.plain.specs.Rows.{Row, null}
use Rattle.plain.specs.Plain.{plain_of, plain_number, plain_row}
use Rattle.nullable.specs.Nullable.{bitmap_length, presence, bitmap_of, nullable_of, plain_part, bitmap_part, trailer_of, nullable_number}
use Rattle.nullable.specs.Nullable.{nullable_row}
use Rattle.nullable.proofs.Bits.{bitmap-small, length-bitmap, bit-row}
use Rattle.nullable.proofs.Number.{last-four, no-trailer, other_length, no-bitmap, then-plain}

module _ (n : ℕ) (b : List ℕ) (h : bitmap_length n + 4 ≤ length b) where
  pub length-plain-part : length (plain_part n b) ≡ length b - (bitmap_length n + 4)
  unfolding plain_part
  length-plain-part = length-take-le (length b - (bitmap_length n + 4)) b (omega arith)

  pub length-bitmap-part : length (bitmap_part n b) ≡ bitmap_length n
  unfolding bitmap_part
  length-bitmap-part = length-take-le (bitmap_length n) (drop (length b - (bitmap_length n + 4)) b) (simp length-drop (omega arith))

-- ---- the rules: what is left of them where the first three hold
module _ (k : Kind) (n : ℕ) (b : List ℕ) where
  pub plain-rules : bitmap_length n + 4 ≤ length b → trailer_of b ≡ bitmap_length n → plain_number k n (plain_part n b) ≡ nullable_number k n b
  unfolding plain_part
  plain-rules h e = let f : 4 ≤ length b = omega arith in then-plain k n b f (sym (last-four b f)) refl e h refl

  -- and a block that none refuses keeps them all
  pub record Sound : Type 0 where
    pub room : bitmap_length n + 4 ≤ length b
    pub length-told : trailer_of b ≡ bitmap_length n
    pub plain : plain_number k n (plain_part n b) ≡ 0

  pub sound : nullable_number k n b ≡ 0 → Sound
  sound z = first (ltb (length b) 4) refl
    where
      never : (e : ℕ) → 0 < e → e ≡ nullable_number k n b → ⊥
      never e p q = omega arith

      third : 4 ≤ length b → trailer_of b ≡ bitmap_length n → (t : Bool) → ltb (length b) (bitmap_length n + 4) ≡ t → Sound
      third f e true l = absurd (never CUT (omega arith) (no-bitmap k n b f (sym (last-four b f)) refl e (ltb-true _ _ l)))
      third f e false l =
          let r : bitmap_length n + 4 ≤ length b = ltb-false _ _ l in
          record { room = r; length-told = e; plain = plain-rules r e ∙ z }

      second : 4 ≤ length b → (t : Bool) → eqb (trailer_of b) (bitmap_length n) ≡ t → Sound
      second f true e = third f (eqb-true _ _ e) (ltb (length b) (bitmap_length n + 4)) refl
      second f false e = absurd (never LENGTH (omega arith) (other_length k n b f (sym (last-four b f)) refl (eqb-false _ _ e)))

      first : (t : Bool) → ltb (length b) 4 ≡ t → Sound
      first true l = absurd (never CUT (omega arith) (no-trailer k n b (ltb-true _ _ l)))
      first false l = second (ltb-false _ _ l) (eqb (trailer_of b) (bitmap_length n)) refl

-- ---- the block of some rows
module _ (k : Kind) (rows : List Row) where
  abbrev end : List ℕ
  end = little 4 (length (bitmap_of rows))

  length-end : length end ≡ 4
  length-end = length-bytes low_first 4 (length (bitmap_of rows))

  pub length-block : length (nullable_of k rows) ≡ length (plain_of k rows) + (bitmap_length (length rows) + 4)
  unfolding nullable_of
  length-block = simp (length-append, length-bitmap) (omega (arith, length-end))

  pub plain-of-block : plain_part (length rows) (nullable_of k rows) ≡ plain_of k rows
  unfolding plain_part nullable_of
  plain-of-block =
      let m : length (nullable_of k rows) - (bitmap_length (length rows) + 4) ≡ length (plain_of k rows) = omega (arith, length-block) in
      rw (m, append_assoc) (take_at (plain_of k rows) (bitmap_of rows ++ end) (length (plain_of k rows)) refl)

  pub bitmap-of-block : bitmap_part (length rows) (nullable_of k rows) ≡ bitmap_of rows
  unfolding bitmap_part nullable_of
  bitmap-of-block =
      let m : length (nullable_of k rows) - (bitmap_length (length rows) + 4) ≡ length (plain_of k rows) = omega (arith, length-block) in
      rw (m, append_assoc, drop_at (plain_of k rows) (bitmap_of rows ++ end) (length (plain_of k rows)) refl)
      (take_at (bitmap_of rows) end (bitmap_length (length rows)) (length-bitmap rows))

  pub trailer-of-block : length rows ≤ MOST_ITEMS → trailer_of (nullable_of k rows) ≡ bitmap_length (length rows)
  unfolding trailer_of nullable_of
  trailer-of-block h =
      let s : bitmap_length (length rows) ≤ MOST_ITEMS / 8 = bitmap-small (length rows) h in
      let m : length (plain_of k rows ++ bitmap_of rows) ≡ length (plain_of k rows) + bitmap_length (length rows) = simp (length-append, length-bitmap) in
      let l : length (plain_of k rows ++ bitmap_of rows) ≡ length (nullable_of k rows) - 4 = omega (arith, length-block) in
      ap number (drop_at (plain_of k rows ++ bitmap_of rows) end (length (nullable_of k rows) - 4) l)
      ∙ number-bytes low_first 4 (length (bitmap_of rows))
      ∙ rw (length-bitmap rows) (omega arith)

  -- no rule refuses it if none of the plain rules does
  pub block-number : length rows ≤ MOST_ITEMS → nullable_number k (length rows) (nullable_of k rows) ≡ plain_number k (length rows) (plain_of k rows)
  block-number h =
      sym (plain-rules k (length rows) (nullable_of k rows) (omega (arith, length-block)) (trailer-of-block h))
      ∙ ap (plain_number k (length rows)) plain-of-block

  -- and a row of it is null where the row was
  pub block_row :
      (i : ℕ) → i < length rows
      → nullable_row k (length rows) (nullable_of k rows) i ≡ cond (eqb (get_or (map presence rows) i 0) 0) null (plain_row k (length rows) (plain_of k rows) i)
  unfolding nullable_row
  block_row i h = rw (plain-of-block, bitmap-of-block, bit-row rows i h)
