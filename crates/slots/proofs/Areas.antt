-- The slots of an item and of its run: each is written where its definition says, or nowhere. Assumes nothing.
use Prim.Native.Nat.{ℕ, ◌+◌, ◌-◌, ◌/◌, ◌%◌}
use borrow.Author.Tests.{ne_eqb}
use mathlib.Core.Bool.{Bool, true, false, cond, not, ◌&&◌}
use mathlib.Core.List.{List, [], ◌∷◌}
use mathlib.Core.Path.{◌≡◌, refl}
use denote.Enum.Declared.{tag_of}
use lib.IntN.{ℤ}
use lib.ListN.{length, get_or, set}
use mir.Facts.{to_z-of_z}
use mir.Syntax.{w32}
use mir.Val.{SFits, of_z, to_z}
use types.Run.{OneOf, miss}
use Rattle.encode.specs.declared.Kind.{Kind}
use Rattle.encode.specs.declared.Kind.TheVariants.{Fixed, Char, Blob}
use Rattle.encode.specs.contracts.Kind.{the_type}
use Rattle.plain.specs.Rows.{null, bytes, value_of, row_of, bytes_in}
use Rattle.nullable.specs.Nullable.{presence}
use Rattle.slots.specs.Slots.{ends_with, lens_with, with_bit, flags_with, counts_with}

-- ---- ends and lengths
pub no_end : (k : Kind) (i end : ℕ) (ends : List ℕ) → OneOf (0 ∷ 1 ∷ []) (tag_of the_type k) → ends ≡ ends_with k i end ends
unfolding ends_with
no_end (Fixed p) i end ends h = refl
no_end (Char w) i end ends h = refl
no_end (Blob text) i end ends h = absurd (miss (0 ∷ 1 ∷ []) 2 tt h)

pub end-set : {k : Kind} (i end : ℕ) (ends : List ℕ) → {text : Bool} → k ≡ Blob text → set ends i end ≡ ends_with k i end ends
unfolding ends_with
end-set i end ends e = rw e

pub no-len : (k : Kind) (i len : ℕ) (lens : List ℕ) → OneOf (0 ∷ 2 ∷ []) (tag_of the_type k) → lens ≡ lens_with k i len lens
unfolding lens_with
no-len (Fixed p) i len lens h = refl
no-len (Char w) i len lens h = absurd (miss (0 ∷ 2 ∷ []) 1 tt h)
no-len (Blob text) i len lens h = refl

pub len-set : {k : Kind} (w i len : ℕ) (lens : List ℕ) → k ≡ Char w → set lens i len ≡ lens_with k i len lens
unfolding lens_with
len-set w i len lens e = rw e

-- ---- flags
module _ (i bit : ℕ) (flags : List ℕ) {byte : ℕ} where
  pub flag-new : i % 8 ≡ 0 → byte ≡ with_bit 0 0 bit → set flags (i / 8) byte ≡ flags_with i bit flags
  unfolding flags_with
  flag-new e h = rw (h, e)

  pub flag-more : (i % 8 ≡ 0 → ⊥) → byte ≡ with_bit (get_or flags (i / 8) 0) (i % 8) bit → set flags (i / 8) byte ≡ flags_with i bit flags
  unfolding flags_with
  flag-more e h = rw (h, ne_eqb (i % 8) 0 e)

-- ---- the length and the flag of the row
module _ (k : Kind) (present : Bool) (v : ℤ) (bs : List ℕ) where
  pub len-found : (i : ℕ) (lens : List ℕ) {lens' : List ℕ} (len : ℕ) → len ≡ length (bytes_in (cond present (bytes bs) null))
      → lens' ≡ lens_with k i len lens → lens' ≡ lens_with k i (length (bytes_in (row_of k present v bs))) lens
  unfolding lens_with row_of value_of
  len-found i lens {lens'} len e h = go k (rw e at h)
    where
      go : (j : Kind) → lens' ≡ lens_with j i (length (bytes_in (cond present (bytes bs) null))) lens
          → lens' ≡ lens_with j i (length (bytes_in (row_of j present v bs))) lens
      go (Fixed p) g = g
      go (Char w) g = g
      go (Blob text) g = g

  presence-of : presence (row_of k present v bs) ≡ cond present 1 0
  unfolding row_of value_of presence
  presence-of = go k present
    where
      go : (j : Kind) (t : Bool) → presence (row_of j t v bs) ≡ cond t 1 0
      go (Fixed p) true = refl
      go (Char w) true = refl
      go (Blob text) true = refl
      go j false = refl

  module _ (i : ℕ) (flags : List ℕ) (flagged : Bool) where
    pub flag-found : {flags' : List ℕ} → flagged ≡ true → flags' ≡ flags_with i (cond present 1 0) flags
        → flags' ≡ cond flagged (flags_with i (presence (row_of k present v bs)) flags) flags
    flag-found t h = rw (t, presence-of) h

    pub flag-kept : flagged ≡ false → flags ≡ cond flagged (flags_with i (presence (row_of k present v bs)) flags) flags
    flag-kept t = rw t

-- ---- counts and keys
module _ (n last : ℕ) (joins : Bool) (counts : List ℕ) where
  pub count-more : joins ≡ true → set counts (n - 1) (last + 1) ≡ counts_with n last joins counts
  unfolding counts_with
  count-more t = rw t

  pub count-new : joins ≡ false → set counts n 1 ≡ counts_with n last joins counts
  unfolding counts_with
  count-new t = rw t

module _ (keyed joins : Bool) where
  pub new-key : keyed ≡ true → joins ≡ false → (keyed && not joins) ≡ true
  new-key t j = rw (t, j)

  pub not-keyed : keyed ≡ false → (keyed && not joins) ≡ false
  not-keyed t = rw t

  pub no_key : joins ≡ true → (keyed && not joins) ≡ false
  no_key j = rw j (go keyed)
    where
      go : (t : Bool) → (t && false) ≡ false
      go true = refl
      go false = refl

module _ {new : Bool} where
  -- a signed number is stored as its bits, and read back
  pub key_set : new ≡ true → (n : ℕ) (key : ℤ) (keys : List ℤ) → SFits w32 key → set keys n (to_z w32 (of_z w32 key)) ≡ cond new (set keys n key) keys
  key_set t n key keys f = rw (t, to_z-of_z f)

  pub key-kept : new ≡ false → (keys keys' : List ℤ) → keys ≡ cond new keys' keys
  key-kept t keys keys' = rw t
