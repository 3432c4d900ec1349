-- The entries of a list of rows, and the keys that name them: each row that isn't null is an entry, its key is an i32's, and the slot of the key
-- leads back to it. Assumes nothing.
use Prim.Native.Nat.{ℕ, suc, ◌-◌, ◌≤◌, ◌<◌}
use native.Mathlib.Omega.{arith}
use mathlib.Core.Bool.{Bool, true, false, cond}
use mathlib.Core.List.{List, [], ◌∷◌, ◌++◌}
use mathlib.Core.Path.{◌≡◌, refl}
use lib.Dec.{ltb}
use lib.IntN.{ℤ, pos, ◌+ℤ◌, nat_abs}
use lib.ListN.{length, length-append}
use borrow.Author.Tests.{ltb-true, lt-ltb}
use Rattle.encode.specs.Kinds.{takes}
use Rattle.encode.specs.declared.Primitive.TheVariants.{I32}
use Rattle.limits.specs.Limits.{MOST_ENTRIES}
use Rattle.plain.specs.Each.{Each}
use Rattle.plain.specs.Rows.{Row, null, int, bytes, int_in, fits}
use Rattle.plain.proofs.Each.{each_append}
use Rattle.dict.specs.Dictionary.{i32, index_of, with_entry, entries_after, entries_of, null_key, entry_key, key_of}
use Rattle.dict.proofs.Entries.{index_kept, last-there}
use Rattle.dict.proofs.Slots.{null-slot, entry-slot}
use Rattle.block_laws.proofs.Plains.{Fits}

-- ---- a row that is one of the entries stays one of more entries
index-more : (r : Row) (es more : List Row) → index_of r es < length es → index_of r (es ++ more) < length (es ++ more)
index-more r es more h = omega (arith, index_kept r es more h, length-append es more)

-- ---- a null, or one of the entries
abbrev pub Entered : List Row → Row → Type 0
Entered es null = Unit
Entered es (int v) = index_of (int v) es < length es
Entered es (bytes bs) = index_of (bytes bs) es < length es

entered-more : (es more : List Row) (r : Row) → Entered es r → Entered (es ++ more) r
entered-more es more null h = tt
entered-more es more (int v) h = index-more (int v) es more h
entered-more es more (bytes bs) h = index-more (bytes bs) es more h

-- the entries after a row that isn't null
module _ (es : List Row) (x : Row) where
  abbrev added : List Row
  added = cond (ltb (index_of x es) (length es)) es (es ++ (x ∷ []))

  added-keeps : (r : Row) → Entered es r → Entered added r
  added-keeps r h = go (ltb (index_of x es) (length es))
    where
      go : (t : Bool) → Entered (cond t es (es ++ (x ∷ []))) r
      go true = h
      go false = entered-more es (x ∷ []) r h

  added_new : index_of x added < length added
  added_new = go (ltb (index_of x es) (length es)) refl
    where
      go : (t : Bool) → ltb (index_of x es) (length es) ≡ t → index_of x (cond t es (es ++ (x ∷ []))) < length (cond t es (es ++ (x ∷ [])))
      go true e = ltb-true (index_of x es) (length es) e
      go false e = ltb-true (index_of x (es ++ (x ∷ []))) (length (es ++ (x ∷ []))) (last-there x es)

  each-added : (P : Row → Type 0) → Each P es → P x → Each P added
  each-added P h k = go (ltb (index_of x es) (length es))
    where
      go : (t : Bool) → Each P (cond t es (es ++ (x ∷ [])))
      go true = h
      go false = each_append P es (x ∷ []) h (k, tt)

entered-next : (es : List Row) (x r : Row) → Entered es r → Entered (with_entry es x) r
unfolding with_entry
entered-next es null r h = h
entered-next es (int v) r h = added-keeps es (int v) r h
entered-next es (bytes bs) r h = added-keeps es (bytes bs) r h

entered-new : (es : List Row) (r : Row) → Entered (with_entry es r) r
unfolding with_entry
entered-new es null = tt
entered-new es (int v) = added_new es (int v)
entered-new es (bytes bs) = added_new es (bytes bs)

entered-after : (es rows : List Row) (r : Row) → Entered es r → Entered (entries_after es rows) r
unfolding entries_after
entered-after es [] r h = h
entered-after es (x ∷ rows) r h = entered-after (with_entry es x) rows r (entered-next es x r h)

all_after : (es rows : List Row) → Each (Entered (entries_after es rows)) rows
unfolding entries_after
all_after es [] = tt
all_after es (x ∷ rows) = (entered-after (with_entry es x) rows x (entered-new es x), all_after (with_entry es x) rows)

pub all-entered : (rows : List Row) → Each (Entered (entries_of rows)) rows
unfolding entries_of
all-entered rows = all_after [] rows

-- ---- what holds of each row holds of each entry
module _ (P : Row → Type 0) where
  each_next : (es : List Row) (r : Row) → Each P es → P r → Each P (with_entry es r)
  unfolding with_entry
  each_next es null h k = h
  each_next es (int v) h k = each-added es (int v) P h k
  each_next es (bytes bs) h k = each-added es (bytes bs) P h k

  each_after : (es rows : List Row) → Each P es → Each P rows → Each P (entries_after es rows)
  unfolding entries_after
  each_after es [] h k = h
  each_after es (r ∷ rows) h k = each_after (with_entry es r) rows (each_next es r h k.0) k.1

  pub each-entry : (rows : List Row) → Each P rows → Each P (entries_of rows)
  unfolding entries_of
  each-entry rows h = each_after [] rows tt h

-- ---- keys
entry-fits : (j : ℕ) → j ≤ MOST_ENTRIES → takes I32 (entry_key j) ≡ true
unfolding entry_key
entry-fits j h =
    let l : j < 2147483647 = omega arith in
    let m : 2147483647 - suc j < 2147483648 = omega arith in
    simp (lt-ltb j 2147483647 l, lt-ltb (2147483647 - suc j) 2147483648 m)

pub key_fits : (es : List Row) (r : Row) → length es ≤ MOST_ENTRIES → Entered es r → Fits i32 (key_of es r)
unfolding key_of fits null_key
key_fits es null h e = refl
key_fits es (int v) h e = entry-fits (index_of (int v) es) (omega arith)
key_fits es (bytes bs) h e = entry-fits (index_of (bytes bs) es) (omega arith)

-- the slot of a key: 0 for null, k + 1 for entry k
abbrev pub slot_of : Row → ℕ
slot_of key = nat_abs (int_in key +ℤ pos 2147483648)

pub slot-null : (es : List Row) → slot_of (key_of es null) ≡ 0
unfolding key_of int_in
slot-null es = null-slot

pub slot_small : (es : List Row) (r : Row) → Entered es r → slot_of (key_of es r) ≤ length es
unfolding key_of int_in
slot_small es null e = omega (arith, null-slot)
slot_small es (int v) e = omega (arith, entry-slot (index_of (int v) es))
slot_small es (bytes bs) e = omega (arith, entry-slot (index_of (bytes bs) es))

-- a row that isn't null comes back from the slot of its key
pub slot-int : (es : List Row) (v : ℤ) → slot_of (key_of es (int v)) ≡ suc (index_of (int v) es)
unfolding key_of int_in
slot-int es v = entry-slot (index_of (int v) es)

pub slot-bytes : (es : List Row) (bs : List ℕ) → slot_of (key_of es (bytes bs)) ≡ suc (index_of (bytes bs) es)
unfolding key_of int_in
slot-bytes es bs = entry-slot (index_of (bytes bs) es)
