-- Keys: one is null's or names an entry exactly when the slot that is counted from it is at most the number of entries. Assumes nothing.
use Prim.Native.Nat.{ℕ, suc, ◌+◌, ◌-◌, ◌*◌, ◌≤◌, ◌<◌}
use native.Mathlib.Nat.{zero-add}
use native.Mathlib.Omega.{arith}
use mathlib.Core.Bool.{Bool, true, false, cond}
use mathlib.Core.List.{List}
use mathlib.Core.Logic.{◌⊎◌, inl, inr}
use mathlib.Core.Path.{◌≡◌, refl, sym, ap, ◌∙◌}
use lib.Dec.{ltb, eqb}
use lib.IntN.{ℤ, pos, negsuc, ◌+ℤ◌, nat_abs}
use lib.ListN.{take, drop}
use mir.Syntax.{w32}
use mir.Val.{to_z, sel}
use borrow.Author.Tests.{lt-ltb, le-ltb, ltb-false, eqb-true, eqb-false}
use Rattle.encode.specs.Bytes.{number}
use Rattle.encode.specs.declared.Primitive.TheVariants.{I32}
use Rattle.plain.specs.Rows.{int_in}
use Rattle.plain.specs.Plain.{places, fixed_at, plain_row}
use Rattle.dict.specs.Dictionary.{null_key, entry_key, slot_at, known}
use Rattle.dict.proofs.Slots.{null-slot, entry-slot, known_at, known-all}
use Rattle.soundness_laws.specs.Sound.{Entry}

abbrev Named : ℕ → ℤ → Type 0
Named entries z = (z ≡ null_key) ⊎ Entry entries z

-- the slot of a key
abbrev slot_of : ℤ → ℕ
slot_of z = nat_abs (z +ℤ pos 2147483648)

-- ---- a key that is null's or names an entry
named-slot : (entries : ℕ) (z : ℤ) → Named entries z → slot_of z ≤ entries
named-slot entries z (inl e) = omega (arith, ap slot_of e ∙ null-slot)
named-slot entries z (inr e) = omega (arith, ap slot_of e.named ∙ entry-slot e.index, e.known)

-- ---- and any that is no less than null's
abbrev Least : ℤ → Type 0
Least (pos n) = Unit
Least (negsuc n) = n < 2147483648

key-least : (u : ℕ) → Least (to_z w32 u)
key-least u = go (ltb u 2147483648) refl
  where
    go : (t : Bool) → ltb u 2147483648 ≡ t → Least (sel t (pos u) (negsuc (4294967296 - suc u)))
    go true e = tt
    go false e = omega (arith, ltb-false u 2147483648 e)

entry-above : (n : ℕ) → pos n ≡ entry_key (n + 2147483647)
unfolding entry_key
entry-above n =
    let m : n + 2147483647 - 2147483647 ≡ n = omega arith in
    sym (simp (le-ltb (n + 2147483647) 2147483647 (omega arith), m))

entry-below : (n : ℕ) → n < 2147483647 → negsuc n ≡ entry_key (2147483646 - n)
unfolding entry_key
entry-below n h =
    let m : 2147483647 - suc (2147483646 - n) ≡ n = omega arith in
    sym (simp (lt-ltb (2147483646 - n) 2147483647 (omega arith), m))

slot-below : (n : ℕ) → n < 2147483648 → slot_of (negsuc n) ≡ 2147483648 - suc n
slot-below n h = ap (λ (t : Bool). nat_abs (cond t (negsuc (suc n - suc 2147483648)) (pos (2147483648 - suc n)))) (le-ltb 2147483648 (suc n) (omega arith))

slot-named : (entries : ℕ) (z : ℤ) → Least z → slot_of z ≤ entries → Named entries z
slot-named entries (pos n) l h = inr (record { index = n + 2147483647; known = omega arith; named = entry-above n })
slot-named entries (negsuc n) l h = go (eqb n 2147483647) refl
  where
    go : (t : Bool) → eqb n 2147483647 ≡ t → Named entries (negsuc n)
    go true e = unfold null_key in inl (ap negsuc (eqb-true n 2147483647 e))
    go false e =
        let m : n < 2147483647 = omega (arith, eqb-false n 2147483647 e) in
        inr (record { index = 2147483646 - n; known = omega (arith, slot-below n l); named = entry-below n m })

-- ---- the keys of a block
module _ (entries n : ℕ) (keys : List ℕ) where
  abbrev EachNamed : Type 0
  EachNamed = (i : ℕ) → i < n → Named entries (fixed_at I32 keys i)

  pub keys-known : EachNamed → known entries keys (places n 0) ≡ true
  unfolding slot_at plain_row int_in
  keys-known h = known-all entries keys n 0 (λ i l. rw zero-add (named-slot entries (fixed_at I32 keys i) (h i l)))

  pub known-keys : known entries keys (places n 0) ≡ true → EachNamed
  unfolding slot_at plain_row int_in fixed_at
  known-keys h i l =
      let s : slot_at keys i ≤ entries = rw zero-add at (known_at entries keys n 0 i h l) in
      slot-named entries (fixed_at I32 keys i) (key-least (number (take 4 (drop (i * 4) keys)))) s
