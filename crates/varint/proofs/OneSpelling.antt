-- A number has one spelling: the bytes that read as a number are those that are written for it, and so none is longer than needed. Assumes nothing.
use Rattle.std.specs.Prelude.{Option, Some, None}
use Prim.Native.Nat.{ℕ, zero, suc, ◌+◌, ◌-◌, ◌*◌, ◌/◌, ◌%◌, ◌^◌, ◌≤◌, ◌<◌}
use native.Mathlib.Numerals.{add-one}
use native.Mathlib.Omega.{arith}
use mathlib.Core.Bool.{Bool, true, false, cond}
use mathlib.Core.List.{List, [], ◌∷◌}
use mathlib.Core.Path.{◌≡◌, refl, sym, subst}
use lib.Dec.{ltb}
use lib.ListN.{length, get_or, take, length-take}
use borrow.Author.Tests.{ltb-true, ltb-false}
use Rattle.varint.specs.declared.Count.{Count}
use Rattle.varint.specs.Varint.{counted, more, count_within, in_32_bits, count_of, spell_within, spelling}
use Rattle.varint.proofs.Spelling.{spell_last, spell-more}
use Rattle.varint.proofs.Within.{more-cases}

abbrev pub Bytes : List ℕ → Type 0
Bytes s = (i : ℕ) → get_or s i 0 < 256

-- of a number: its spelling is what it was read from; of none nothing is said
abbrev Spells : ℕ → List ℕ → Option Count → Type 0
Spells k s (Some c) = take c.len s ≡ spell_within k c.value
Spells k s None = Unit

-- a byte that says that the number goes on, before bytes that are a spelling of a number above 0
on-spells : (k b : ℕ) (s : List ℕ) (r : Option Count) → 128 ≤ b → b < 256 → Spells k s r → Spells (suc k) (b ∷ s) (more (b - 128) r)
on-spells k b s (Some c) high byte h = more-cases (Spells (suc k) (b ∷ s)) (b - 128) c.value c.len tt spelled
  where
    spelled : 0 < c.value → take (c.len + 1) (b ∷ s) ≡ spell_within (suc k) (b - 128 + 128 * c.value)
    spelled some =
        let more-than-one : 128 ≤ b - 128 + 128 * c.value = omega arith in
        let first : 128 + (b - 128 + 128 * c.value) % 128 ≡ b = omega arith in
        let others : (b - 128 + 128 * c.value) / 128 ≡ c.value = omega arith in
        rw (add-one, spell-more k _ more-than-one, first, others, h)
on-spells k b s None high byte h = unfold more in tt

within-spells : (k : ℕ) (s : List ℕ) → Bytes s → Spells k s (count_within k s)
unfolding count_within
within-spells zero s h = tt
within-spells (suc k) [] h = tt
within-spells (suc k) (b ∷ s) h = go (within-spells k s (λ i. h (suc i))) (ltb b 128) refl
  where
    go : Spells k s (count_within k s) → (t : Bool) → ltb b 128 ≡ t → Spells (suc k) (b ∷ s) (cond t (counted b 1) (more (b - 128) (count_within k s)))
    go behind true e = rw (spell_last k b (ltb-true b 128 e))
    go behind false e = on-spells k b s (count_within k s) (ltb-false b 128 e) (h 0) behind

in32-spells : (k : ℕ) (s : List ℕ) (r : Option Count) → Spells k s r → Spells k s (in_32_bits r)
unfolding in_32_bits
in32-spells k s (Some c) h = go (ltb c.value (2 ^ 32))
  where
    go : (t : Bool) → Spells k s (cond t (Some c) None)
    go true = h
    go false = tt
in32-spells k s None h = tt

-- Bytes that read as a number are its spelling.
pub one-spelling : (s : List ℕ) (v n : ℕ) → Bytes s → counted v n ≡ count_of s → take n s ≡ spelling v
unfolding count_of spelling
one-spelling s v n h e = subst (λ (r : Option Count). Spells 5 s r) (sym e) (in32-spells 5 s (count_within 5 s) (within-spells 5 s h))

-- So no fewer bytes read as it.
pub shortest : (s : List ℕ) (v n : ℕ) → Bytes s → counted v n ≡ count_of s → length (spelling v) ≤ n
shortest s v n h e = rw (← one-spelling s v n h e, length-take) (omega arith)
