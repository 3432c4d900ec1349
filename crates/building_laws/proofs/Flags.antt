-- The bits of the flag bytes: a flag that is stored, those before it, and the bitmap of them. Assumes nothing.
use Prim.Native.Nat.{ℕ, zero, suc, ◌+◌, ◌-◌, ◌*◌, ◌/◌, ◌%◌, ◌^◌, ◌≤◌, ◌<◌, min}
use native.Mathlib.Nat.{zero-add, mul_comm, mul_assoc, add-mul, pow-suc, one-le-pow, mod-one, mod-lt, div-div-eq-div-mul}
use native.Mathlib.Numerals.{add-one}
use native.Mathlib.Omega.{arith}
use mathlib.Core.Bool.{Bool, true, false, cond}
use mathlib.Core.List.{List, [], ◌∷◌, ◌++◌, map, map-append}
use mathlib.Core.Path.{◌≡◌, refl, sym, ap, ◌∙◌}
use lib.Arith.{mod-mul, digits_div, digits_mod}
use lib.Dec.{eqb, lit<}
use lib.ListN.{length, take, drop, get_or, set, length-map, length-take, length-drop}
use lib.Seq.{get_or-set_same, get_or-set_other, get_or-take, get_or-drop}
use borrow.Author.Tests.{eqb-true, eqb-false, ne_eqb}
use Rattle.plain.specs.Rows.{Row}
use Rattle.plain.specs.Plain.{places}
use Rattle.plain.proofs.Places.{over_add, over-same, get_d_over}
use Rattle.nullable.specs.Nullable.{bitmap_length, presence, byte_of, bitmap_byte, bitmap_of, bit_at}
use Rattle.nullable.proofs.Bits.{presence-small}
use Rattle.slots.specs.Slots.{with_bit, flags_with}
use Rattle.emit.specs.Parts.{held_byte, held_bitmap}
use Rattle.building_laws.proofs.Lists.{length-snoc}

-- ---- the bits of a number
pow-some : (s : ℕ) → 0 < 2 ^ s
pow-some s = one-le-pow s 2 (lit< tt)

-- a number's lowest bit, and the others
mod-more : (n s : ℕ) → n % 2 ^ suc s ≡ (n / 2 % 2 ^ s) * 2 + n % 2
mod-more n s = ap (λ (m : ℕ). n % m) (pow-suc 2 s) ∙ mod-mul n (pow-some s) (lit< tt)

div-more : (n t : ℕ) → n / 2 ^ suc t ≡ n / 2 / 2 ^ t
div-more n t = rw (pow-suc 2 t, mul_comm (2 ^ t) 2) (sym (div-div-eq-div-mul n 2 (2 ^ t)))

-- a bit below the s-th is one of the number's lowest s
low_bit : (s t n : ℕ) → t < s → n % 2 ^ s / 2 ^ t % 2 ≡ n / 2 ^ t % 2
low_bit zero t n h = absurd (omega arith)
low_bit (suc s) zero n h = let e = mod-more n s in omega arith
low_bit (suc s) (suc t) n h =
    let e = mod-more n s in
    let d : n % 2 ^ suc s / 2 ≡ n / 2 % 2 ^ s = omega arith in
    rw (div-more (n % 2 ^ suc s) t, d, div-more n t) (low_bit s t (n / 2) (omega arith))

module _ (byte s bit : ℕ) where
  -- the bits above, the bit itself, the bits below
  split : with_bit byte s bit ≡ (byte / 2 ^ suc s * 2 + bit) * 2 ^ s + byte % 2 ^ s
  unfolding with_bit
  split =
      let q : ℕ = byte / 2 ^ suc s in
      let e : q * 2 ^ suc s ≡ q * 2 * 2 ^ s = ap (λ (m : ℕ). q * m) (pow-suc 2 s ∙ mul_comm (2 ^ s) 2) ∙ sym (mul_assoc q 2 (2 ^ s)) in
      let d : (q * 2 + bit) * 2 ^ s ≡ q * 2 * 2 ^ s + bit * 2 ^ s = add-mul (q * 2) bit (2 ^ s) in
      rw add-one (ap (λ (m : ℕ). m + bit * 2 ^ s + byte % 2 ^ s) e ∙ ap (λ (m : ℕ). m + byte % 2 ^ s) (sym d))

  below : byte % 2 ^ s < 2 ^ s
  below = mod-lt byte (pow-some s)

  own-bit : bit < 2 → with_bit byte s bit / 2 ^ s % 2 ≡ bit
  own-bit h =
      let q : ℕ = byte / 2 ^ suc s in
      ap (λ (m : ℕ). m / 2 ^ s % 2) split ∙ ap (λ (m : ℕ). m % 2) (digits_div (q * 2 + bit) below) ∙ omega arith

  other-bit : (t : ℕ) → t < s → with_bit byte s bit / 2 ^ t % 2 ≡ byte / 2 ^ t % 2
  other-bit t h =
      let q : ℕ = byte / 2 ^ suc s in
      let e : with_bit byte s bit % 2 ^ s ≡ byte % 2 ^ s = ap (λ (m : ℕ). m % 2 ^ s) split ∙ digits_mod (q * 2 + bit) below in
      sym (low_bit s t (with_bit byte s bit) h) ∙ ap (λ (m : ℕ). m / 2 ^ t % 2) e ∙ low_bit s t byte h

-- ---- the flags with one stored
module _ (flags : List ℕ) (i bit : ℕ) (room : i / 8 < length flags) where
  pub bit-stored : bit < 2 → bit_at (flags_with i bit flags) i ≡ bit
  unfolding bit_at flags_with
  bit-stored h =
      let b : ℕ = cond (eqb (i % 8) 0) 0 (get_or flags (i / 8) 0) in
      rw (get_or-set_same flags (i / 8) (with_bit b (i % 8) bit) 0 room) (own-bit b (i % 8) bit h)

  pub bit_kept : (j : ℕ) → j < i → bit_at (flags_with i bit flags) j ≡ bit_at flags j
  unfolding bit_at flags_with
  bit_kept j h = go (eqb (j / 8) (i / 8)) refl
    where
      b : ℕ
      b = cond (eqb (i % 8) 0) 0 (get_or flags (i / 8) 0)

      go : (t : Bool) → eqb (j / 8) (i / 8) ≡ t → get_or (set flags (i / 8) (with_bit b (i % 8) bit)) (j / 8) 0 / 2 ^ (j % 8) % 2 ≡ get_or flags (j / 8) 0 / 2 ^ (j % 8) % 2
      go true e =
          let q : j / 8 ≡ i / 8 = eqb-true (j / 8) (i / 8) e in
          let l : j % 8 < i % 8 = omega arith in
          let z : eqb (i % 8) 0 ≡ false = ne_eqb (i % 8) 0 (λ (y : i % 8 ≡ 0). omega arith) in
          let c : b ≡ get_or flags (i / 8) 0 = ap (λ (t : Bool). cond t 0 (get_or flags (i / 8) 0)) z in
          rw (q, get_or-set_same flags (i / 8) (with_bit b (i % 8) bit) 0 room)
          (other-bit b (i % 8) bit (j % 8) l ∙ ap (λ (m : ℕ). m / 2 ^ (j % 8) % 2) c)
      go false e = ap (λ (m : ℕ). m / 2 ^ (j % 8) % 2) (get_or-set_other flags (i / 8) (j / 8) (with_bit b (i % 8) bit) 0 (eqb-false (j / 8) (i / 8) e))

-- the first flags are those of the stored items
pub flag-slots : (item : Bool) (x : Row) (s s' : List Row) (n : ℕ) (flags : List ℕ) → s' ≡ cond item (s ++ (x ∷ [])) s → n ≡ length s
    → bitmap_length (length s') ≤ length flags → map (bit_at flags) (places (length s) 0) ≡ map presence s
    → map (bit_at (cond item (flags_with n (presence x) flags) flags)) (places (length s') 0) ≡ map presence s'
unfolding bitmap_length places
flag-slots true x s s' n flags g e h q =
    let l : length s' ≡ length s + 1 = ap length g ∙ length-snoc s x in
    let r : n / 8 < length flags = omega arith in
    let new : List ℕ = flags_with n (presence x) flags in
    let a : map (bit_at new) (places (length s) 0) ≡ map (bit_at flags) (places (length s) 0)
    = over-same (bit_at new) (bit_at flags) (length s) 0 (λ k u v. bit_kept flags n (presence x) r k (omega arith)) in
    let b : bit_at new (0 + length s) ≡ presence x = rw (zero-add, ← e) (bit-stored flags n (presence x) r (presence-small x)) in
    rw (l, over_add (bit_at new) (length s) 1 0, a, b, q, g) (sym (map-append presence s (x ∷ [])))
flag-slots false x s s' n flags g e h q = rw g q

-- ---- the byte of some bits
byte-told : (bits : List ℕ) (b : ℕ) → ((j : ℕ) → j < length bits → b / 2 ^ j % 2 ≡ get_or bits j 0) → b % 2 ^ length bits ≡ byte_of bits
unfolding byte_of
byte-told [] b h = mod-one b
byte-told (c ∷ bits) b h =
    let z : b / 2 ^ 0 % 2 ≡ c = h 0 (omega arith) in
    let t : b / 2 % 2 ^ length bits ≡ byte_of bits = byte-told bits (b / 2) (λ j l. ap (λ (m : ℕ). m % 2) (sym (div-more b j)) ∙ h (suc j) (omega arith)) in
    let m = mod-more b (length bits) in
    omega arith

at-bit : (flags : List ℕ) (i k j : ℕ) → i / 8 ≡ k → i % 8 ≡ j → bit_at flags i ≡ get_or flags k 0 / 2 ^ j % 2
unfolding bit_at
at-bit flags i k j d m = rw (d, m)

pub bitmap-told : (s : List Row) (n : ℕ) (flags : List ℕ) → n ≡ length s → map (bit_at flags) (places (length s) 0) ≡ map presence s → held_bitmap n flags ≡ bitmap_of s
unfolding held_bitmap bitmap_of held_byte bitmap_byte
bitmap-told s n flags e q = rw e (over-same (held_byte (length s) flags) (bitmap_byte s) (bitmap_length (length s)) 0 each)
  where
    each : (k : ℕ) → 0 ≤ k → k < 0 + bitmap_length (length s) → held_byte (length s) flags k ≡ bitmap_byte s k
    each k a c =
        let bits : List ℕ = take 8 (drop (8 * k) (map presence s)) in
        let l : length bits ≡ min 8 (length s - 8 * k) = rw (length-take, length-drop, length-map) in
        ap (λ (m : ℕ). get_or flags k 0 % 2 ^ m) (sym l) ∙ byte-told bits (get_or flags k 0) (bit l)
      where
        bit : length (take 8 (drop (8 * k) (map presence s))) ≡ min 8 (length s - 8 * k) → (j : ℕ) → j < length (take 8 (drop (8 * k) (map presence s)))
            → get_or flags k 0 / 2 ^ j % 2 ≡ get_or (take 8 (drop (8 * k) (map presence s))) j 0
        bit l j h =
            let u : 8 * k + j < length s = omega arith in
            let d : (8 * k + j) / 8 ≡ k = omega arith in
            let m : (8 * k + j) % 8 ≡ j = omega arith in
            let w : bit_at flags (8 * k + j) ≡ get_or flags k 0 / 2 ^ j % 2 = at-bit flags (8 * k + j) k j d m in
            sym w
            ∙ ap (bit_at flags) (sym (zero-add (8 * k + j)))
            ∙ sym (get_d_over (bit_at flags) (length s) 0 (8 * k + j) 0 u)
            ∙ ap (λ (x : List ℕ). get_or x (8 * k + j) 0) q
            ∙ sym (get_or-drop (8 * k) (map presence s) j 0)
            ∙ sym (get_or-take 8 (drop (8 * k) (map presence s)) j 0 (omega arith))
