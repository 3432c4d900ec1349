-- A bit that is 0 is set by adding its worth: the byte stays a byte, the bit is 1 and every other bit is as it was. One that is 1 is set already.
-- Assumes nothing.
use Prim.Native.Nat.{ℕ, zero, suc, ◌+◌, ◌*◌, ◌/◌, ◌%◌, ◌^◌, ◌<◌}
use native.Mathlib.Nat.{one-mul, zero-div, mod-eq_of_lt, pow-succ', div-div-eq-div-mul}
use native.Mathlib.Omega.{arith}
use mathlib.Core.Path.{◌≡◌, refl, sym, ap, ◌∙◌}
use mathlib.Core.Bool.{Bool, true, false, cond, not}
use mathlib.Core.List.{List}
use borrow.Author.Tests.{eqb-true, eqb-false, eq-eqb, ne_eqb}
use lib.Dec.{eqb, eqb-zero-suc, eqb-suc-zero, eqb-suc-suc}
use lib.ListN.{length, get_or, set}
use lib.Seq.{get_or-set_same, get_or-set_other}
use Rattle.nullable.specs.Nullable.{bit_at}

-- ---- a byte
-- bit s + 1 is bit s of the half
halved : (byte s : ℕ) → byte / 2 ^ suc s ≡ byte / 2 / 2 ^ s
halved byte s = ap (λ (m : ℕ). byte / m) (pow-succ' 2 s) ∙ sym (div-div-eq-div-mul byte 2 (2 ^ s))

bit-set : (byte s t : ℕ) → byte / 2 ^ s % 2 ≡ 0 → (byte + 2 ^ s) / 2 ^ t % 2 ≡ cond (eqb s t) 1 (byte / 2 ^ t % 2)
bit-set byte zero zero h = omega arith
bit-set byte zero (suc t) h =
    let e : (byte + 1) / 2 ≡ byte / 2 = omega arith in
    rw (halved (byte + 1) t, halved byte t, e, eqb-zero-suc t)
bit-set byte (suc s) zero h =
    let e : 2 ^ suc s ≡ 2 * 2 ^ s = pow-succ' 2 s in
    rw (eqb-suc-zero s) (omega arith)
bit-set byte (suc s) (suc t) h =
    let e : (byte + 2 ^ suc s) / 2 ≡ byte / 2 + 2 ^ s = rw (pow-succ' 2 s) (omega arith) in
    rw (halved (byte + 2 ^ suc s) t, e, halved byte t, eqb-suc-suc s t) (bit-set (byte / 2) s t (sym (ap (λ (q : ℕ). q % 2) (halved byte s)) ∙ h))

-- nothing is carried
room : (n byte s : ℕ) → s < n → byte < 2 ^ n → byte / 2 ^ s % 2 ≡ 0 → byte + 2 ^ s < 2 ^ n
room zero byte s l b h = absurd (omega arith)
room (suc n) byte zero l b h = let e : 2 ^ suc n ≡ 2 * 2 ^ n = pow-succ' 2 n in omega arith
room (suc n) byte (suc s) l b h =
    let e : 2 ^ suc n ≡ 2 * 2 ^ n = pow-succ' 2 n in
    let d : 2 ^ suc s ≡ 2 * 2 ^ s = pow-succ' 2 s in
    let r : byte / 2 + 2 ^ s < 2 ^ n = room n (byte / 2) s (omega arith) (omega arith) (sym (ap (λ (q : ℕ). q % 2) (halved byte s)) ∙ h) in
    omega arith

-- `1u8 << s` loses nothing
worth : (s : ℕ) → s < 8 → 1 * 2 ^ s % 256 ≡ 2 ^ s
worth s h =
    let r : 0 + 2 ^ s < 256 = room 8 0 s h (omega arith) (rw zero-div) in
    rw one-mul (mod-eq_of_lt (omega arith))

-- ---- a bitmap
-- what a test of a bit says
pub is_one : {b : ℕ} → b ≡ 1 → false ≡ not (eqb b 1)
is_one {b} h = sym (ap not (eq-eqb b 1 h))

pub is_none : {b : ℕ} → (b ≡ 1 → ⊥) → true ≡ not (eqb b 1)
is_none {b} h = sym (ap not (ne_eqb b 1 h))

-- a bit that is 1 is as if set
pub as-set : (bits : List ℕ) (i : ℕ) → bit_at bits i ≡ 1 → (j : ℕ) → bit_at bits j ≡ cond (eqb i j) 1 (bit_at bits j)
as-set bits i h j = go (eqb i j) refl
  where
    go : (t : Bool) → eqb i j ≡ t → bit_at bits j ≡ cond t 1 (bit_at bits j)
    go true q = ap (bit_at bits) (sym (eqb-true i j q)) ∙ h
    go false q = refl

-- two bits of one byte
same_byte : (i j : ℕ) → i / 8 ≡ j / 8 → eqb (i % 8) (j % 8) ≡ eqb i j
same_byte i j k = go (eqb i j) refl
  where
    go : (t : Bool) → eqb i j ≡ t → eqb (i % 8) (j % 8) ≡ t
    go true h = eq-eqb (i % 8) (j % 8) (ap (λ (x : ℕ). x % 8) (eqb-true i j h))
    go false h = ne_eqb (i % 8) (j % 8) (λ e. eqb-false i j h (omega arith))

module _ (bits : List ℕ) (i : ℕ) (inside : i < 8 * length bits) (clear : bit_at bits i ≡ 0) where
  in-byte : (j : ℕ) → i / 8 ≡ j / 8 → bit_at (set bits (i / 8) (get_or bits (i / 8) 0 + 2 ^ (i % 8))) j ≡ cond (eqb i j) 1 (bit_at bits j)
  unfolding bit_at
  in-byte j k =
      let byte : ℕ = get_or bits (i / 8) 0 in
      rw (← k, get_or-set_same bits (i / 8) (byte + 2 ^ (i % 8)) 0 (omega arith), ← same_byte i j k) (bit-set byte (i % 8) (j % 8) clear)

  elsewhere : (j : ℕ) → (i / 8 ≡ j / 8 → ⊥) → bit_at (set bits (i / 8) (get_or bits (i / 8) 0 + 2 ^ (i % 8))) j ≡ cond (eqb i j) 1 (bit_at bits j)
  unfolding bit_at
  elsewhere j k =
      let byte : ℕ = get_or bits (i / 8) 0 in
      rw (get_or-set_other bits (i / 8) (j / 8) (byte + 2 ^ (i % 8)) 0 (λ e. k (sym e)), ne_eqb i j (λ e. k (ap (λ (x : ℕ). x / 8) e)))

  pub one_set : (j : ℕ) → bit_at (set bits (i / 8) (get_or bits (i / 8) 0 + 1 * 2 ^ (i % 8) % 256)) j ≡ cond (eqb i j) 1 (bit_at bits j)
  one_set j = rw (worth (i % 8) (omega arith)) (go (eqb (i / 8) (j / 8)) refl)
    where
      go : (t : Bool) → eqb (i / 8) (j / 8) ≡ t → bit_at (set bits (i / 8) (get_or bits (i / 8) 0 + 2 ^ (i % 8))) j ≡ cond (eqb i j) 1 (bit_at bits j)
      go true h = in-byte j (eqb-true (i / 8) (j / 8) h)
      go false h = elsewhere j (eqb-false (i / 8) (j / 8) h)

  pub stays-byte : get_or bits (i / 8) 0 < 256 → get_or bits (i / 8) 0 + 1 * 2 ^ (i % 8) % 256 < 256
  unfolding bit_at
  stays-byte b = rw (worth (i % 8) (omega arith)) (room 8 (get_or bits (i / 8) 0) (i % 8) (omega arith) b clear)
