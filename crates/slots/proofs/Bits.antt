-- A byte is the bits above bit s, that bit and the bits below it: what the byte is with that bit set, and with it cleared. Assumes nothing.
use Prim.Native.Nat.{ℕ, zero, suc, ◌+◌, ◌-◌, ◌*◌, ◌/◌, ◌%◌, ◌^◌, ◌≤◌, ◌<◌}
use native.Mathlib.Nat.{zero-mul}
use native.Mathlib.Omega.{arith}
use mathlib.Core.Bool.{Bool, true, false, cond}
use mathlib.Core.Path.{◌≡◌, refl}
use Rattle.slots.specs.Slots.{with_bit}

-- the eight places of a bit in a byte
record Around (byte s : ℕ) : Type 0 where
  pub whole : byte / 2 ^ (s + 1) * 2 ^ (s + 1) + byte / 2 ^ s % 2 * 2 ^ s + byte % 2 ^ s ≡ byte
  -- `1u8 << s` loses nothing
  pub worth : 1 * 2 ^ s % 256 ≡ 2 ^ s
  pub room : byte / 2 ^ s % 2 ≡ 0 → byte + 2 ^ s < 256

around : (s byte : ℕ) → s < 8 → byte < 256 → Around byte s
around zero byte h b = record { whole = omega arith; worth = refl; room = λ e. omega arith }
around (suc zero) byte h b = record { whole = omega arith; worth = refl; room = λ e. omega arith }
around (suc (suc zero)) byte h b = record { whole = omega arith; worth = refl; room = λ e. omega arith }
around (suc (suc (suc zero))) byte h b = record { whole = omega arith; worth = refl; room = λ e. omega arith }
around (suc (suc (suc (suc zero)))) byte h b = record { whole = omega arith; worth = refl; room = λ e. omega arith }
around (suc (suc (suc (suc (suc zero))))) byte h b = record { whole = omega arith; worth = refl; room = λ e. omega arith }
around (suc (suc (suc (suc (suc (suc zero)))))) byte h b = record { whole = omega arith; worth = refl; room = λ e. omega arith }
around (suc (suc (suc (suc (suc (suc (suc zero))))))) byte h b = record { whole = omega arith; worth = refl; room = λ e. omega arith }
around (suc (suc (suc (suc (suc (suc (suc (suc s)))))))) byte h b = absurd (omega arith)

module _ (byte s : ℕ) (h : s < 8) (b : byte < 256) where
  -- the byte with a bit, from the bit that is there
  bit-of : (bit there : ℕ) → byte / 2 ^ s % 2 ≡ there → with_bit byte s bit + there * 2 ^ s ≡ byte + bit * 2 ^ s
  unfolding with_bit
  bit-of bit there e = let w = rw e at (around s byte h b).whole in omega arith

  pub set_there : {bit : Bool} → bit ≡ true → byte / 2 ^ s % 2 ≡ 1 → byte ≡ with_bit byte s (cond bit 1 0)
  set_there t e = let w = bit-of 1 1 e in rw t (omega arith)

  pub clear_none : {bit : Bool} → bit ≡ false → (byte / 2 ^ s % 2 ≡ 1 → ⊥) → byte ≡ with_bit byte s (cond bit 1 0)
  clear_none t n = let w = rw zero-mul at (bit-of 0 0 (omega arith)) in rw t (omega arith)

  pub worth-there : byte / 2 ^ s % 2 ≡ 1 → 1 * 2 ^ s % 256 ≤ byte
  worth-there e = let w = rw e at (around s byte h b).whole in rw (around s byte h b).worth (omega arith)

  pub cleared : {bit : Bool} → bit ≡ false → byte / 2 ^ s % 2 ≡ 1 → byte - 1 * 2 ^ s % 256 ≡ with_bit byte s (cond bit 1 0)
  cleared t e = let w = bit-of 0 1 e in rw (t, (around s byte h b).worth) (omega arith)

  pub worth-fits : (byte / 2 ^ s % 2 ≡ 1 → ⊥) → byte + 1 * 2 ^ s % 256 < 256
  worth-fits n = let w = (around s byte h b).room (omega arith) in rw (around s byte h b).worth w

  pub set_new : {bit : Bool} → bit ≡ true → (byte / 2 ^ s % 2 ≡ 1 → ⊥) → byte + 1 * 2 ^ s % 256 ≡ with_bit byte s (cond bit 1 0)
  set_new t n = let w = bit-of 1 0 (omega arith) in rw (t, (around s byte h b).worth) (omega arith)
