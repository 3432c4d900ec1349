-- What `decode_u32` finds, by the bytes that it looked at: one law for each of its returns. Assumes nothing.
use Rattle.std.specs.Prelude.{None}
use Prim.Native.Nat.{ℕ, zero, suc, ◌+◌, ◌-◌, ◌*◌, ◌^◌, ◌≤◌, ◌<◌}
use native.Mathlib.Nat.{add-zero, add-suc}
use native.Mathlib.Omega.{arith}
use mathlib.Core.Logic.{⊎_elim}
use mathlib.Core.Path.{◌≡◌, refl, ◌∙◌}
use mathlib.Core.List.{List, []}
use lib.ListN.{length, get_or, drop, drop_of_length-le}
use lib.Seq.{drop-cons}
use borrow.Author.Tests.{lt-ltb, le-ltb, ne_eqb}
use Rattle.varint.specs.Varint.{counted, more, count_within, in_32_bits, count_of, count_at}
use Rattle.area.proofs.Laws.{lt-or-ge}

count-nil : (k : ℕ) → count_within k [] ≡ None
unfolding count_within
count-nil zero = refl
count-nil (suc k) = refl

-- j is the number of bytes passed, each of which says that the number goes on
module _ (s : List ℕ) (at : ℕ) where
  abbrev pub byte : ℕ → ℕ
  byte j = get_or s (at + j) 0

  abbrev pub On : ℕ → Type 0
  On j = (at + j < length s) × (128 ≤ byte j)

  abbrev pub Last : ℕ → Type 0
  Last j = (at + j < length s) × (byte j < 128)

  -- at the first byte the code has `at`, and not `at + 0`
  abbrev pub On₀ : Type 0
  On₀ = (at < length s) × (128 ≤ get_or s at 0)

  abbrev pub Last₀ : Type 0
  Last₀ = (at < length s) × (get_or s at 0 < 128)

  -- ---- one byte
  on : (j k : ℕ) → On j → count_within (suc k) (drop (at + j) s) ≡ more (byte j - 128) (count_within k (drop (at + suc j) s))
  unfolding count_within
  on j k h = rw (add-suc, drop-cons s (at + j) 0 h.0) (simp (le-ltb _ _ h.1))

  end : (j k : ℕ) → Last j → count_within (suc k) (drop (at + j) s) ≡ counted (byte j) 1
  unfolding count_within
  end j k h = rw (drop-cons s (at + j) 0 h.0) (simp (lt-ltb _ _ h.1))

  cut : (j k : ℕ) → length s ≤ at + j → count_within k (drop (at + j) s) ≡ None
  cut j k h = rw (drop_of_length-le s {i = at + j} h) (count-nil k)

  none : (j : ℕ) → count_within 0 (drop (at + j) s) ≡ None
  unfolding count_within
  none j = refl

  -- ---- a byte in front of what is worth something, of what is worth nothing, and of no number
  front : (low v n : ℕ) → 0 < v → more low (counted v n) ≡ counted (low + 128 * v) (n + 1)
  unfolding more
  front low v n h = simp (ne_eqb v 0 (λ (z : v ≡ 0). omega arith))

  front-none : (low n : ℕ) → more low (counted 0 n) ≡ None
  unfolding more
  front-none low n = refl

  front-bad : (low : ℕ) → more low None ≡ None
  unfolding more
  front-bad low = refl

  -- and it is worth something itself then
  worth : (low v : ℕ) → 0 < v → 0 < low + 128 * v
  worth low v h = omega arith

  -- ---- the bytes passed
  start : count_within 5 (drop at s) ≡ count_within 5 (drop (at + 0) s)
  start = rw add-zero

  on1 : On₀ → count_within 5 (drop at s) ≡ more (get_or s at 0 - 128) (count_within 4 (drop (at + 1) s))
  on1 a = start ∙ on 0 4 (rw add-zero a) ∙ rw add-zero

  on2 : On₀ → On 1 → count_within 5 (drop at s) ≡ more (get_or s at 0 - 128) (more (byte 1 - 128) (count_within 3 (drop (at + 2) s)))
  on2 a b = on1 a ∙ rw (on 1 3 b)

  on3 : On₀ → On 1 → On 2
      → count_within 5 (drop at s) ≡ more (get_or s at 0 - 128) (more (byte 1 - 128) (more (byte 2 - 128) (count_within 2 (drop (at + 3) s))))
  on3 a b d = on2 a b ∙ rw (on 2 2 d)

  on4 : On₀ → On 1 → On 2 → On 3
      → count_within 5 (drop at s) ≡
      more (get_or s at 0 - 128) (more (byte 1 - 128) (more (byte 2 - 128) (more (byte 3 - 128) (count_within 1 (drop (at + 4) s)))))
  on4 a b d e = on3 a b d ∙ rw (on 3 1 e)

  -- ---- a number that came out, and fits; one that doesn't; and none
  done : (v w n : ℕ) → count_within 5 (drop at s) ≡ counted w n → v ≡ w → v < 2 ^ 32 → counted v n ≡ count_at s at
  unfolding count_at count_of in_32_bits
  done v w n e p h = rw (e, ← p) (simp (lt-ltb _ _ h))

  large : (w n : ℕ) → count_within 5 (drop at s) ≡ counted w n → 2 ^ 32 ≤ w → None ≡ count_at s at
  unfolding count_at count_of in_32_bits
  large w n e h = rw e (simp (le-ltb _ _ h))

  bad : count_within 5 (drop at s) ≡ None → None ≡ count_at s at
  unfolding count_at count_of in_32_bits
  bad e = rw e

  -- ---- the returns of a number
  pub one : (v : ℕ) → Last₀ → v ≡ get_or s at 0 → counted v 1 ≡ count_at s at
  one v l p = done v _ _ (start ∙ end 0 4 (rw add-zero l) ∙ rw add-zero) p (omega arith)

  -- each last byte behind another is above 0
  pub two : (v : ℕ) → On₀ → Last 1 → 0 < byte 1 → v ≡ get_or s at 0 - 128 + 128 * byte 1 → v < 2 ^ 32 → counted v 2 ≡ count_at s at
  two v a l z p h = done v _ _ (on1 a ∙ rw (end 1 3 l, front _ _ _ z)) p h

  pub three : (v : ℕ) → On₀ → On 1 → Last 2 → 0 < byte 2
      → v ≡ get_or s at 0 - 128 + 128 * (byte 1 - 128 + 128 * byte 2) → v < 2 ^ 32 → counted v 3 ≡ count_at s at
  three v a b l z p h = done v _ _ (on2 a b ∙ rw (end 2 2 l, front _ _ _ z, front _ _ _ (worth _ _ z))) p h

  pub four : (v : ℕ) → On₀ → On 1 → On 2 → Last 3 → 0 < byte 3
      → v ≡ get_or s at 0 - 128 + 128 * (byte 1 - 128 + 128 * (byte 2 - 128 + 128 * byte 3)) → v < 2 ^ 32 → counted v 4 ≡ count_at s at
  four v a b d l z p h =
      let z₂ = worth (byte 2 - 128) _ z in
      done v _ _ (on3 a b d ∙ rw (end 3 1 l, front _ _ _ z, front _ _ _ z₂, front _ _ _ (worth _ _ z₂))) p h

  abbrev five-bytes : ℕ
  five-bytes = get_or s at 0 - 128 + 128 * (byte 1 - 128 + 128 * (byte 2 - 128 + 128 * (byte 3 - 128 + 128 * byte 4)))

  -- the four top bits together are 270549120; as a sum, since `omega` doesn't follow so many subtractions
  all-five : On₀ → On 1 → On 2 → On 3 → Last 4 → 0 < byte 4 → count_within 5 (drop at s) ≡ counted five-bytes 5
  all-five a b d e l z =
      let z₃ = worth (byte 3 - 128) _ z in
      let z₂ = worth (byte 2 - 128) _ z₃ in
      on4 a b d e ∙ rw (end 4 0 l, front _ _ _ z, front _ _ _ z₃, front _ _ _ z₂, front _ _ _ (worth _ _ z₂))

  pub five : (v : ℕ) → On₀ → On 1 → On 2 → On 3 → Last 4 → 0 < byte 4
      → v + 270549120 ≡ get_or s at 0 + 128 * (byte 1 + 128 * (byte 2 + 128 * (byte 3 + 128 * byte 4))) → v < 2 ^ 32 → counted v 5 ≡ count_at s at
  five v a b d e l z p h = done v five-bytes _ (all-five a b d e l z) (omega arith) h

  -- ---- the returns of no number
  pub cut0 : length s ≤ at → None ≡ count_at s at
  cut0 h = bad (start ∙ cut 0 5 (omega arith))

  pub cut1 : On₀ → length s ≤ at + 1 → None ≡ count_at s at
  unfolding more
  cut1 a h = bad (on1 a ∙ rw (cut 1 4 h))

  pub cut2 : On₀ → On 1 → length s ≤ at + 2 → None ≡ count_at s at
  unfolding more
  cut2 a b h = bad (on2 a b ∙ rw (cut 2 3 h))

  pub cut3 : On₀ → On 1 → On 2 → length s ≤ at + 3 → None ≡ count_at s at
  unfolding more
  cut3 a b d h = bad (on3 a b d ∙ rw (cut 3 2 h))

  pub cut4 : On₀ → On 1 → On 2 → On 3 → length s ≤ at + 4 → None ≡ count_at s at
  unfolding more
  cut4 a b d e h = bad (on4 a b d e ∙ rw (cut 4 1 h))

  -- a last byte of 0 behind others
  pub long1 : On₀ → at + 1 < length s → byte 1 < 1 → None ≡ count_at s at
  long1 a l h = let z : byte 1 ≡ 0 = omega arith in bad (on1 a ∙ rw (end 1 3 (l, omega arith), z, front-none))

  pub long2 : On₀ → On 1 → at + 2 < length s → byte 2 < 1 → None ≡ count_at s at
  long2 a b l h = let z : byte 2 ≡ 0 = omega arith in bad (on2 a b ∙ rw (end 2 2 (l, omega arith), z, front-none, front-bad))

  pub long3 : On₀ → On 1 → On 2 → at + 3 < length s → byte 3 < 1 → None ≡ count_at s at
  long3 a b d l h = let z : byte 3 ≡ 0 = omega arith in bad (on3 a b d ∙ rw (end 3 1 (l, omega arith), z, front-none, front-bad, front-bad))

  pub long4 : On₀ → On 1 → On 2 → On 3 → at + 4 < length s → byte 4 < 1 → None ≡ count_at s at
  long4 a b d e l h =
      let z : byte 4 ≡ 0 = omega arith in
      bad (on4 a b d e ∙ rw (end 4 0 (l, omega arith), z, front-none, front-bad, front-bad, front-bad))

  -- a fifth byte above 15 ends a number that is too large, or ends none
  pub high : On₀ → On 1 → On 2 → On 3 → at + 4 < length s → 15 < byte 4 → None ≡ count_at s at
  unfolding more
  high a b d e l h = ⊎_elim
      (λ (m : byte 4 < 128). large five-bytes 5 (all-five a b d e (l, m) (omega arith)) (omega arith))
      (λ (m : 128 ≤ byte 4). bad (on4 a b d e ∙ rw (on 4 0 (l, m), none 5)))
      (lt-or-ge (byte 4) 128)
