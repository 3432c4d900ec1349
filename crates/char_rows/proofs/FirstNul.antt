-- The loop that looks for the first NUL of an item with no early end: the nearest one so far. Assumes nothing.
use mathlib.Core.Path.{◌≡◌, refl, ◌∙◌}
use mathlib.Core.Logic.{◌⊎◌, inl, inr, ⊎_elim}
use mathlib.Core.List.{List}
use Prim.Native.Nat.{ℕ, ◌+◌, ◌*◌, ◌≤◌, ◌<◌}
use native.Mathlib.Omega.{arith}
use lib.ListN.{length, get_or}
use Rattle.area.proofs.Laws.{lt-or-ge}
use Rattle.plain.specs.Plain.{char_at}
use Rattle.plain.proofs.Chars.{Uncut, uncut-start, uncut-stop, uncut-step, uncut-end}

-- no NUL was passed; or the first one was, and the text ends there
pub record Nearest (w : ℕ) (s : List ℕ) (i at k len : ℕ) : Type 0 where
  pub either : (Uncut w s i at k × (len ≡ w)) ⊎ ((len ≡ length (char_at w s i)) × (len < k))
  pub sound : k ≤ w
  pub short : len ≤ w

pub nearest-start : (w : ℕ) (s : List ℕ) (i at : ℕ) → at ≡ i * w → Nearest w s i at 0 w
nearest-start w s i at e = record { either = inl (uncut-start w s i at e, refl); sound = omega arith; short = omega arith }

module _ {w : ℕ} {s : List ℕ} {i at k len : ℕ} (g : Nearest w s i at k len) where
  pub nearest-step : k < w → at + k < length s → {p r : ℕ} → (get_or s (at + k) 0 ≡ 0 → p ≡ k) × (0 < get_or s (at + k) 0 → p ≡ w) → (p < len → r ≡ p) × (len ≤ p → r ≡ len) →
      Nearest w s i at (k + 1) r
  nearest-step h b {p} {r} a l = ⊎_elim letter nul (lt-or-ge 0 (get_or s (at + k) 0))
    where
      nul : get_or s (at + k) 0 ≤ 0 → Nearest w s i at (k + 1) r
      nul z =
          let e : get_or s (at + k) 0 ≡ 0 = omega arith in
          let q : p ≡ k = a.0 e in
          ⊎_elim
          (λ u.
          let t : r ≡ p = l.0 (omega (arith, u.1)) in
          record { either = inr (t ∙ q ∙ uncut-stop u.0 h b e, omega arith); sound = omega arith; short = omega arith })
          (λ u.
          let t : r ≡ len = l.1 (omega (arith, u.1)) in
          record { either = inr (t ∙ u.0, omega (arith, u.1)); sound = omega arith; short = omega (arith, g.short) })
          g.either

      letter : 0 < get_or s (at + k) 0 → Nearest w s i at (k + 1) r
      letter z =
          let q : p ≡ w = a.1 z in
          ⊎_elim
          (λ u.
          let t : r ≡ len = l.1 (omega (arith, u.1)) in
          record { either = inl (uncut-step u.0 h b (λ e. omega arith), t ∙ u.1); sound = omega arith; short = omega (arith, g.short) })
          (λ u.
          let t : r ≡ len = l.1 (omega (arith, u.1, g.short)) in
          record { either = inr (t ∙ u.0, omega (arith, u.1)); sound = omega arith; short = omega (arith, g.short) })
          g.either

  pub nearest-end : w ≤ k → len ≡ length (char_at w s i)
  nearest-end h =
      ⊎_elim
      (λ u. let e : k ≡ length (char_at w s i) = uncut-end u.0 h in omega (arith, u.1, g.sound))
      (λ u. u.0)
      g.either
