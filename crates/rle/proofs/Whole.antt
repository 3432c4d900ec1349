-- Counts that a walk adds up give all their rows: read from the first on, each run as often as its count says. Assumes nothing.
use Rattle.std.specs.Prelude.{Option, Some, None, Result, Ok, Err}
use Prim.Native.Nat.{ℕ, zero, suc, ◌+◌, ◌-◌, ◌<◌, ◌≤◌}
use native.Mathlib.Numerals.{add-one}
use native.Mathlib.Omega.{arith}
use mathlib.Core.Bool.{Bool, true, false}
use mathlib.Core.List.{List, [], ◌∷◌, ◌++◌}
use mathlib.Core.Logic.{⊎_elim}
use mathlib.Core.Path.{◌≡◌, refl, sym, ◌∙◌}
use lib.Dec.{eqb}
use lib.ListN.{length, drop, replicate}
use lib.Seq.{drop-drop}
use borrow.Author.Tests.{eqb-true, eqb-false}
use Rattle.varint.specs.declared.Count.{Count}
use Rattle.varint.specs.Varint.{count_at, counted}
use Rattle.area.proofs.Laws.{lt-or-ge}
use Rattle.rle.specs.declared.Spot.{Spot}
use Rattle.rle.specs.RunLength.{plus, walked, as_often, run_numbers}
use Rattle.rle.specs.Stepping.{spot, rows, before, steps_from}
use Rattle.rle.proofs.OneRun.{rows-past}
use Rattle.rle.proofs.Walking.{used-up, bad-run, zero-run, good-run}

never : {e m : ℕ} → Err e ≡ Ok m → ⊥
never q = let z : ◌≡◌ {A = ℕ} 0 1 = cc in omega arith

plus-total : (v m : ℕ) (w : Result ℕ ℕ) → plus v w ≡ Ok m → (k : ℕ) × (w ≡ Ok k) × (m ≡ v + k)
unfolding plus
plus-total v m (Ok k) e = (k, refl, cc)
plus-total v m (Err x) e = absurd (never e)

module _ (runs : ℕ) (counts : List ℕ) where
  -- the m rows of k runs from run i on, whose counts begin at a place
  abbrev All : ℕ → ℕ → ℕ → ℕ → Type 0
  All k i at m = (t : Spot) × (steps_from runs counts m (spot i at 0) ≡ rows (run_numbers k i (drop at counts)) t)

  numbers-step : (k i at v len : ℕ) → counted v len ≡ count_at counts at
      → run_numbers (suc k) i (drop at counts) ≡ replicate v i ++ run_numbers k (i + 1) (drop (at + len) counts)
  unfolding run_numbers as_often count_at
  numbers-step k i at v len e = rw (← e, drop-drop, add-one)

  one-run : (k i at m v len j : ℕ) → i + suc k ≡ runs → counted v len ≡ count_at counts at → 0 < v → m ≡ v + j
      → All k (i + 1) (at + len) j → All (suc k) i at m
  unfolding before
  one-run k i at m v len j h e p q a =
      let x : v - 0 ≡ v = omega arith in
      let y : m - v ≡ j = omega arith in
      let r = rows-past runs counts i at (omega arith) e m 0 (omega arith) p (omega arith) (omega arith) in
      (a.0, rw (numbers-step k i at v len e, r, x, y, a.1))

  all : (k i at m : ℕ) → i + k ≡ runs → walked k (drop at counts) ≡ Ok m → All k i at m
  unfolding walked steps_from run_numbers
  all zero i at m h e = (spot i at 0, none_left (drop at counts) e)
    where
      none_left : (s : List ℕ) → walked 0 s ≡ Ok m → steps_from runs counts m (spot i at 0) ≡ rows [] (spot i at 0)
      none_left [] q = let z : m ≡ 0 = cc in rw z
      none_left (b ∷ s) q = absurd (never q)
  all (suc k) i at m h e = ⊎_elim
      (λ (l : at < length counts). count (λ i' at' m' h' e'. all k i' at' m' h' e') l (count_at counts at) refl)
      (λ (l : length counts ≤ at). absurd (never (sym (used-up counts at (suc k) (omega arith) l) ∙ e)))
      (lt-or-ge at (length counts))
    where
      Rest : Type 0
      Rest = (i' at' m' : ℕ) → i' + k ≡ runs → walked k (drop at' counts) ≡ Ok m' → All k i' at' m'

      some : Rest → at < length counts → (v len : ℕ) → counted v len ≡ count_at counts at
          → (b : Bool) → eqb v 0 ≡ b → All (suc k) i at m
      some ih l v len q true z = absurd (never (sym (zero-run counts at (suc k) v len (omega arith) l q (eqb-true v 0 z)) ∙ e))
      some ih l v len q false z =
          let y = eqb-false v 0 z in
          let x : suc k - 1 ≡ k = omega arith in
          let g = rw x at (good-run counts at (suc k) v len (omega arith) l q y) in
          let p = plus-total v m (walked k (drop (at + len) counts)) (sym g ∙ e) in
          one-run k i at m v len p.0 h q (omega arith) p.2 (ih (i + 1) (at + len) p.0 (omega arith) p.1)

      count : Rest → at < length counts → (c : Option Count) → c ≡ count_at counts at → All (suc k) i at m
      count ih l None q = absurd (never (sym (bad-run counts at (suc k) (omega arith) l q) ∙ e))
      count ih l (Some c) q = some ih l c.value c.len q (eqb c.value 0) refl

pub whole-steps : (runs : ℕ) (counts : List ℕ) (n : ℕ) → walked runs counts ≡ Ok n
    → (t : Spot) × (steps_from runs counts n (spot 0 0 0) ≡ rows (run_numbers runs 0 counts) t)
whole-steps runs counts n e = all runs counts runs 0 0 n (omega arith) e
