-- Before the first run of a sound key block: all its rows are ahead, each in the run that its counts say, and the keys are there. Assumes nothing.
use Rattle.std.specs.Prelude.{Option, Some, None, Result, Ok, Err}
use Prim.Native.Nat.{ℕ, ◌+◌, ◌-◌, ◌*◌, ◌≤◌}
use native.Mathlib.Omega.{arith}
use mathlib.Core.List.{List, [], ◌∷◌}
use mathlib.Core.Path.{◌≡◌, refl, sym, ap, ◌∙◌}
use lib.ListN.{length, length-drop}
use Rattle.limits.specs.Limits.{MOST_ITEMS, MOST_BYTES}
use Rattle.encode.specs.declared.Primitive.TheVariants.{I32}
use Rattle.plain.specs.Plain.{plain_number}
use Rattle.plain.proofs.Numbers.{fixed_plain}
use Rattle.rle.specs.declared.Spot.{Spot}
use Rattle.rle.specs.declared.RunHead.{RunHead}
use Rattle.rle.specs.RunLength.{runs_in, counts_length, counts_part, inner_part, walked, run_length_number, run_numbers}
use Rattle.rle.specs.Stepping.{Steps, rows}
use Rattle.rle.specs.Pieces.{head_found, number_by, step_runs, Fine}
use Rattle.rle.proofs.Opening.{head-number, head-sound, head-empty, head-refused}
use Rattle.rle.proofs.Whole.{whole-steps}
use Rattle.dict.specs.Dictionary.{i32}
use Rattle.repaired.specs.Repaired.{none_yet, runs_walked, Keyed, Ahead}

-- ---- counts that add up to the rows
rows-fine : {w : Steps} {is : List ℕ} {t : Spot} → w ≡ rows is t → Fine w
unfolding Fine
rows-fine e = rw e tt

rows-runs : {w : Steps} {is : List ℕ} {t : Spot} → w ≡ rows is t → step_runs w ≡ is
unfolding step_runs
rows-runs e = rw e

module _ (runs : ℕ) (counts : List ℕ) {n : ℕ} (sum : walked runs counts ≡ Ok n) where
  pub start-ahead : Ahead runs counts none_yet n
  start-ahead =
      let e : n - 0 ≡ n = omega arith in
      record { some = omega arith; there = λ h. absurd (omega arith); inside = omega arith; fine = rw e (rows-fine (whole-steps runs counts n sum).1) }

  pub start-runs : runs_walked runs counts n ≡ run_numbers runs 0 counts
  start-runs = rows-runs (whole-steps runs counts n sum).1

-- ---- a sound key block; of one of no bytes the numbers at its head are 0
pub record SoundKeyBlock (n : ℕ) (b : List ℕ) (runs counts : ℕ) : Type 0 where
  pub few : runs ≤ MOST_ITEMS
  pub sum : walked runs (counts_part counts b) ≡ Ok n
  pub room : 4 * runs ≤ length (inner_part counts b)

module _ (n : ℕ) where
  none-sound : (b : List ℕ) → length b ≡ 0 → n ≡ 0 → SoundKeyBlock n b (runs_in b) (counts_length b)
  unfolding runs_in counts_length counts_part walked
  none-sound [] h z = record { few = omega arith; sum = ap Ok (sym z); room = omega arith }
  none-sound (x ∷ b) h z = absurd (omega arith)

  pub key-block-sound : (b : List ℕ) → run_length_number (plain_number i32) n b ≡ 0 → SoundKeyBlock n b (runs_in b) (counts_length b)
  unfolding number_by
  key-block-sound b h = by (head_found n b) refl
    where
      by : (g : Result (Option RunHead) ℕ) → head_found n b ≡ g → SoundKeyBlock n b (runs_in b) (counts_length b)
      by (Ok None) e = let z = head-empty n b e in none-sound b z.0 z.1
      by (Err x) e =
          let p = head-refused n b e in
          let q : x ≡ 0 = sym (head-number (plain_number i32) n b ∙ ap (number_by (plain_number i32) b) e) ∙ h in
          absurd (omega arith)
      by (Ok (Some k)) e =
          let s = head-sound n b e in
          let q : plain_number i32 k.runs (inner_part k.counts b) ≡ 0 = sym (head-number (plain_number i32) n b ∙ ap (number_by (plain_number i32) b) e) ∙ h in
          let l = fixed_plain I32 k.runs (inner_part k.counts b) q in
          rw (← s.runs-read, ← s.counts-read) (record { few = s.many; sum = s.sum; room = omega arith })

module _ {n : ℕ} {b : List ℕ} {runs counts : ℕ} (s : SoundKeyBlock n b runs counts) where
  pub sound-ahead : Ahead runs (counts_part counts b) none_yet n
  sound-ahead = start-ahead runs (counts_part counts b) s.sum

  pub sound-runs : runs_walked runs (counts_part counts b) n ≡ run_numbers runs 0 (counts_part counts b)
  sound-runs = start-runs runs (counts_part counts b) s.sum

  pub sound-keyed : length b ≤ MOST_BYTES → Keyed runs (inner_part counts b)
  unfolding inner_part
  sound-keyed h = record { few = s.few; short = omega (arith, length-drop (8 + counts) b); whole = s.room }
