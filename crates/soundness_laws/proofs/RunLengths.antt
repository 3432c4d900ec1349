-- Run-length blocks over any inner block: the parts are as the layout says exactly when no rule refuses them. Assumes nothing.
use Rattle.std.specs.Prelude.{Some, Ok}
use Prim.Native.Nat.{ℕ, ◌+◌, ◌-◌, ◌≤◌, ◌<◌}
use native.Mathlib.Omega.{arith}
use mathlib.Core.List.{List, ◌++◌}
use mathlib.Core.Logic.{◌⊎◌, inl, inr}
use mathlib.Core.Path.{◌≡◌, refl, sym, ap, subst, ◌∙◌}
use lib.ListN.{length, take, drop, length-drop}
use lib.Seq.{length-take-le}
use Rattle.limits.specs.Limits.{MOST_ITEMS}
use Rattle.encode.specs.Bytes.{number}
use Rattle.rle.specs.RunLength.{runs_in, counts_length, counts_part, inner_part, walked, run_length_number}
use Rattle.rle.specs.Pieces.{head_found, number_by, run_head}
use Rattle.rle.proofs.Opening.{head-number, sum-right}
use Rattle.format.proofs.Sound.{NoRuns, SomeRuns, SoundRuns, runs-sound}
use Rattle.soundness_laws.specs.Sound.{written, Runs, RunsOver}
use Rattle.soundness_laws.proofs.Parts.{Laid, first_part, second-part, third-part, last-part, length-parts, in_parts}
use Rattle.soundness_laws.proofs.Counts.{Counts, counts-walk, walk-counts}

-- ---- what is read of such a block is what it consists of
module _ {Inner : ℕ → List ℕ → Type 0} {n : ℕ} {b : List ℕ} (r : Runs Inner n b) where
  abbrev counted : List ℕ
  counted = written r.counts

  laid : Laid 4 4 b r.runs.bytes r.size.bytes counted r.inner
  laid = record { whole = r.whole; first = r.runs_field.0; second = r.size_field.0 }

  pub runs-read : runs_in b ≡ length r.counts
  unfolding runs_in
  runs-read = ap number (first_part laid) ∙ r.runs_field.1 ∙ r.runs_told

  size-read : counts_length b ≡ length counted
  unfolding counts_length
  size-read = ap number (second-part laid) ∙ r.size_field.1 ∙ r.size_told

  counts-read : counts_part (length counted) b ≡ counted
  unfolding counts_part
  counts-read = third-part laid

  inner-behind : inner_part (length counted) b ≡ r.inner
  unfolding inner_part
  inner-behind = last-part laid

  pub inner-read : inner_part (counts_length b) b ≡ r.inner
  inner-read = ap (λ (len : ℕ). inner_part len b) size-read ∙ inner-behind

  long : length b ≡ 8 + length counted + length r.inner
  long = length-parts laid

  head-told : Ok (Some (run_head (length r.counts) (length counted))) ≡ head_found n b
  unfolding runs_in counts_length counts_part
  head-told =
      let m : 8 + length counted - 8 ≡ length counted = omega arith in
      let l = long in
      sum-right n b (λ z. omega arith) (omega arith) (sym runs-read) (omega (arith, r.few)) (λ z. omega (arith, r.some))
      (sym size-read) (omega arith)
      (rw m (ap (walked (length r.counts)) (sym counts-read)))
      (counts-walk r.counts r.each) r.sum

  -- the number is that of the inner rule
  pub runs_number : (rule : ℕ → List ℕ → ℕ) → run_length_number rule n b ≡ rule (length r.counts) r.inner
  unfolding number_by
  runs_number rule = head-number rule n b ∙ ap (number_by rule b) (sym head-told) ∙ ap (rule (length r.counts)) inner-behind

  -- the same block, where more or less is known of what is inside
  pub with-inner : {Other : ℕ → List ℕ → Type 0} → Other (length r.counts) r.inner → Runs Other n b
  with-inner o =
      record {
        runs = r.runs;
        size = r.size;
        counts = r.counts;
        inner = r.inner;
        whole = r.whole;
        runs_field = r.runs_field;
        size_field = r.size_field;
        runs_told = r.runs_told;
        size_told = r.size_told;
        some = r.some;
        few = r.few;
        each = r.each;
        sum = r.sum;
        sound = o;
      }

-- ---- for a rule that gives 0 exactly for what is sound
module _ (Inner : ℕ → List ℕ → Type 0) (rule : ℕ → List ℕ → ℕ) (n : ℕ) (b : List ℕ) where
  pub runs-open : ((m : ℕ) (l : List ℕ) → Inner m l → rule m l ≡ 0) → RunsOver Inner n b → run_length_number rule n b ≡ 0
  unfolding run_length_number
  runs-open inner-open (inl e) = rw (e.0, e.1)
  runs-open inner-open (inr r) = runs_number r rule ∙ inner-open (length r.counts) r.inner r.sound

  -- a head with some runs, its counts and what is behind them
  cut-runs : Counts (runs_in b) (counts_part (counts_length b) b) n → runs_in b ≤ MOST_ITEMS → 0 < runs_in b → 8 + counts_length b ≤ length b
      → Inner (runs_in b) (inner_part (counts_length b) b) → Runs Inner n b
  unfolding runs_in counts_length counts_part inner_part
  cut-runs c few some room inside =
      let m = c.many in
      let four : length (take 4 (drop 4 b)) ≡ 4 = length-take-le 4 (drop 4 b) (simp length-drop (omega arith)) in
      let size : counts_length b ≡ length (written c.counts)
      = sym (length-take-le (counts_length b) (drop 8 b) (simp length-drop (omega arith))) ∙ ap length c.whole in
      record {
        runs = record { value = runs_in b; bytes = take 4 b };
        size = record { value = counts_length b; bytes = take 4 (drop 4 b) };
        counts = c.counts;
        inner = inner_part (counts_length b) b;
        whole =
            in_parts b 4 4 (counts_length b)
            ∙ ap (λ (l : List ℕ). take 4 b ++ take 4 (drop 4 b) ++ l ++ inner_part (counts_length b) b) c.whole;
        runs_field = (length-take-le 4 b (omega arith), refl);
        size_field = (four, refl);
        runs_told = sym m;
        size_told = size;
        some = omega arith;
        few = omega arith;
        each = c.each;
        sum = c.adds;
        sound = subst (λ (i : ℕ). Inner i (inner_part (counts_length b) b)) (sym m) inside;
      }

  module _ (opens-inner : (m : ℕ) (l : List ℕ) → rule m l ≡ 0 → Inner m l) where
    pub told-runs : SoundRuns rule n b (runs_in b) (counts_length b) → RunsOver Inner n b
    told-runs s = by s.either
      where
        by : NoRuns n b (runs_in b) (counts_length b) ⊎ SomeRuns rule b (runs_in b) (counts_length b) → RunsOver Inner n b
        by (inl e) = inl (e.no_bytes, e.no_rows)
        by (inr e) =
            inr (cut-runs (walk-counts (runs_in b) (counts_part (counts_length b) b) n s.sum) s.many e.some e.room
            (opens-inner (runs_in b) (inner_part (counts_length b) b) e.inside))

    pub opens-runs : run_length_number rule n b ≡ 0 → RunsOver Inner n b
    opens-runs z = told-runs (runs-sound rule n b z)
