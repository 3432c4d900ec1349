-- The keys of a sound key block: where they stand, and the number of rule 15 by what the code found of them. Assumes nothing.
use Prim.Native.Nat.{ℕ, ◌+◌, ◌-◌, ◌≤◌}
use native.Mathlib.Omega.{arith}
use mathlib.Core.Bool.{Bool, true, false, not}
use mathlib.Core.List.{List, [], ◌∷◌}
use mathlib.Core.Logic.{⊎_elim}
use mathlib.Core.Path.{◌≡◌, refl, sym, ap, ◌∙◌}
use lib.ListN.{length, take, drop}
use Rattle.encode.specs.Bytes.{number}
use Rattle.limits.specs.Limits.{MOST_ITEMS}
use Rattle.limits.specs.Refusals.{KEY}
use Rattle.plain.specs.Rules.{◌if◌}
use Rattle.plain.specs.Plain.{places, plain_number}
use Rattle.rle.specs.RunLength.{runs_in, counts_length, inner_part}
use Rattle.dict.specs.Dictionary.{i32, known, keys_number}
use Rattle.format.proofs.RunBlocks.{rest_of}
use Rattle.format.proofs.Sound.{SomeRuns, SoundRuns, runs-sound}
use Rattle.slow_rules.specs.KeyBlock.{KeyBlock}

-- no bytes, no keys
pub no_keys : (entries : ℕ) (b : List ℕ) → length b ≡ 0 → 0 ≡ keys_number entries b
unfolding keys_number known places runs_in
no_keys entries [] h = refl
no_keys entries (x ∷ b) h = absurd (omega arith)

-- ---- there are bytes: a head, the counts, and a key a run behind them
module _ {b : List ℕ} (k : KeyBlock b) (some : length b ≡ 0 → ⊥) where
  sound : SoundRuns (plain_number i32) k.rows b (runs_in b) (counts_length b)
  sound = runs-sound (plain_number i32) k.rows b k.rules

  there : SomeRuns (plain_number i32) b (runs_in b) (counts_length b)
  there = ⊎_elim (λ w. absurd (some (ap length w.no_bytes))) (λ w. w) sound.either

  pub head-there : 8 ≤ length b
  head-there = let r = there.room in omega arith

  -- of the numbers that the code read at the head
  module _ {runs counts : ℕ} (e : runs ≡ number (take 4 (drop 0 b))) (f : counts ≡ number (take 4 (drop 4 b))) where
    pub few-runs : runs ≤ MOST_ITEMS
    unfolding runs_in
    few-runs = rw e sound.many

    pub runs-there : SomeRuns (plain_number i32) b runs counts
    unfolding runs_in counts_length
    runs-there = rw (e, f) there

-- ---- the number
module _ (entries : ℕ) (b : List ℕ) {runs counts : ℕ} (e : runs ≡ number (take 4 (drop 0 b))) (f : counts ≡ number (take 4 (drop 4 b)))
    {t : Bool} (p : t ≡ known entries (take (length b - (8 + counts)) (drop (8 + counts) b)) (places runs 0)) where
  number_is : KEY if not t ≡ keys_number entries b
  unfolding keys_number runs_in counts_length inner_part
  number_is = rw (← e, ← f) (ap (λ (x : Bool). KEY if not x) (rw rest_of at p))

  pub all_known : t ≡ true → 0 ≡ keys_number entries b
  all_known h = ap (λ (x : Bool). KEY if not x) (sym h) ∙ number_is

  pub one-unknown : t ≡ false → KEY ≡ keys_number entries b
  one-unknown h = ap (λ (x : Bool). KEY if not x) (sym h) ∙ number_is
