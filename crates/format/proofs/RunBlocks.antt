-- A run-length block: the answer on each way through `check_runs`, over any inner rules. Assumes nothing.
use Prim.Native.Nat.{ℕ, ◌+◌, ◌-◌}
use native.Mathlib.Omega.{arith}
use mathlib.Core.List.{List, [], ◌∷◌}
use mathlib.Core.Path.{◌≡◌, refl, sym, ap, ◌∙◌}
use lib.ListN.{length, take, drop, length-drop}
use lib.Seq.{take_all}
use Rattle.rle.specs.declared.RunHead.{RunHead}
use Rattle.rle.specs.RunLength.{runs_in, counts_length, inner_part, run_length_number}
use Rattle.rle.specs.Pieces.{head_found, number_by}
use Rattle.rle.proofs.Opening.{Sound as SoundHead, head-number, head-sound, head-empty, head-refused}
use Rattle.std.specs.Prelude.{Option, Some, None, Result, Ok, Err}
use Rattle.format.specs.declared.Head.{Head}
use Rattle.format.specs.Opening.{head}
use Rattle.format.specs.Found.{found_by, runs_head}
use Rattle.format.proofs.Answers.{refused-by, sound-by}

-- the code's slice from a place to the end is the rest of the block
pub rest_of : (at : ℕ) (b : List ℕ) → take (length b - at) (drop at b) ≡ drop at b
rest_of at b = take_all (length b - at) (drop at b) (simp length-drop (omega arith))

no-head : (b : List ℕ) → length b ≡ 0 → runs_head b ≡ head 0 0 0 0
unfolding runs_head runs_in counts_length
no-head [] h = refl
no-head (x ∷ b) h = absurd (omega arith)

pub head-right :
    (n : ℕ) (b : List ℕ) {g : Result (Option RunHead) ℕ} {h : RunHead} → g ≡ head_found n b → g ≡ Ok (Some h) → SoundHead n b h.runs h.counts
head-right n b p q = head-sound n b (sym p ∙ q)

module _ (inner : ℕ → List ℕ → ℕ) (n : ℕ) (b : List ℕ) {g : Result (Option RunHead) ℕ} (p : g ≡ head_found n b) where
  abbrev answer : Result Head ℕ
  answer = found_by (run_length_number inner n b) (runs_head b)

  -- the head was found to be so
  number_is : {h : Result (Option RunHead) ℕ} → g ≡ h → run_length_number inner n b ≡ number_by inner b h
  number_is q = head-number inner n b ∙ ap (number_by inner b) (sym p ∙ q)

  pub no_block : g ≡ Ok None → found_by 0 (head 0 0 0 0) ≡ answer
  unfolding number_by
  no_block q = rw (number_is q, no-head b (head-empty n b (sym p ∙ q)).0)

  pub head-wrong : {e : ℕ} → g ≡ Err e → Err e ≡ answer
  unfolding number_by
  head-wrong {e} q = let l = head-refused n b (sym p ∙ q) in rw (number_is q) (refused-by e (runs_head b) (λ z. omega arith))

  -- the inner block was checked where it stands, behind the counts
  module _
      {h : RunHead} {r : ℕ} (q : g ≡ Ok (Some h)) (i : r ≡ inner h.runs (take (length b - (8 + h.counts)) (drop (8 + h.counts) b)))
    where
      inner-is : run_length_number inner n b ≡ r
      unfolding number_by inner_part
      inner-is = number_is q ∙ sym (rw rest_of at i)

      pub inner-wrong : (r ≡ 0 → ⊥) → Err r ≡ answer
      inner-wrong z = rw inner-is (refused-by r (runs_head b) z)

      pub inner-right : r ≡ 0 → Ok (head h.runs h.counts 0 0) ≡ answer
      unfolding runs_head
      inner-right z = let s = head-right n b p q in rw (inner-is, z, s.runs-read, s.counts-read) (sound-by (runs_head b))
