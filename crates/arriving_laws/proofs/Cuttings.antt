-- 02 (x): how a block is cut into pieces makes no difference, and the verdict behind the last of them is opening's. Assumes nothing.
use Rattle.std.specs.Prelude.{Some}
use Prim.Native.Nat.{ℕ, suc, ◌-◌}
use native.Mathlib.Omega.{arith}
use mathlib.Core.List.{List, [], ◌∷◌, ◌++◌}
use mathlib.Core.Path.{◌≡◌, refl, sym, ap, ◌∙◌}
use lib.ListN.{length}
use Rattle.encode.specs.declared.Kind.{Kind}
use Rattle.plain.specs.Plain.{joined}
use Rattle.format.specs.declared.Encoding.{Encoding}
use Rattle.format.specs.Opening.{column_number}
use Rattle.arriving.specs.Stages.{Done}
use Rattle.arriving.specs.Arriving.{Waiting, waiting, began, stepped, fed}
use Rattle.arriving_laws.specs.Owed.{Checked}
use Rattle.arriving_laws.specs.Cuttings.{together, fed_all}
use Rattle.arriving_laws.proofs.Whole.{whole-verdict}
use Rattle.format.specs.Blocks.{column}

module _ (k : Kind) (e : Encoding) (n : ℕ) where
  -- ---- two pieces
  pub fed-append : (rest : ℕ) (w : Waiting) (xs ys : List ℕ) → fed k e n rest w (xs ++ ys) ≡ fed k e n (rest - length xs) (fed k e n rest w xs) ys
  unfolding fed
  fed-append rest w [] ys = let all : rest ≡ rest - 0 = omega arith in ap (λ (m : ℕ). fed k e n m w ys) all
  fed-append rest w (x ∷ xs) ys =
      let less : rest - 1 - length xs ≡ rest - suc (length xs) = omega arith in
      let v : Waiting = stepped k e n (rest - 1) w x in
      fed-append (rest - 1) v xs ys ∙ ap (λ (m : ℕ). fed k e n m (fed k e n (rest - 1) v xs) ys) less

  -- ---- any pieces
  pub fed-together : (rest : ℕ) (w : Waiting) (pieces : List (List ℕ)) → fed_all k e n rest w pieces ≡ fed k e n rest w (together pieces)
  unfolding fed_all joined
  fed-together rest w [] = unfold fed in refl
  fed-together rest w (piece ∷ pieces) =
      fed-together (rest - length piece) (fed k e n rest w piece) pieces ∙ sym (fed-append rest w piece (together pieces))

  -- two cuttings of the same bytes
  pub any-cutting :
      (rest : ℕ) (w : Waiting) (pieces others : List (List ℕ)) → together pieces ≡ together others → fed_all k e n rest w pieces ≡ fed_all k e n rest w others
  any-cutting rest w pieces others h = fed-together rest w pieces ∙ ap (fed k e n rest w) h ∙ sym (fed-together rest w others)

-- ---- the theorem: a block in any pieces
pub pieces-verdict :
    (k : Kind) (e : Encoding) (n : ℕ) (b : List ℕ) (pieces : List (List ℕ)) → Checked k → together pieces ≡ b
    → fed_all k e n (length b) (waiting (began k e n (length b)) []) pieces ≡ waiting (Done (column_number (Some (column k e)) n b)) []
pieces-verdict k e n b pieces c h =
    fed-together k e n (length b) start pieces ∙ ap (fed k e n (length b) start) h ∙ whole-verdict k e n b c
  where
    start : Waiting
    start = waiting (began k e n (length b)) []
