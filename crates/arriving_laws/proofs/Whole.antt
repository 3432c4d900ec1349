-- 02 (x): a whole block, byte by byte: what a check waits for at its end is no more than opening's verdict. Assumes nothing.
use Rattle.std.specs.Prelude.{Some}
use Prim.Native.Nat.{ℕ, suc, ◌-◌}
use native.Mathlib.Omega.{arith}
use mathlib.Core.List.{List, [], ◌∷◌}
use mathlib.Core.Path.{◌≡◌, refl, sym, ap, subst, ◌∙◌}
use lib.ListN.{length}
use Rattle.encode.specs.declared.Kind.{Kind}
use Rattle.format.specs.declared.Encoding.{Encoding}
use Rattle.format.specs.Opening.{column_number}
use Rattle.arriving.specs.Stages.{Stage, Done, KeyLength, Entries, RunHead, Counts, Keys, Ends, Chars, Trailer}
use Rattle.arriving.specs.Arriving.{Waiting, waiting, began, stepped_by, stepped, fed}
use Rattle.arriving_laws.specs.Owed.{owed_by, owed, Fits, Checked}
use Rattle.arriving_laws.proofs.Steps.{StepOwed, StepFits}
use Rattle.arriving_laws.proofs.Keys.{keys-step-owed, keys-step-fits}
use Rattle.arriving_laws.proofs.RunHeads.{run-head-step-owed, run-head-step-fits}
use Rattle.arriving_laws.proofs.DictionaryHeads.{entries-step-owed, entries-step-fits, key-length-step-owed, key-length-step-fits}
use Rattle.arriving_laws.proofs.CountSteps.{counts-step-owed, counts-step-fits}
use Rattle.arriving_laws.proofs.CharSteps.{chars-step-owed, chars-step-fits}
use Rattle.arriving_laws.proofs.EndSteps.{ends-step-owed, ends-step-fits, trailer-step-owed, trailer-step-fits}
use Rattle.arriving_laws.proofs.Beginning.{began-owed, began-fits}
use Rattle.format.specs.Blocks.{column}

module _ (k : Kind) (e : Encoding) (n : ℕ) (c : Checked k) where
  -- ---- a byte, in any stage
  pub step-owed : (s : Stage) (held : List ℕ) (b : ℕ) (bs : List ℕ) → StepOwed k n s held b bs e
  step-owed (Done v) held b bs h = unfold owed_by stepped_by in refl
  step-owed KeyLength held b bs h = key-length-step-owed k e n c held b bs h
  step-owed (Entries keys) held b bs h = entries-step-owed k e n c keys held b bs h
  step-owed (RunHead size entries) held b bs h = run-head-step-owed k e n size entries held b bs h
  step-owed (Counts inner runs left more sum entries) held b bs h = counts-step-owed k e n c inner runs left more sum entries held b bs h
  step-owed (Keys left entries) held b bs h = keys-step-owed k e n c left entries held b bs h
  step-owed (Ends left last data' bits) held b bs h = ends-step-owed k e n left last data' bits held b bs h
  step-owed (Chars left at ended bits) held b bs h = chars-step-owed k e n left at ended bits held b bs h
  step-owed (Trailer bits later) held b bs h = trailer-step-owed k e n bits later held b bs h

  pub step_fits : (s : Stage) (held : List ℕ) (b : ℕ) (bs : List ℕ) → StepFits k n s held b bs e
  step_fits (Done v) held b bs h = unfold Fits stepped_by in refl
  step_fits KeyLength held b bs h = key-length-step-fits k e n c held b bs h
  step_fits (Entries keys) held b bs h = entries-step-fits k e n c keys held b bs h
  step_fits (RunHead size entries) held b bs h = run-head-step-fits k e n size entries held b bs h
  step_fits (Counts inner runs left more sum entries) held b bs h = counts-step-fits k e n c inner runs left more sum entries held b bs h
  step_fits (Keys left entries) held b bs h = keys-step-fits k e n c left entries held b bs h
  step_fits (Ends left last data' bits) held b bs h = ends-step-fits k e n left last data' bits held b bs h
  step_fits (Chars left at ended bits) held b bs h = chars-step-fits k e n left at ended bits held b bs h
  step_fits (Trailer bits later) held b bs h = trailer-step-fits k e n bits later held b bs h

  -- ---- all bytes to come
  -- one of them, and the rest
  fed-more : (m : ℕ) (w : Waiting) (b : ℕ) (bs : List ℕ) → fed k e n (suc m) w (b ∷ bs) ≡ fed k e n m (stepped k e n m w b) bs
  unfolding fed
  fed-more m w b bs = let less : suc m - 1 ≡ m = omega arith in ap (λ (i : ℕ). fed k e n i (stepped k e n i w b) bs) less

  pub fed-owed : (w : Waiting) (bs : List ℕ) → Fits k e w.stage w.held (length bs) → owed k e n w bs ≡ owed k e n (fed k e n (length bs) w bs) []
  fed-owed w [] h = unfold fed in refl
  fed-owed w (b ∷ bs) h =
      step-owed w.stage w.held b bs h
      ∙ fed-owed (stepped k e n (length bs) w b) bs (step_fits w.stage w.held b bs h)
      ∙ ap (λ (v : Waiting). owed k e n v []) (sym (fed-more (length bs) w b bs))

  -- what a check keeps where no byte is to come
  abbrev Ended : Waiting → Type 0
  Ended w = Fits k e w.stage w.held 0

  pub fed-fits : (w : Waiting) (bs : List ℕ) → Fits k e w.stage w.held (length bs) → Ended (fed k e n (length bs) w bs)
  fed-fits w [] h = unfold fed in h
  fed-fits w (b ∷ bs) h =
      subst Ended (sym (fed-more (length bs) w b bs))
      (fed-fits (stepped k e n (length bs) w b) bs (step_fits w.stage w.held b bs h))

-- ---- where no byte is to come
-- a check waits for nothing: its verdict is there
at-end : (k : Kind) (e : Encoding) (n : ℕ) (s : Stage) (held : List ℕ) → Fits k e s held 0 → waiting s held ≡ waiting (Done (owed_by k e n s held [])) []
unfolding Fits
at-end k e n (Done v) held h = unfold owed_by in rw h
at-end k e n KeyLength held h = absurd (omega (arith, h.1, h.2))
at-end k e n (Entries keys) held h = absurd (omega (arith, h.1, h.2))
at-end k e n (RunHead size entries) held h = absurd (omega (arith, h.1, h.2, h.3))
at-end k e n (Counts inner runs left more sum entries) held h = absurd (omega (arith, h.1, h.5))
at-end k e n (Keys left entries) held h = absurd (omega (arith, h.1, h.2, h.3))
at-end k e n (Ends left last data' bits) held h = absurd (omega (arith, h.0, h.1, h.2))
at-end k e n (Chars left at ended bits) held h = absurd (omega (arith, h.0, h.2))
at-end k e n (Trailer bits later) held h = absurd (omega (arith, h.1))

-- ---- the theorem, for a block in one piece
pub whole-verdict :
    (k : Kind) (e : Encoding) (n : ℕ) (b : List ℕ) → Checked k
    → fed k e n (length b) (waiting (began k e n (length b)) []) b ≡ waiting (Done (column_number (Some (column k e)) n b)) []
whole-verdict k e n b c =
    at-end k e n end.stage end.held (fed-fits k e n c start b fit)
    ∙ ap (λ (v : ℕ). waiting (Done v) []) (sym (fed-owed k e n c start b fit) ∙ began-owed k e n b c)
  where
    start : Waiting
    start = waiting (began k e n (length b)) []

    end : Waiting
    end = fed k e n (length b) start b

    fit : Fits k e (began k e n (length b)) [] (length b)
    fit = began-fits k e n (length b) c
