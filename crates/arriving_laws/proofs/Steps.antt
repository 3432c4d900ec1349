-- What is to be proved of a stage: with the next byte nothing changes in what is owed, and what is kept is kept. Assumes nothing.
use Prim.Native.Nat.{ℕ, suc}
use mathlib.Core.List.{List, ◌∷◌}
use mathlib.Core.Path.{◌≡◌}
use lib.ListN.{length}
use Rattle.encode.specs.declared.Kind.{Kind}
use Rattle.format.specs.declared.Encoding.{Encoding}
use Rattle.arriving.specs.Stages.{Stage}
use Rattle.arriving.specs.Arriving.{Waiting, stepped_by}
use Rattle.arriving_laws.specs.Owed.{owed_by, owed, Fits}

abbrev pub StepOwed : Kind → ℕ → Stage → List ℕ → ℕ → List ℕ → Encoding → Type 0
StepOwed k n s held b bs e =
    Fits k e s held (suc (length bs)) → owed_by k e n s held (b ∷ bs) ≡ owed k e n (stepped_by k e n (length bs) s held b) bs

abbrev pub StepFits : Kind → ℕ → Stage → List ℕ → ℕ → List ℕ → Encoding → Type 0
StepFits k n s held b bs e =
    Fits k e s held (suc (length bs)) → let w : Waiting = stepped_by k e n (length bs) s held b in Fits k e w.stage w.held (length bs)
