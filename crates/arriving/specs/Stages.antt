-- The stage that a check is in, as its rules speak of it: a verdict by its number, which is 0 for a sound block. Assumes nothing.
use Rattle.std.specs.Prelude.{ℕ, Bool}
use Rattle.limits.specs.Refusals.{number_in}
use Rattle.arriving.specs.declared.Stage.{Stage as Waited}

pub data Stage : Type 0 where
  -- the verdict
  Done : ℕ → Stage
  KeyLength : Stage
  -- keys
  Entries : ℕ → Stage
  -- size, entries
  RunHead : ℕ → ℕ → Stage
  -- inner, runs, left, more, sum, entries
  Counts : ℕ → ℕ → ℕ → ℕ → ℕ → ℕ → Stage
  -- left, entries
  Keys : ℕ → ℕ → Stage
  -- left, last, data, bits
  Ends : ℕ → ℕ → ℕ → ℕ → Stage
  -- left, at, ended, bits
  Chars : ℕ → ℕ → Bool → ℕ → Stage
  -- bits, later
  Trailer : ℕ → ℕ → Stage

-- that of the code, which has verdicts themselves
abbrev pub stage_of : Waited → Stage
stage_of (Waited.Done verdict) = Done (number_in verdict)
stage_of Waited.KeyLength = KeyLength
stage_of (Waited.Entries keys) = Entries keys
stage_of (Waited.RunHead size entries) = RunHead size entries
stage_of (Waited.Counts inner runs left more sum entries) = Counts inner runs left more sum entries
stage_of (Waited.Keys left entries) = Keys left entries
stage_of (Waited.Ends left last data' bits) = Ends left last data' bits
stage_of (Waited.Chars left at ended bits) = Chars left at ended bits
stage_of (Waited.Trailer bits later) = Trailer bits (number_in later)
