-- What the program `night` says of a file whose rows both engines were asked for. Assumes nothing.
use Rattle.std.specs.Prelude.{ℕ, ◌≤◌, Bool, true, false, cond, List, ltb, eqb, length, take}
use Rattle.limits.specs.Limits.{MOST_INPUT, MOST_COLUMNS}
use Rattle.limits.specs.Refusals.{CUT, LIMIT}
use Rattle.descriptor.specs.Descriptor.{descriptor_of}
use Rattle.text.specs.Input.{block_in}
use Rattle.sheet.specs.Sheet.{columns_in, directory_end, entry_at, descriptor_in, named_by, sheet_number}
use Rattle.night_rows.specs.declared.Verdict.{Verdict}
use Rattle.night_rows.specs.declared.Verdict.TheVariants.{Same, Refused, Differs}
use Rattle.night_rows.specs.Night.{verdict_of}

-- ---- a file of a descriptor and a block, which is refused first by its length
unfoldable pub file_verdict : List ℕ → Verdict
file_verdict f =
    cond (ltb (length f) 8) (Refused CUT)
    (cond (ltb MOST_INPUT (length f)) (Refused LIMIT)
    (verdict_of (descriptor_of (take 8 f)) (block_in f)))

-- ---- a sheet file
-- it is short enough for the program, and its directory is whole
pub record Directory (f : List ℕ) : Type 0 where
  pub short : length f ≤ MOST_INPUT
  pub few : columns_in f ≤ MOST_COLUMNS
  pub whole : directory_end (columns_in f) ≤ length f

-- column j of one that has it: where its entry names bytes outside the file's blocks, neither engine is asked
unfoldable pub column_verdict : List ℕ → ℕ → Verdict
column_verdict f j =
    cond (eqb (sheet_number f j) 0) (verdict_of (descriptor_in (entry_at j f)) (named_by (entry_at j f) f)) (Refused (sheet_number f j))

-- ---- whether a verdict is that they differ
unfoldable pub differing : Verdict → Bool
differing (Same n) = false
differing (Refused e) = false
differing (Differs r) = true
