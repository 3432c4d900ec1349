-- 02, (xiv), for one who calls a builder: the same bounds by its own answers and what it has recorded. Assumes nothing.
use Rattle.std.specs.Prelude.{ℕ, ◌+◌, ◌*◌, ◌≤◌, List, [], ◌≡◌, length}
use Rattle.encode.specs.declared.Kind.{Kind}
use Rattle.format.specs.declared.Encoding.{Encoding}
use Rattle.builder.specs.declared.Builder.{Builder}
use Rattle.builder.specs.declared.Finished.{Finished}
use Rattle.builder.specs.Finishing.{estimated}
use Rattle.any_building_laws.specs.BuilderCalls.{Call, accepted_in}
use Rattle.estimate_laws.specs.Bounds.{beyond, SomeRows}

-- ---- the two right sides, by the estimate that the builder answers and the runs that it has recorded; in encodings 0 and 1 it records none
unfoldable pub most_by : Encoding → Builder → ℕ
most_by e r = (estimated r).size + beyond e + 3 * r.counted.runs

unfoldable pub least_by : Encoding → Builder → ℕ
least_by e r = (estimated r).size + beyond e

-- ---- what finish then answers
-- if it is 0, a length that is at most the one
abbrev pub DoneAtMost : Encoding → Builder → Finished → Type 0
DoneAtMost e r f = f.number ≡ 0 → f.len ≤ most_by e r

-- and, with the runs, at least the other
abbrev pub DoneAtLeast : Encoding → Builder → Finished → Type 0
DoneAtLeast e r f = f.number ≡ 0 → least_by e r ≤ f.len + r.counted.runs

-- it is 0 in every room of so many bytes, which a caller can tell without the rows
abbrev pub DoneInRoom : Encoding → Builder → List ℕ → Finished → Type 0
DoneInRoom e r out f = most_by e r ≤ length out → f.number ≡ 0

-- at least one row was accepted among some calls
abbrev pub SomeAccepted : Kind → Encoding → List Call → Type 0
SomeAccepted k e cs = SomeRows (accepted_in k e [] cs)
