-- `used::first_blob` meets its contract: the items that the loop has passed are not those bytes, and the next starts where the last of them ends.
-- Assumes nothing.
use Prim.Native.Nat.{ℕ}
use mathlib.Core.Path.{◌≡◌}
use lib.ListN.{take, drop}
use Rattle.encode.specs.Kinds.{blob}
use Rattle.plain.specs.Rows.{bytes, same}
use Rattle.plain.specs.Plain.{start_at, plain_row}
use Rattle.lookup.specs.First.{first_at}
use Rattle.lookup.proofs.Passed.{Passed}
use Rattle.used.proofs.first_blob.Given as goal

abbrev pub invariant-loop-i : goal.invariant-loop-i
invariant-loop-i l = Passed (first_at (λ (k : ℕ). same (bytes (take l.len (drop l.from l.others))) (plain_row blob l.n l.items k)) l.n) l.n l.i × (l.at ≡ start_at l.items l.i)
