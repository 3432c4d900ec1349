-- `lookup::finding::find_blob` meets its contract: the items that the loop has passed have good ends and are not the row, and the last is left,
-- whose end is that of all. Assumes nothing.
use Prim.Native.Nat.{◌-◌, ◌<◌}
use mathlib.Core.Path.{◌≡◌}
use mathlib.Core.List.{[]}
use Rattle.encode.specs.Kinds.{blob}
use Rattle.plain.specs.Rows.{bytes}
use Rattle.lookup.specs.Held.{held, item_start}
use Rattle.lookup.proofs.Passed.{Looking}
use Rattle.lookup.proofs.finding.find_blob.Given as goal

abbrev pub invariant-loop-i : goal.invariant-loop-i
invariant-loop-i l = Looking blob l.n l.len (held l.items l.ends []) (bytes l.item) l.i × (l.from ≡ item_start l.ends l.i) × (l.i < l.n)

abbrev pub decreases-loop-i : goal.decreases-loop-i
decreases-loop-i l = l.n - l.i
