-- The bytes of the counts: one to five a run. Assumes nothing.
use Prim.Native.Nat.{ℕ, ◌+◌, ◌*◌, ◌^◌, ◌≤◌, ◌<◌}
use native.Mathlib.Omega.{arith}
use mathlib.Core.List.{List, [], ◌∷◌, ◌++◌}
use mathlib.Core.Path.{sym}
use lib.ListN.{length, length-append}
use Rattle.varint.specs.Varint.{spelling}
use Rattle.varint.proofs.Within.{count-within, count-short}
use Rattle.varint.proofs.RoundTrip.{round_trip}
use Rattle.plain.specs.Each.{Each}
use Rattle.plain.specs.Plain.{joined}
use Rattle.plain.specs.Rows.{Row}
use Rattle.rle.specs.RunLength.{Run, runs_of, counts_of}
use Rattle.block_laws.proofs.Runs.{Counted, counted-runs}

-- a spelling is read back, and no count that is read has fewer or more
one-to-five : (v : ℕ) → v < 2 ^ 32 → (1 ≤ length (spelling v)) × (length (spelling v) ≤ 5)
one-to-five v h =
    let e = sym (round_trip v [] h) in
    ((count-within (spelling v ++ []) v (length (spelling v)) e).0, count-short (spelling v ++ []) v (length (spelling v)) e)

counted-between : (rs : List Run) → Each Counted rs → (length rs ≤ length (counts_of rs)) × (length (counts_of rs) ≤ 5 * length rs)
unfolding counts_of joined
counted-between [] h = (omega arith, omega arith)
counted-between (r ∷ rs) h =
    let s = one-to-five r.count h.0.1 in
    let ih = counted-between rs h.1 in
    let l = length-append (spelling r.count) (counts_of rs) in
    (omega arith, omega arith)

-- of every list: the count of a run is of 32 bits
pub counts-between :
    (rows : List Row) → (length (runs_of rows) ≤ length (counts_of (runs_of rows))) × (length (counts_of (runs_of rows)) ≤ 5 * length (runs_of rows))
counts-between rows = counted-between (runs_of rows) (counted-runs rows)
