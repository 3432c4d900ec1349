-- `blob_at` meets its contract: a blob whose ends are good lies in the data. Assumes nothing.
use Prim.Native.Nat.{◌*◌, ◌≤◌}
use mathlib.Core.Path.{refl}
use native.Mathlib.Omega.{arith}
use lib.ListN.{length}
use Rattle.plain.specs.Rows.{bytes_in}
use Rattle.plain.specs.Plain.{plain_row}
use Rattle.plain.proofs.Ranges.{blob-room, blob-forth, blob-lies}
use Rattle.slow_plain.proofs.blob_at.Goals as goal

pub start_at-start-requires : goal.start_at-start-requires
start_at-start-requires c =
    let room : 4 * c.args.n ≤ length c.args.s.now = blob-room c.args.n c.args.s.now refl c.requires.2 in
    let h = room in (omega arith, omega arith)

pub end_at-requires : goal.end_at-requires
end_at-requires c =
    let room : 4 * c.args.n ≤ length c.args.s.now = blob-room c.args.n c.args.s.now refl c.requires.2 in
    let h = room in (omega arith, omega arith)

pub overflow_sub-result : goal.overflow_sub-result
overflow_sub-result c = blob-forth _ _ refl c.requires.2 _ c.start_at-start.ensures.0 c.end_at.ensures.0 c.requires.3

pub returns : goal.returns
unfolding plain_row bytes_in
returns c = blob-lies _ _ refl c.requires.2 _ c.start_at-start.ensures.0 c.end_at.ensures.0 c.requires.3
