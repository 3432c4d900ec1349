-- `blob_at` meets its contract: a blob whose ends are good lies in the data. Assumes nothing.
use Prim.Native.Nat.{◌*◌, ◌≤◌}
use mathlib.Core.Path.{refl}
use native.Mathlib.Omega.{arith}
use lib.ListN.{length}
use Rattle.plain.proofs.Ranges.{blob-room, blob-forth, blob-lies}
use Rattle.plain.proofs.blob_at.Goals as goal

pub start_at-from-requires : goal.start_at-from-requires
start_at-from-requires c =
    let room : 4 * c.args.n ≤ length c.args.s.now = blob-room c.args.n c.args.s.now refl c.requires.2 in
    let h = room in (omega arith, omega arith)

pub end_at-requires : goal.end_at-requires
end_at-requires c =
    let room : 4 * c.args.n ≤ length c.args.s.now = blob-room c.args.n c.args.s.now refl c.requires.2 in
    let h = room in (omega arith, omega arith)

pub overflow_sub-result : goal.overflow_sub-result
overflow_sub-result c = blob-forth _ _ refl c.requires.2 _ c.start_at-from.ensures.0 c.end_at.ensures.0 c.requires.3

pub returns : goal.returns
returns c = blob-lies _ _ refl c.requires.2 _ c.start_at-from.ensures.0 c.end_at.ensures.0 c.requires.3
