-- `strings_are_text` meets its contract: data without a byte above 127 are text, and any other are looked at item by item. Assumes nothing.
use Prim.Native.Nat.{◌*◌, ◌≤◌}
use mathlib.Core.Path.{refl, sym, ◌∙◌}
use mathlib.Core.Bool.{false}
use native.Mathlib.Omega.{arith}
use lib.ListN.{length}
use Rattle.utf8.specs.States.{class_table, move_table}
use Rattle.plain.proofs.Numbers.{blobs-lengths}
use Rattle.plain.proofs.TextItems.{strings-ascii}
use Rattle.plain.proofs.texts.strings_are_text.Goals as goal

pub overflow_sub-s : goal.overflow_sub-s
overflow_sub-s c =
    let room : 4 * c.args.n ≤ length c.args.s.now = (blobs-lengths false c.args.n c.args.s.now c.requires.1).0 in
    let r = room in omega arith

pub is_ascii-requires : goal.is_ascii-requires
is_ascii-requires c =
    let room : 4 * c.args.n ≤ length c.args.s.now = (blobs-lengths false c.args.n c.args.s.now c.requires.1).0 in
    let r = room in omega arith

pub returns-then-is_ascii : goal.returns-then-is_ascii
returns-then-is_ascii c =
    let room : 4 * c.args.n ≤ length c.args.s.now = (blobs-lengths false c.args.n c.args.s.now c.requires.1).0 in
    let a = c.args in
    sym (strings-ascii a.n a.s.now (room) (sym c.is_ascii.ensures ∙ c.if-is_ascii.true))

-- the tables are those of the walk
pub invariant_of-tables : goal.invariant_of-tables
unfolding class_table move_table
invariant_of-tables c = record { are = (refl, refl) }
