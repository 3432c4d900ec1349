-- `lookup::finding::same_char` meets its contract: the bytes of the item's length are within its width. Assumes nothing.
use Prim.Native.Nat.{◌<◌}
use native.Mathlib.Omega.{arith}
use borrow.Author.Rules.{rules}
use Rattle.plain.specs.Rows.{same}
use Rattle.plain.proofs.Numbers.{product_small}
use Rattle.lookup.specs.Held.{held_row}
use Rattle.lookup.specs.Asking.{ItemThere}
use Rattle.lookup.proofs.finding.same_char.Goals as goal

pub overflow_mul-i : goal.overflow_mul-i
unfolding ItemThere
overflow_mul-i c =
    let l : c.args.w < 256 = search rules in
    let h = product_small c.args.i c.args.w (omega (arith, c.requires.0)) l in
    omega arith

pub bounds-lens-i : goal.bounds-lens-i
unfolding ItemThere
bounds-lens-i c = c.requires.1

pub overflow_cast-lens : goal.overflow_cast-lens
overflow_cast-lens c = omega (arith, c.type_inv.lens c.args.i)

pub same_bytes-requires : goal.same_bytes-requires
unfolding ItemThere
same_bytes-requires c = c.requires.2

pub returns : goal.returns
unfolding same held_row
returns c = c.same_bytes.ensures
