-- `copies::joined` meets its contract: no sum or difference leaves its type, and the fields are those of the definition. Assumes nothing.
use native.Mathlib.Omega.{arith}
use Rattle.copies.proofs.Numbers as laws
use Rattle.copies.proofs.Stretches.{longer-by}
use Rattle.copies.proofs.counting.joined.Goals as goal

pub overflow_sub-grows : goal.overflow_sub-grows
overflow_sub-grows c =
    let z = longer-by c.args.c.last c.args.t c.requires.0 in
    omega (arith, z, c.size-2.ensures, c.size.ensures)

pub overflow_add-result-3 : goal.overflow_add-result-3
overflow_add-result-3 c =
    let z = longer-by c.args.c.last c.args.t c.requires.0 in
    omega (arith, z, c.requires.2, c.size-2.ensures, c.size.ensures)

pub returns : goal.returns
returns c =
    laws.joined-told c.args.c _ c.args.t c.size.ensures c.size-2.ensures c.next_null.ensures
