-- `put` meets its contract: the ends first, and by them the texts. Assumes nothing.
use native.Mathlib.Omega.{arith}
use Rattle.char_rows.proofs.TextsLaid.{ends_there}
use borrow.Author.Rules.{rules}
use Rattle.char_rows.proofs.put.Goals as goal

pub put_bytes-requires : goal.put_bytes-requires
put_bytes-requires c = (
  c.requires.0,
  c.requires.1,
  ends_there _ _ _ _ c.args.ends.now c.requires.2 c.put_ends-total.ensures.ends_after,
  search rules,
  c.put_ends-total.ensures.value.0,
  omega (arith, c.put_ends-total.ensures.value.0, c.requires.3),
)
