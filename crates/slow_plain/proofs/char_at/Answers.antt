-- `char_at` meets its contract: the item is cut at its first NUL. Assumes nothing.
use Prim.Native.Nat.{◌+◌, ◌*◌, ◌≤◌}
use native.Mathlib.Omega.{arith}
use lib.ListN.{length}
use Rattle.plain.specs.Rows.{bytes_in}
use Rattle.plain.specs.Plain.{plain_row}
use Rattle.plain.proofs.Ranges.{char-room, char-lies}
use Rattle.slow_plain.proofs.char_at.Goals as goal

pub overflow_mul-result : goal.overflow_mul-result
overflow_mul-result c =
    let room : let a = c.args in a.i * a.w + a.w ≤ length a.s.now = let a = c.args in char-room a.w a.n a.s.now a.i c.requires.3 c.requires.0 in
    let h = room in omega arith

pub char_len-requires : goal.char_len-requires
char_len-requires c =
    let room : let a = c.args in a.i * a.w + a.w ≤ length a.s.now = let a = c.args in char-room a.w a.n a.s.now a.i c.requires.3 c.requires.0 in
    (omega arith, c.requires.2, room)

pub returns : goal.returns
unfolding plain_row bytes_in
returns c =
    char-lies c.args.w c.args.n c.args.s.now c.args.i c.requires.3 c.requires.0 _ c.char_len.ensures.0 c.char_len.ensures.1
