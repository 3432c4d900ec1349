-- `entry_items::put_char` meets its contract: the bytes and the NULs behind them are the item. Assumes nothing.
use native.Mathlib.Omega.{arith}
use Prim.Native.Nat.{◌≤◌}
use mathlib.Core.Path.{refl}
use Rattle.entry_items.proofs.Entries.{char-asked, char-short, char-put}
use Rattle.entry_items.proofs.put_char.Goals as goal

pub char_of-text-requires : goal.char_of-text-requires
char_of-text-requires c = let p = c.requires in char-asked p.1 p.3 refl p.0

pub copy-requires : goal.copy-requires
copy-requires c =
    let short : c.char_of-text.result.len ≤ c.args.w = let a = c.args in char-short a.w a.n a.items.now a.slot c.char_of-text.result c.char_of-text.ensures in
    let s = short in
    (c.char_of-text.ensures.0, omega (arith, c.requires.4))

pub overflow_sub-w : goal.overflow_sub-w
overflow_sub-w c =
    let short : c.char_of-text.result.len ≤ c.args.w = let a = c.args in char-short a.w a.n a.items.now a.slot c.char_of-text.result c.char_of-text.ensures in
    short

pub fill-requires : goal.fill-requires
fill-requires c =
    let short : c.char_of-text.result.len ≤ c.args.w = let a = c.args in char-short a.w a.n a.items.now a.slot c.char_of-text.result c.char_of-text.ensures in
    let s = short in
    omega (arith, c.requires.4)

pub returns : goal.returns
returns c =
    let a = c.args in
    char-put a.w a.n a.items.now a.slot c.char_of-text.result c.char_of-text.ensures a.out.now a.at c.copy.ensures c.fill.ensures
