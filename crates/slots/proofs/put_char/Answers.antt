-- `slots::put_char` meets its contract: the bytes and the zeros behind them are the item, and of a null the zeros alone. Assumes nothing.
use Prim.Native.Nat.{◌+◌, ◌≤◌}
use native.Mathlib.Omega.{arith}
use mathlib.Core.Bool.{true}
use mathlib.Core.Path.{◌≡◌}
use lib.ListN.{length}
use Rattle.slots.proofs.Items.{char-room, char-short, char-put, char-none}
use Rattle.slots.proofs.put_char.Goals as goal

pub copy-requires : goal.copy-requires
copy-requires c =
    let room : c.args.at + c.args.width ≤ length c.args.items.now = let a = c.args in char-room a.present a.item.now a.items.now a.at a.width c.requires.0 c.requires.1 in
    let short : c.args.present ≡ true → length c.args.item.now ≤ c.args.width = λ t. let a = c.args in char-short a.present a.item.now a.items.now a.at a.width c.requires.0 c.requires.1 t in
    let r = room in
    let l = short c.if-present.true in
    (omega arith, omega arith)

-- what is left to fill, behind the bytes
pub overflow_add-at : goal.overflow_add-at
overflow_add-at c =
    let room : c.args.at + c.args.width ≤ length c.args.items.now = let a = c.args in char-room a.present a.item.now a.items.now a.at a.width c.requires.0 c.requires.1 in
    let short : c.args.present ≡ true → length c.args.item.now ≤ c.args.width = λ t. let a = c.args in char-short a.present a.item.now a.items.now a.at a.width c.requires.0 c.requires.1 t in
    let r = room in
    let l = short c.if-present.true in
    omega arith

pub overflow_sub-width : goal.overflow_sub-width
overflow_sub-width c =
    let short : c.args.present ≡ true → length c.args.item.now ≤ c.args.width = λ t. let a = c.args in char-short a.present a.item.now a.items.now a.at a.width c.requires.0 c.requires.1 t in
    short c.if-present.true

pub fill-requires : goal.fill-requires
fill-requires c =
    let room : c.args.at + c.args.width ≤ length c.args.items.now = let a = c.args in char-room a.present a.item.now a.items.now a.at a.width c.requires.0 c.requires.1 in
    let short : c.args.present ≡ true → length c.args.item.now ≤ c.args.width = λ t. let a = c.args in char-short a.present a.item.now a.items.now a.at a.width c.requires.0 c.requires.1 t in
    let r = room in
    let l = short c.if-present.true in
    omega arith

pub returns-then-present : goal.returns-then-present
returns-then-present c =
    char-put _ _ _ _ _ c.requires.0 c.requires.1 c.if-present.true c.copy.ensures c.fill.ensures

pub fill-requires-2 : goal.fill-requires-2
fill-requires-2 c =
    let room : c.args.at + c.args.width ≤ length c.args.items.now = let a = c.args in char-room a.present a.item.now a.items.now a.at a.width c.requires.0 c.requires.1 in
    room

pub returns : goal.returns
returns c =
    char-none _ _ _ _ _ c.requires.0 c.requires.1 c.if-present.false c.fill-2.ensures
