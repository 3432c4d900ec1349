-- `moved` meets its contract: the rule of the two tables. Assumes nothing.
use Prim.Native.Nat.{ℕ, ◌<◌}
use mathlib.Core.Path.{◌≡◌, ap, ◌∙◌}
use borrow.Author.Rules.{rules}
use lib.ListN.{get_or}
use Rattle.utf8.proofs.Moves.{move-inside, move-right}
use Rattle.utf8.proofs.moved.Goals as goal

pub bounds-moves-class : goal.bounds-moves-class
bounds-moves-class c =
    let class-at : let a = c.args in c.from-class.result ≡ get_or a.classes.now a.b 0 = let a = c.args in
    c.from-class.ensures ∙ ap (λ (i : ℕ). get_or a.classes.now i 0) c.from.ensures in
    let a = c.args in
    let k : a.b < 256 = search rules in
    move-inside a.classes.now a.moves.now a.state a.b _ _ c.requires.2 k c.requires.0 (class-at) c.from-2.ensures

pub returns : goal.returns
returns c =
    let class-at : let a = c.args in c.from-class.result ≡ get_or a.classes.now a.b 0 = let a = c.args in
    c.from-class.ensures ∙ ap (λ (i : ℕ). get_or a.classes.now i 0) c.from.ensures in
    let a = c.args in
    let k : a.b < 256 = search rules in
    move-right a.classes.now a.moves.now a.state a.b _ _ c.requires.2 k c.requires.0 (class-at) c.from-2.ensures c.requires.1
