-- `in_step::items::walk_items` meets its contract: the shape that items have gives the loop of their width, whose test finds what the kind's
-- values have. Assumes nothing.
use mathlib.Core.Path.{ap, sym, ◌∙◌}
use mathlib.Core.Path.{refl}
use mathlib.Core.Logic.{⊎_elim}
use native.Mathlib.Omega.{arith}
use lib.Dec.{lit<}
use Rattle.encode.proofs.Shapes.{wide_as}
use Rattle.matching.proofs.Tests.{by-truth}
use Rattle.in_step.proofs.ByItems as laws
use Rattle.in_step.proofs.items.walk_items.Goals as goal

-- ---- each arm: a bool's byte, and two, four or eight bytes in either order
pub walk_bools-requires : goal.walk_bools-requires
walk_bools-requires c =
    let h = laws.words-asked c.args.p 1 (sym c.shape-shape.ensures) (ap wide_as c.in-Bool.is) c.args.n c.args.a.now c.args.b.now c.requires.0 c.requires.1 c.requires.2 in
    (omega (arith, h.1), omega (arith, h.2))

pub walk_words-requires : goal.walk_words-requires
walk_words-requires c =
    let h = laws.words-asked c.args.p 2 (sym c.shape-shape.ensures) (ap wide_as c.in-Low2.is) c.args.n c.args.a.now c.args.b.now c.requires.0 c.requires.1 c.requires.2 in
    (refl, h.0, h.1, h.2)

pub walk_words-requires-in-Low4 : goal.walk_words-requires-in-Low4
walk_words-requires-in-Low4 c =
    let h = laws.words-asked c.args.p 4 (sym c.shape-shape.ensures) (⊎_elim (λ e. ap wide_as e) (λ e. ap wide_as e) c.in-Low4.is)
    c.args.n c.args.a.now c.args.b.now c.requires.0 c.requires.1 c.requires.2 in
    (refl, h.0, h.1, h.2)

pub walk_words-requires-in-Low8 : goal.walk_words-requires-in-Low8
walk_words-requires-in-Low8 c =
    let h = laws.words-asked c.args.p 8 (sym c.shape-shape.ensures) (⊎_elim (λ e. ap wide_as e) (λ e. ap wide_as e) c.in-Low8.is)
    c.args.n c.args.a.now c.args.b.now c.requires.0 c.requires.1 c.requires.2 in
    (refl, h.0, h.1, h.2)

pub returns-in-Bool : goal.returns-in-Bool
returns-in-Bool c =
    let a = c.args in
    laws.tested-rows a.p a.a.now a.b.now
    (λ k t h e. e ∙ by-truth a.p a.a.now a.b.now (sym c.shape-shape.ensures ∙ c.in-Bool.is) k)
    c.walk_bools.ensures

pub returns-in-Low2 : goal.returns-in-Low2
returns-in-Low2 c =
    laws.words-told c.args.p 2 (sym c.shape-shape.ensures) (ap wide_as c.in-Low2.is) c.args.n c.args.a.now c.args.b.now (lit< tt)
    (λ j. omega (arith, c.type_inv.a j)) (λ j. omega (arith, c.type_inv.b j)) c.requires.1 c.requires.2 c.walk_words.ensures

pub returns-in-Low4 : goal.returns-in-Low4
returns-in-Low4 c =
    laws.words-told c.args.p 4 (sym c.shape-shape.ensures) (⊎_elim (λ e. ap wide_as e) (λ e. ap wide_as e) c.in-Low4.is)
    c.args.n c.args.a.now c.args.b.now (lit< tt)
    (λ j. omega (arith, c.type_inv.a j)) (λ j. omega (arith, c.type_inv.b j)) c.requires.1 c.requires.2 c.walk_words-in-Low4.ensures

pub returns-in-Low8 : goal.returns-in-Low8
returns-in-Low8 c =
    laws.words-told c.args.p 8 (sym c.shape-shape.ensures) (⊎_elim (λ e. ap wide_as e) (λ e. ap wide_as e) c.in-Low8.is)
    c.args.n c.args.a.now c.args.b.now (lit< tt)
    (λ j. omega (arith, c.type_inv.a j)) (λ j. omega (arith, c.type_inv.b j)) c.requires.1 c.requires.2 c.walk_words-in-Low8.ensures
