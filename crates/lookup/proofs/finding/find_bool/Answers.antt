-- `lookup::finding::find_bool` meets its contract: the items that the loop has passed are not the bool. Assumes nothing.
use mathlib.Core.Bool.{not, beq}
use mathlib.Core.Path.{◌≡◌, sym, ◌∙◌}
use native.Mathlib.Omega.{arith}
use lib.Dec.{eqb}
use lib.ListN.{get_or}
use Rattle.encode.specs.Kinds.{true_or_false}
use Rattle.encode.specs.declared.Primitive.TheVariants.{Bool as Boolean}
use Rattle.plain.specs.Rows.{same_int}
use Rattle.plain.specs.Plain.{fixed_at}
use Rattle.lookup.specs.First.{first_at, first_value}
use Rattle.lookup.proofs.Words.{bool-test}
use Rattle.lookup.proofs.Passed.{passed_start, passed-stop, passed-step, passed-end, first-here, first-later}
use Rattle.lookup.proofs.finding.find_bool.Goals as goal

pub loop-i-init : goal.loop-i-init
loop-i-init c = passed_start _ _

pub returns-then-items-i : goal.returns-then-items-i
unfolding first_value
returns-then-items-i c =
    let tested : let a = c.args in
    beq (not (eqb (get_or a.items.now c.loop-i.i 0) 0)) a.want
    ≡ same_int (true_or_false a.want) (fixed_at Boolean a.items.now c.loop-i.i) = bool-test c.args.want c.args.items.now c.loop-i.i (omega (arith, c.requires)) in
    passed-stop c.loop-i.invariant (omega arith) (first-here _ c.args.n c.loop-i.i (sym (tested) ∙ c.if-items-i.true))

pub loop-i-preserved : goal.loop-i-preserved
loop-i-preserved c =
    let tested : let a = c.args in
    beq (not (eqb (get_or a.items.now c.loop-i.i 0) 0)) a.want
    ≡ same_int (true_or_false a.want) (fixed_at Boolean a.items.now c.loop-i.i) = bool-test c.args.want c.args.items.now c.loop-i.i (omega (arith, c.requires)) in
    passed-step c.loop-i.invariant (omega arith) (first-later _ c.args.n c.loop-i.i (sym (tested) ∙ c.if-items-i.false))

pub returns : goal.returns
unfolding first_value first_at
returns c = passed-end c.loop-i.invariant (omega arith)
