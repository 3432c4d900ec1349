-- `lookup::finding::find_bool` meets its contract: the items that the loop has passed are not the bool. Assumes nothing.
use Prim.Native.Nat.{ℕ}
use Rattle.encode.specs.Kinds.{true_or_false}
use Rattle.encode.specs.declared.Primitive.TheVariants.{Bool as Boolean}
use Rattle.plain.specs.Rows.{same_int}
use Rattle.plain.specs.Plain.{fixed_at}
use Rattle.lookup.specs.First.{first_at}
use Rattle.lookup.proofs.Passed.{Passed}
use Rattle.lookup.proofs.finding.find_bool.Given as goal

abbrev pub invariant-loop-i : goal.invariant-loop-i
invariant-loop-i l = Passed (first_at (λ (k : ℕ). same_int (true_or_false l.want) (fixed_at Boolean l.items k)) l.n) l.n l.i
