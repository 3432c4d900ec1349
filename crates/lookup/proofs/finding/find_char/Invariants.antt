-- `lookup::finding::find_char` meets its contract: the items that the loop has passed have good lengths and are not the row. Assumes nothing.
use mathlib.Core.List.{[]}
use Rattle.encode.specs.declared.Kind.TheVariants.{Char}
use Rattle.plain.specs.Rows.{bytes}
use Rattle.lookup.specs.Held.{held}
use Rattle.lookup.proofs.Passed.{Looking}
use Rattle.lookup.proofs.finding.find_char.Given as goal

abbrev pub invariant-loop-i : goal.invariant-loop-i
invariant-loop-i l = Looking (Char l.w) l.n 0 (held l.items [] l.lens) (bytes l.item) l.i
