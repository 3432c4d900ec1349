-- `used::first_char` meets its contract: the items that the loop has passed are not those bytes. Assumes nothing.
use Prim.Native.Nat.{ℕ}
use lib.ListN.{take, drop}
use Rattle.encode.specs.declared.Kind.TheVariants.{Char}
use Rattle.plain.specs.Rows.{bytes, same}
use Rattle.plain.specs.Plain.{plain_row}
use Rattle.lookup.specs.First.{first_at}
use Rattle.lookup.proofs.Passed.{Passed}
use Rattle.used.proofs.first_char.Given as goal

abbrev pub invariant-loop-i : goal.invariant-loop-i
invariant-loop-i l = Passed (first_at (λ (k : ℕ). same (bytes (take l.len (drop l.from l.others))) (plain_row (Char l.w) l.n l.items k)) l.n) l.n l.i
