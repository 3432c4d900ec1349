-- 02 (v): a row appended n times, one append after the other, up to one that is refused. Assumes nothing.
use Rattle.std.specs.Prelude.{ℕ, zero, suc, cond, eqb}
use Rattle.encode.specs.declared.Kind.{Kind}
use Rattle.plain.specs.Rows.{Row}
use Rattle.format.specs.declared.Encoding.{Encoding}
use Rattle.needs.specs.declared.Counted.{Counted}
use Rattle.step.specs.Counting.{next_of}
use Rattle.append.specs.Appending.{Lent, Added, added_to, added}

unfoldable pub singles : Kind → Encoding → Row → ℕ → Counted → Lent → Added
singles k e row zero r a = added_to (next_of 0 r) a
singles k e row (suc n) r a =
    cond (eqb (added k e r a row).answer.number 0) (singles k e row n (added k e r a row).answer.counted (added k e r a row).areas)
    (added k e r a row)
