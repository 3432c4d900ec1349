-- For the code: what is counted, without the areas: the same row behind itself, so many times, and rows of which all join the last run. Assumes nothing.
use Rattle.std.specs.Prelude.{ℕ, zero, suc, ◌+◌, ◌-◌, cond, length}
use Rattle.encode.specs.declared.Kind.{Kind}
use Rattle.varint.specs.Varint.{spelling}
use Rattle.format.specs.declared.Encoding.{Encoding}
use Rattle.needs.specs.declared.Counted.{Counted}
use Rattle.needs.specs.Needs.{past_limits}
use Rattle.step.specs.Counting.{Next, grown, next_of}
use Rattle.limits.specs.Refusals.{LIMIT}
use Rattle.copies.specs.Copies.{joins_again, stores_again}

-- of the row its flag and the length of its item
unfoldable pub grown_again : Encoding → ℕ → ℕ → Counted → Counted
grown_again e bit len r = grown e r bit len (stores_again e r) (joins_again e r)

unfoldable pub grown_times : Encoding → ℕ → ℕ → ℕ → Counted → Counted
grown_times e bit len zero r = r
grown_times e bit len (suc n) r = grown_times e bit len n (grown_again e bit len r)

-- t rows more in the last run
unfoldable pub joined : Counted → ℕ → ℕ → Counted
joined r bit t = record {
  rows = r.rows + t;
  runs = r.runs;
  entries = r.entries;
  bytes = r.bytes;
  last = r.last + t;
  null = 1 - bit;
  counts = r.counts + (length (spelling (r.last + t)) - length (spelling r.last));
}

-- 3, or the numbers
unfoldable pub limited : Kind → Encoding → Counted → Counted → Next
limited k e r next = cond (past_limits k e next) (next_of LIMIT r) (next_of 0 next)
