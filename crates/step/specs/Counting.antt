-- 01, "Building": the counted numbers with one row more, for any numbers. Assumes nothing.
use Rattle.std.specs.Prelude.{ℕ, ◌+◌, ◌-◌, Bool, cond, not, ◌&&◌, Result, Ok, Err, length}
use Rattle.encode.specs.declared.Kind.{Kind}
use Rattle.varint.specs.Varint.{spelling}
use Rattle.format.specs.declared.Encoding.{Encoding}
use Rattle.needs.specs.declared.Counted.{Counted}
use Rattle.needs.specs.declared.Room.{Room}
use Rattle.needs.specs.Needs.{coded, keyed, past_limits, too_short}
use Rattle.limits.specs.declared.refusal.Refusal.{Refusal}
use Rattle.limits.specs.Refusals.{LIMIT, ROOM, refusal_number}

-- ---- the numbers with the row counted in
-- the bytes by which the last count's varint grows with one row more
unfoldable pub growth : ℕ → ℕ
growth last = length (spelling (last + 1)) - length (spelling last)

-- of the row its flag and the length of its item; whether that is stored; whether the row joins the last run
unfoldable pub grown : Encoding → Counted → ℕ → ℕ → Bool → Bool → Counted
grown e r bit len item joins = record {
  rows = r.rows + 1;
  runs = cond (coded e && not joins) (r.runs + 1) r.runs;
  entries = cond (keyed e && item) (r.entries + 1) r.entries;
  bytes = cond item (r.bytes + len) r.bytes;
  last = cond (coded e) (cond joins (r.last + 1) 1) r.last;
  null = cond (coded e) (1 - bit) r.null;
  counts = cond (coded e) (r.counts + cond joins (growth r.last) 1) r.counts;
}

-- ---- the answer: 3 and 4 for the numbers with the row counted in, and else those numbers; a refusal gives back what it was given
pub record Next : Type 0 where
  pub number : ℕ
  pub counted : Counted

abbrev pub next_of : ℕ → Counted → Next
next_of e r = record { number = e; counted = r }

-- what a function answers that is given r and gives the next numbers or a refusal
abbrev pub answered : Counted → Result Counted Refusal → Next
answered r (Ok next) = next_of 0 next
answered r (Err e) = next_of (refusal_number e) r

unfoldable pub counted_by : Kind → Encoding → Counted → Room → Counted → Next
counted_by k e r m next = cond (past_limits k e next) (next_of LIMIT r) (cond (too_short k e next m) (next_of ROOM r) (next_of 0 next))

-- for the code: the numbers with another number of entries
unfoldable pub with_entries : Counted → ℕ → Counted
with_entries r n = record {
  rows = r.rows;
  runs = r.runs;
  entries = n;
  bytes = r.bytes;
  last = r.last;
  null = r.null;
  counts = r.counts;
}
