-- For the code of finish: the numbers by which the block is measured, and what writing it asks of the lent areas. Assumes nothing.
use Rattle.std.specs.Prelude.{ℕ, ◌≤◌, ◌≡◌, Bool, true, length}
use Rattle.limits.specs.Limits.{MOST_ITEMS, MOST_ENTRIES}
use Rattle.encode.specs.declared.Kind.{Kind}
use Rattle.encode.specs.declared.Kind.TheVariants.{Blob}
use Rattle.nullable.specs.Nullable.{bitmap_length}
use Rattle.format.specs.declared.Encoding.{Encoding}
use Rattle.needs.specs.declared.Counted.{Counted}
use Rattle.needs.specs.Needs.{coded, flagged, keyed, stored_by}
use Rattle.append.specs.Appending.{Lent}

-- the numbers with another byte length of the counts
unfoldable pub with_counts : Counted → ℕ → Counted
with_counts r n = record {
  rows = r.rows;
  runs = r.runs;
  entries = r.entries;
  bytes = r.bytes;
  last = r.last;
  null = r.null;
  counts = n;
}

-- the areas hold what the block is written from
pub record Ready (k : Kind) (e : Encoding) (r : Counted) (a : Lent) : Type 0 where
  pub few : stored_by e r ≤ MOST_ITEMS
  pub entries : keyed e ≡ true → r.entries ≤ MOST_ENTRIES
  pub runs : coded e ≡ true → r.runs ≤ MOST_ITEMS
  pub items : r.bytes ≤ length a.items
  pub ends : (text : Bool) → k ≡ Blob text → stored_by e r ≤ length a.ends
  pub flags : flagged e ≡ true → bitmap_length (stored_by e r) ≤ length a.flags
  pub counts : coded e ≡ true → r.runs ≤ length a.counts
  pub keys : keyed e ≡ true → r.runs ≤ length a.keys
