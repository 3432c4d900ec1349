-- For the code: what it asks of the lent areas, which its callers have tested. Assumes nothing.
use Rattle.std.specs.Prelude.{ℕ, ◌+◌, ◌*◌, ◌≤◌, ◌<◌, length, get_or}
use Rattle.encode.specs.declared.Kind.{Kind}
use Rattle.encode.specs.declared.Kind.TheVariants.{Fixed, Char, Blob}
use Rattle.encode.specs.Kinds.{width_of}
use Rattle.limits.specs.Limits.{MOST_ITEMS}
use Rattle.lookup.specs.Held.{Held, item_start, item_end}

-- a field of each of n items is there
unfoldable pub FieldsThere : Kind → ℕ → Held → Type 0
FieldsThere (Fixed p) n h = Unit
FieldsThere (Char w) n h = n ≤ length h.lens
FieldsThere (Blob text) n h = n ≤ length h.ends

-- the bytes of n items are there, of a blob's so many in all
unfoldable pub BytesThere : Kind → ℕ → ℕ → Held → Type 0
BytesThere (Fixed p) n len h = n * width_of p ≤ length h.items
BytesThere (Char w) n len h = n * w ≤ length h.items
BytesThere (Blob text) n len h = len ≤ length h.items

-- item i is there with its fields, which are good
unfoldable pub ItemThere : Kind → Held → ℕ → Type 0
ItemThere (Fixed p) h i = (i < MOST_ITEMS) × (i * width_of p + width_of p ≤ length h.items)
ItemThere (Char w) h i = (i < MOST_ITEMS) × (i < length h.lens) × (i * w + get_or h.lens i 0 ≤ length h.items)
ItemThere (Blob text) h i = (i < length h.ends) × (item_start h.ends i ≤ item_end h.ends i) × (item_end h.ends i ≤ length h.items)
