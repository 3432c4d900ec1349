-- For the code: a block that was opened, and the item that shows a row of it. Assumes nothing.
use Rattle.std.specs.Prelude.{ℕ, ◌-◌, ◌≤◌, List, ◌≡◌, length, take, drop, get_or}
use Rattle.limits.specs.Limits.{MOST_ITEMS, MOST_BYTES}
use Rattle.encode.specs.declared.Kind.{Kind}
use Rattle.plain.specs.Rows.{null}
use Rattle.plain.specs.Plain.{plain_number}
use Rattle.dict.specs.Dictionary.{entry_row}
use Rattle.format.specs.declared.Encoding.{Encoding}
use Rattle.format.specs.Opening.{most_rows, rules_of, rows_of}
use Rattle.slow_plain.specs.Items.{slot_of}
use Rattle.slow_places.specs.declared.Place.{Place}

-- a block of n rows that keeps the rules, of some kind
pub record Opened (e : Encoding) (n : ℕ) (b : List ℕ) : Type 0 where
  pub kind : Kind
  pub sound : rules_of kind e n b ≡ 0
  pub short : length b ≤ MOST_BYTES
  pub few : n ≤ most_rows e

-- the plain block that a place names
abbrev pub items_at : Place → List ℕ → List ℕ
items_at p b = take (p.to - p.from) (drop p.from b)

-- row r of the block is what a place says: null, or an item of a good plain block
pub record Shows (k : Kind) (e : Encoding) (n : ℕ) (b : List ℕ) (r : ℕ) (p : Place) : Type 0 where
  pub ordered : p.from ≤ p.to
  pub inside : p.to ≤ length b
  pub few : p.items ≤ MOST_ITEMS
  pub sound : plain_number k p.items (items_at p b) ≡ 0
  pub slot : slot_of p.item ≤ p.items
  pub shown : get_or (rows_of k e n b) r null ≡ entry_row k p.items (items_at p b) (slot_of p.item)
