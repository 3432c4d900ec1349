-- 01, "Building": creation and append as functions of the record, the row and what the lent areas hold, for every record and all memory. Assumes
-- nothing.
use Rattle.std.specs.Prelude.{ℕ, Result, Ok, Err, Bool, List, ℤ, Option, Some, None}
use Rattle.limits.specs.Refusals.{COLUMN, DISAGREE}
use Rattle.plain.specs.Rows.{row_of}
use Rattle.format.specs.declared.Column.{Column}
use Rattle.format.specs.Blocks.{column_of}
use Rattle.needs.specs.declared.Counted.{Counted}
use Rattle.append.specs.Appending.{Lent, Added, added}
use Rattle.copies.specs.Copies.{added_times}
use Rattle.builder.specs.declared.Builder.{Builder}
use Rattle.builder.specs.declared.Appended.{Appended}

-- ---- creation, with a target and a target of the keys: a record with nothing counted, or 1
abbrev pub none_counted : Counted
none_counted = record { rows = 0; runs = 0; entries = 0; bytes = 0; last = 0; null = 0; counts = 0 }

abbrev pub empty : ℕ → ℕ → ℕ → ℕ → ℕ → Builder
empty kind encoding width target key =
    record { kind = kind; encoding = encoding; width = width; target = target; keytarget = key; counted = none_counted }

unfoldable pub created_in : Option Column → Builder → Result Builder ℕ
created_in None r = Err COLUMN
created_in (Some c) r = Ok r

unfoldable pub created : ℕ → ℕ → ℕ → ℕ → ℕ → Result Builder ℕ
created kind encoding width target key = created_in (column_of kind encoding width) (empty kind encoding width target key)

-- ---- append: 9 for the record, the areas and the fields, 2, 3, 4; a refusal gives back what it was given
pub record Append : Type 0 where
  pub answer : Appended
  pub areas : Lent

abbrev pub append_of : ℕ → Builder → Lent → Append
append_of e r a = record { answer = record { number = e; builder = r }; areas = a }

-- the record with other counted numbers
abbrev pub counting : Builder → Counted → Builder
counting r c =
    record { kind = r.kind; encoding = r.encoding; width = r.width; target = r.target; keytarget = r.keytarget; counted = c }

abbrev pub append_with : Builder → Added → Append
append_with r x = append_of x.answer.number (counting r x.answer.counted) x.areas

unfoldable pub appended_in : Option Column → Builder → Lent → Bool → ℤ → List ℕ → Append
appended_in None r a present v bs = append_of DISAGREE r a
appended_in (Some c) r a present v bs = append_with r (added c.kind c.encoding r.counted a (row_of c.kind present v bs))

-- one row: whether it is present, its integer and its bytes
unfoldable pub appended : Builder → Lent → Bool → ℤ → List ℕ → Append
appended r a present v bs = appended_in (column_of r.kind r.encoding r.width) r a present v bs

-- 02 (v): that row n times, all or none
unfoldable pub appended_times_in : Option Column → Builder → Lent → ℕ → Bool → ℤ → List ℕ → Append
appended_times_in None r a n present v bs = append_of DISAGREE r a
appended_times_in (Some c) r a n present v bs = append_with r (added_times c.kind c.encoding r.counted a n (row_of c.kind present v bs))

unfoldable pub appended_times : Builder → Lent → ℕ → Bool → ℤ → List ℕ → Append
appended_times r a n present v bs = appended_times_in (column_of r.kind r.encoding r.width) r a n present v bs
