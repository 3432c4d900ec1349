-- 02 (xi): two blocks of one kind and width compared, in any encodings: the maximal ranges of the rows, as read, that differ. Assumes nothing.
use Rattle.std.specs.Prelude.{ℕ, zero, suc, Bool, cond, not, ◌&&◌, ◌||◌, List, [], ◌∷◌, map, ltb, eqb, length, Option, Some, None}
use Rattle.limits.specs.Refusals.{ROOM, UNLIKE}
use Rattle.area.specs.Area.{over}
use Rattle.plain.specs.Rows.{Row}
use Rattle.plain.specs.Rules.{◌if◌, first_of}
use Rattle.format.specs.declared.Column.{Column}
use Rattle.format.specs.Blocks.{column_of}
use Rattle.format.specs.Opening.{rows_of}
use Rattle.descriptor.specs.declared.Descriptor.{Descriptor}
use Rattle.descriptor.specs.Descriptor.{described_number}
use Rattle.ranges.specs.Ranges.{Range, ranges_of}
use Rattle.in_step.specs.Differences.{differences}
use Rattle.comparing.specs.declared.Compared.{Compared}

-- ---- the rows of a block that its descriptor opens
unfoldable pub rows_in : Option Column → ℕ → List ℕ → List Row
rows_in None n b = []
rows_in (Some c) n b = rows_of c.kind c.encoding n b

abbrev pub described_rows : Descriptor → List ℕ → List Row
described_rows d b = rows_in (column_of d.kind d.encoding d.width) d.rows b

abbrev pub ranges_between : Descriptor → List ℕ → Descriptor → List ℕ → List Range
ranges_between a x b y = ranges_of (differences (described_rows a x) (described_rows b y))

-- ---- the number: 25 kinds or widths differ, opening's for the first block and then the second, 4 more ranges than lent slots
abbrev pub unlike : Descriptor → Descriptor → Bool
unlike a b = not (eqb a.kind b.kind) || not (eqb a.width b.width)

abbrev pub too_few : ℕ → ℕ → ℕ → Bool
too_few ranges firsts lasts = ltb firsts ranges || ltb lasts ranges

unfoldable pub compare_number : Descriptor → List ℕ → Descriptor → List ℕ → ℕ → ℕ → ℕ
compare_number a x b y firsts lasts = first_of (
    UNLIKE if unlike a b
    ∷ described_number a x
    ∷ described_number b y
    ∷ ROOM if too_few (length (ranges_between a x b y)) firsts lasts
    ∷ [])

-- ---- the call: the ranges' first rows and last rows from the start of the lists on; on a refusal nothing is written
abbrev pub compared : ℕ → ℕ → Compared
compared e ranges = record { number = e; ranges = ranges }

pub record Compare : Type 0 where
  pub answer : Compared
  pub firsts : List ℕ
  pub lasts : List ℕ

unfoldable pub compare_by : ℕ → List Range → List ℕ → List ℕ → Compare
compare_by zero rs firsts lasts = record {
  answer = compared 0 (length rs);
  firsts = over firsts 0 (map (λ (r : Range). r.first) rs);
  lasts = over lasts 0 (map (λ (r : Range). r.last) rs);
}
compare_by (suc e) rs firsts lasts = record { answer = compared (suc e) 0; firsts = firsts; lasts = lasts }

abbrev pub compare : Descriptor → List ℕ → Descriptor → List ℕ → List ℕ → List ℕ → Compare
compare a x b y firsts lasts = compare_by (compare_number a x b y (length firsts) (length lasts)) (ranges_between a x b y) firsts lasts
