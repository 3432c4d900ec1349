-- 01, "Reading", and 02 (iv) and (vii): opening, read and remaining as functions of the record, the arguments, the block and what the lent areas hold, for every
-- record and every block. What is read is said row by row; anatomy has the tests of the numbers at a block's head, and fill the lent areas. Assumes nothing.
use Rattle.std.specs.Prelude.{Result, Ok, Err, ℕ, zero, suc, ◌+◌, ◌-◌, min, Bool, cond, not, ◌&&◌, ◌||◌, List, map, ltb, eqb, length, Option, Some, None}
use Rattle.limits.specs.Limits.{MOST_BYTES}
use Rattle.limits.specs.Refusals.{ROOM, NO_ROWS, TOO_FAR, DISAGREE}
use Rattle.encode.specs.declared.Kind.{Kind}
use Rattle.zeros.specs.Zeros.{zeros_in}
use Rattle.plain.specs.Rows.{Row}
use Rattle.plain.specs.Plain.{all_of, places}
use Rattle.nullable.specs.Nullable.{presence}
use Rattle.rle.specs.declared.Spot.{Spot}
use Rattle.rle.specs.Stepping.{spot, Steps, stuck, rows, steps_from}
use Rattle.format.specs.declared.Encoding.{Encoding}
use Rattle.format.specs.declared.Encoding.TheVariants.{Plain, Nullable, RunLength, RunLengthNullable, Dictionary}
use Rattle.format.specs.declared.Column.{Column}
use Rattle.format.specs.declared.Head.{Head}
use Rattle.format.specs.Blocks.{column_of}
use Rattle.format.specs.Opening.{head, head_of, counts_in, row_at, most_rows, open_number}
use Rattle.anatomy.specs.Tests.{part_outside, head_wrong, row_good}
pub use Rattle.fill.specs.Areas.{Areas, areas}
unfoldable pub use Rattle.fill.specs.Areas.{is_bytes, short, filled_in, given_bytes}
use Rattle.block.specs.declared.Reader.{Reader}
use Rattle.block.specs.declared.Opening.{Opening}
use Rattle.block.specs.declared.Given.{Given}
use Rattle.block.specs.declared.Left.{Left}

-- ---- opening
-- a reader before the first row
abbrev pub reader_at : ℕ → ℕ → ℕ → ℕ → ℕ → Head → Reader
reader_at kind encoding width n len h = record {
  kind = kind;
  encoding = encoding;
  width = width;
  rows = n;
  len = len;
  head = h;
  place = 0;
  spot = spot 0 0 0;
  nulls = 0;
}

unfoldable pub head_in : Option Column → List ℕ → Head
head_in None b = head 0 0 0 0
head_in (Some c) b = head_of c.encoding b

unfoldable pub opened_by : ℕ → Reader → Result Reader ℕ
opened_by zero r = Ok r
opened_by (suc e) r = Err (suc e)

unfoldable pub opened : ℕ → ℕ → ℕ → ℕ → List ℕ → Result Reader ℕ
opened kind encoding width n b =
    opened_by (open_number kind encoding width n b) (reader_at kind encoding width n (length b) (head_in (column_of kind encoding width) b))

-- The record beside a refused opening: no kind has the number 255, so every call refuses it as 9, but for a read that asks for nothing, which is 6.
abbrev pub no_reader : Reader
no_reader = reader_at 255 0 0 0 0 (head 0 0 0 0)

-- the answer of opening as a number and a record
unfoldable pub opening_of : Result Reader ℕ → Opening
opening_of (Ok r) = record { number = 0; reader = r }
opening_of (Err e) = record { number = e; reader = no_reader }

-- ---- the record contradicts itself
unfoldable pub wrong : Kind → Encoding → Reader → Bool
wrong k e r =
    ltb MOST_BYTES r.len
    || ltb (most_rows e) r.rows
    || ltb r.rows r.place
    || ltb r.place r.nulls
    || head_wrong e r.head r.spot.run
    || part_outside k e r.rows r.len r.head

-- ---- the next rows: of each the stored item or the run that it lies in
unfoldable pub next_steps : Encoding → Reader → List ℕ → ℕ → Steps
next_steps Plain r b n = rows (places n r.place) r.spot
next_steps Nullable r b n = rows (places n r.place) r.spot
next_steps RunLength r b n = steps_from r.head.runs (counts_in RunLength r.head b) n r.spot
next_steps RunLengthNullable r b n = steps_from r.head.runs (counts_in RunLengthNullable r.head b) n r.spot
next_steps Dictionary r b n = steps_from r.head.runs (counts_in Dictionary r.head b) n r.spot

-- the reader behind n rows
abbrev pub moved : Reader → ℕ → Spot → Reader
moved r n t = record {
  kind = r.kind;
  encoding = r.encoding;
  width = r.width;
  rows = r.rows;
  len = r.len;
  head = r.head;
  place = r.place + n;
  spot = t;
  nulls = r.nulls;
}

-- and with so many nulls more among those that it gave
abbrev pub counted : Reader → ℕ → Reader
counted r n = record {
  kind = r.kind;
  encoding = r.encoding;
  width = r.width;
  rows = r.rows;
  len = r.len;
  head = r.head;
  place = r.place;
  spot = r.spot;
  nulls = r.nulls + n;
}

-- ---- remaining: from the record alone, which goes back as it was given
abbrev pub left : ℕ → ℕ → Reader → Left
left e n r = record { number = e; rows = n; reader = r }

unfoldable pub remaining_in : Option Column → Reader → Left
remaining_in None r = left DISAGREE 0 r
remaining_in (Some c) r = cond (wrong c.kind c.encoding r) (left DISAGREE 0 r) (left 0 (r.rows - r.place) r)

unfoldable pub remaining : Reader → Left
remaining r = remaining_in (column_of r.kind r.encoding r.width) r

-- ---- read: passes over rows, then gives up to so many of those behind them
-- what a read comes to: its answer, and what the lent areas then hold
pub record Batch : Type 0 where
  pub answer : Given
  pub areas : Areas

abbrev pub refused_batch : ℕ → Reader → Areas → Batch
refused_batch e r a = record { answer = record { number = e; rows = 0; bytes = 0; reader = r }; areas = a }

-- the nulls among some rows: their flags are 0
unfoldable pub nulls_in : List Row → ℕ
nulls_in rs = zeros_in (map presence rs)

-- rows given: 4 if the room is too short for all of them; the nulls among them are counted
unfoldable pub give : Kind → Reader → List Row → Spot → Areas → Batch
give k r rs t a =
    cond (short k rs a) (refused_batch ROOM r a)
    (record {
      answer = record { number = 0; rows = length rs; bytes = given_bytes k rs; reader = counted (moved r (length rs) t) (nulls_in rs) };
      areas = filled_in k rs a;
    })

-- of rows given the counts, the blob ends and the keys are looked at, all of it before the room
unfoldable pub batch_of : Kind → Encoding → Reader → List ℕ → Areas → Steps → Batch
batch_of k e r b a stuck = refused_batch DISAGREE r a
batch_of k e r b a (rows is t) =
    cond (all_of (row_good k e r.rows r.head b) is) (give k r (map (row_at k e r.rows r.head b) is) t a) (refused_batch DISAGREE r a)

-- up to `size` of the rows that remain
unfoldable pub up_to : Kind → Encoding → Reader → List ℕ → ℕ → Areas → Batch
up_to k e r b size a = batch_of k e r b a (next_steps e r b (min size (r.rows - r.place)))

-- whole or not at all: a refusal hands back the reader and the areas that the call was given
unfoldable pub whole : Reader → Areas → Batch → Batch
whole r a x = cond (eqb x.answer.number 0) x (refused_batch x.answer.number r a)

-- of rows passed over the counts alone are looked at
unfoldable pub pass_then : Kind → Encoding → Reader → List ℕ → ℕ → ℕ → Areas → Steps → Batch
pass_then k e r b skip size a stuck = refused_batch DISAGREE r a
pass_then k e r b skip size a (rows is t) = whole r a (up_to k e (moved r skip t) b size a)

-- 6; 9 for the length and the record; 7; 9 for the fields; 4
unfoldable pub read_in : Option Column → Reader → List ℕ → ℕ → ℕ → Areas → Batch
read_in None r b skip size a = refused_batch DISAGREE r a
read_in (Some c) r b skip size a =
    cond (not (eqb (length b) r.len) || wrong c.kind c.encoding r) (refused_batch DISAGREE r a)
    (cond (ltb (r.rows - r.place) skip) (refused_batch TOO_FAR r a)
    (pass_then c.kind c.encoding r b skip size a (next_steps c.encoding r b skip)))

-- a read that asks for nothing: no rows passed over, and none given
abbrev pub asks_nothing : ℕ → ℕ → Bool
asks_nothing skip size = eqb skip 0 && eqb size 0

unfoldable pub read : Reader → List ℕ → ℕ → ℕ → Areas → Batch
read r b skip size a =
    cond (asks_nothing skip size) (refused_batch NO_ROWS r a)
    (read_in (column_of r.kind r.encoding r.width) r b skip size a)
