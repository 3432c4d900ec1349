-- 01's samples A to E, built row by row from creation on and finished, by the definitions. Assumes nothing.
use Prim.Native.Nat.{ℕ}
use mathlib.Core.Bool.{Bool, true, false}
use mathlib.Core.Path.{◌≡◌, refl}
use mathlib.Core.List.{List, [], ◌∷◌}
use lib.IntN.{pos, negsuc}
use lib.ListN.{take, replicate}
use Rattle.plain.specs.Rows.{Row, null, int, bytes, int_in, bytes_in, interval}
use Rattle.append.specs.Appending.{Lent, lent}
use Rattle.builder.specs.declared.Builder.{Builder}
use Rattle.std.specs.Prelude.{Result, Ok, Err}
use Rattle.builder.specs.Building.{Append, append_of, created, appended}
use Rattle.builder.specs.Finishing.{Finish, finish_of, finished, estimated}
use Rattle.varint.specs.Varint as Varint
use Rattle.utf8.specs.Utf8 as Utf8
use Rattle.plain.specs.Rows as Rows
use Rattle.plain.specs.Plain as Plain
use Rattle.nullable.specs.Nullable as Nullable
use Rattle.dict.specs.Dictionary as Dictionary
use Rattle.format.specs.Blocks as Blocks
use Rattle.encode.specs.Kinds as Kinds
use Rattle.area.specs.Area as Area
use Rattle.lookup.specs.Held as Held
use Rattle.slots.specs.Slots as Slots
use Rattle.emit.specs.Parts as Parts
use Rattle.needs.specs.Needs as goal
use Rattle.sizes.specs.Sizes as Sizes
use Rattle.step.specs.Steps as Steps
use Rattle.step.specs.Counting as Counting
use Rattle.append.specs.Appending as Appending
use Rattle.builder.specs.Building as Building
use Rattle.builder.specs.Finishing as Finishing

-- lent memory that holds anything
abbrev room : Lent
room = lent (replicate 16 9) (replicate 4 9) (replicate 2 255) (replicate 4 9) (replicate 4 (pos 9)) (replicate 4 9)

unfoldable is_present : Row → Bool
is_present null = false
is_present (int v) = true
is_present (bytes bs) = true

unfoldable append : Append → List Row → Append
append s [] = s
append s (row ∷ rows) = append (appended s.answer.builder s.areas (is_present row) (int_in row) (bytes_in row)) rows

unfoldable build : Result Builder ℕ → List Row → Append
build (Err e) rows = append_of e (Building.empty 255 0 0 0 0) room
build (Ok r) rows = append (append_of 0 r room) rows

unfoldable finish : Append → Finish
finish s = finished s.answer.builder s.areas (replicate 60 9)

-- the last append is done, and the finished block and the estimated size are these
abbrev Builds : ℕ → ℕ → ℕ → List Row → List ℕ → ℕ → Type 0
Builds kind encoding width rows block size =
    ((build (created kind encoding width 0 0) rows).answer.number ≡ 0)
    × ((finish (build (created kind encoding width 0 0) rows)).answer.number ≡ 0)
    × (take (finish (build (created kind encoding width 0 0) rows)).answer.len (finish (build (created kind encoding width 0 0) rows)).out ≡ block)
    × ((estimated (build (created kind encoding width 0 0) rows).answer.builder).size ≡ size)

-- ---- the samples: kind, encoding, width and rows; the block and the estimated size
abbrev SampleA : Type 0
SampleA =
    Builds 2 2 0 (int (pos 7) ∷ int (pos 7) ∷ int (pos 7) ∷ int (negsuc 0) ∷ [])
    (0x02 ∷ 0x00 ∷ 0x00 ∷ 0x00 ∷ 0x02 ∷ 0x00 ∷ 0x00 ∷ 0x00 ∷ 0x03 ∷ 0x01 ∷ 0x07 ∷ 0x00 ∷ 0x00 ∷ 0x00 ∷ 0xff ∷ 0xff ∷ 0xff ∷ 0xff ∷ []) 16

abbrev SampleB : Type 0
SampleB =
    Builds 9 4 0 (bytes (0x61 ∷ 0x62 ∷ []) ∷ null ∷ bytes (0x61 ∷ 0x62 ∷ []) ∷ bytes (0x63 ∷ []) ∷ [])
    (0x00 ∷ 0x00 ∷ 0x00 ∷ 0x00 ∷ 0x00 ∷ 0x00 ∷ 0x00 ∷ 0x1c ∷ 0x00 ∷ 0x00 ∷ 0x00 ∷ 0x02 ∷ 0x04 ∷ 0x00 ∷ 0x00 ∷ 0x00 ∷ 0x04 ∷ 0x00 ∷ 0x00 ∷
    0x00 ∷ 0x01 ∷ 0x01 ∷ 0x01 ∷ 0x01 ∷ 0x01 ∷ 0x00 ∷ 0x00 ∷ 0x80 ∷ 0x00 ∷ 0x00 ∷ 0x00 ∷ 0x80 ∷ 0x01 ∷ 0x00 ∷ 0x00 ∷ 0x80 ∷ 0x02 ∷ 0x00 ∷ 0x00 ∷
    0x80 ∷ 0x02 ∷ 0x00 ∷ 0x00 ∷ 0x00 ∷ 0x03 ∷ 0x00 ∷ 0x00 ∷ 0x00 ∷ 0x61 ∷ 0x62 ∷ 0x63 ∷ []) 47

abbrev SampleC : Type 0
SampleC =
    Builds 1 1 0 (int (pos 5) ∷ null ∷ int (negsuc 1) ∷ [])
    (0x05 ∷ 0x00 ∷ 0x00 ∷ 0x00 ∷ 0xfe ∷ 0xff ∷ 0x05 ∷ 0x01 ∷ 0x00 ∷ 0x00 ∷ 0x00 ∷ []) 7

abbrev SampleD : Type 0
SampleD =
    Builds 8 0 3 (bytes (0x61 ∷ []) ∷ bytes (0x61 ∷ 0x62 ∷ 0x63 ∷ []) ∷ bytes (0x78 ∷ 0x00 ∷ 0x79 ∷ []) ∷ [])
    (0x61 ∷ 0x00 ∷ 0x00 ∷ 0x61 ∷ 0x62 ∷ 0x63 ∷ 0x78 ∷ 0x00 ∷ 0x79 ∷ []) 9

abbrev SampleEDate : Type 0
SampleEDate =
    Builds 4 0 0 (int (pos 1) ∷ [])
    (0x00 ∷ 0x00 ∷ 0x00 ∷ 0x01 ∷ []) 4

abbrev SampleEInterval : Type 0
SampleEInterval =
    Builds 7 0 0 (int (interval (pos 14) (negsuc 2)) ∷ [])
    (0x00 ∷ 0x00 ∷ 0x00 ∷ 0x0e ∷ 0xff ∷ 0xff ∷ 0xff ∷ 0xfd ∷ []) 8

abbrev SampleAChar : Type 0
SampleAChar =
    Builds 8 2 2 (bytes (0x61 ∷ []) ∷ bytes (0x61 ∷ 0x00 ∷ []) ∷ null ∷ bytes [] ∷ [])
    (0x04 ∷ 0x00 ∷ 0x00 ∷ 0x00 ∷ 0x04 ∷ 0x00 ∷ 0x00 ∷ 0x00 ∷ 0x01 ∷ 0x01 ∷ 0x01 ∷ 0x01 ∷ 0x61 ∷ 0x00 ∷ 0x61 ∷ 0x00 ∷ 0x00 ∷ 0x00 ∷ 0x00 ∷
    0x00 ∷ []) 20

-- each is built so
samples : SampleA × SampleB × SampleC × SampleD × SampleEDate × SampleEInterval × SampleAChar
unfolding is_present append build finish Varint.spell_within Varint.spelling
    Rows.value_of Rows.row_of Rows.int_in Rows.bytes_in Rows.fits Utf8.is_text Utf8.after Rows.same_int Rows.same_bytes Rows.same
    Plain.joined Plain.places Plain.item_of Plain.fixed_at Nullable.bitmap_length Nullable.presence Dictionary.null_key Dictionary.entry_key
    Blocks.with_encoding Blocks.column_of Kinds.numbered Kinds.kind_of Area.over
    goal.coded goal.flagged goal.keyed goal.stored_by goal.plain_bytes goal.inner_bytes goal.run_bytes goal.finished_bytes
    goal.counts_past goal.past_limits goal.bytes_wrong goal.record_wrong goal.fields_short goal.runs_short goal.too_short goal.disagree
    Held.item_start Held.held_row Held.field_wrong Held.look_from Held.look_up
    Steps.run_open Steps.row_before Steps.joins_run Steps.run_step Steps.joins_key Steps.entry_step Steps.key_step Steps.step_of
    Counting.growth Counting.grown Slots.ends_with Slots.lens_with Slots.with_bit Slots.flags_with Slots.counts_with
    Appending.room_of Appending.laid Appending.added_with Appending.added_by Appending.added
    Building.created_in Building.created Building.appended_in Building.appended
    Parts.held_plain Parts.held_byte Parts.held_bitmap Parts.held_inner Parts.held_dictionary Parts.held_counts Parts.held_runs Parts.held_keys
    Finishing.held_block Finishing.finished_with Finishing.finished_in Finishing.finished Finishing.estimated_in Finishing.estimated
    Sizes.inner_size Sizes.run_size Sizes.size_by
samples = (
  (refl, refl, refl, refl),
  (refl, refl, refl, refl),
  (refl, refl, refl, refl),
  (refl, refl, refl, refl),
  (refl, refl, refl, refl),
  (refl, refl, refl, refl),
  (refl, refl, refl, refl),
)
