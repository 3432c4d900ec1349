-- 01, "Building" and "Sizes": finish, the estimated size and should_finish as functions of the record and what the lent areas hold, for every record
-- and all memory. Each hands the record back as it was given, whether it refuses or not. Assumes nothing.
use Rattle.std.specs.Prelude.{ℕ, Result, Ok, Err, Bool, true, false, cond, List, ltb, length, Option, Some, None}
use Rattle.limits.specs.declared.refusal.Refusal.{Refusal}
use Rattle.limits.specs.Refusals.{ROOM, DISAGREE, refusal_number}
use Rattle.area.specs.Area.{over}
use Rattle.encode.specs.declared.Kind.{Kind}
use Rattle.emit.specs.Parts.{held_inner, held_runs, held_dictionary}
use Rattle.format.specs.declared.Encoding.{Encoding}
use Rattle.format.specs.declared.Encoding.TheVariants.{Plain, Nullable, RunLength, RunLengthNullable, Dictionary}
use Rattle.format.specs.declared.Column.{Column}
use Rattle.format.specs.Blocks.{column_of}
use Rattle.needs.specs.declared.Counted.{Counted}
use Rattle.needs.specs.Needs.{record_wrong, disagree}
use Rattle.sizes.specs.Sizes.{size_by, full_by}
use Rattle.append.specs.Appending.{Lent, room_of}
use Rattle.builder.specs.declared.Builder.{Builder}
use Rattle.builder.specs.declared.Finished.{Finished}
use Rattle.builder.specs.declared.Estimated.{Estimated}
use Rattle.builder.specs.declared.Asked.{Asked}

-- ---- the block that the areas hold
unfoldable pub held_block : Kind → Encoding → Counted → Lent → List ℕ
held_block k Plain r a = held_inner false k r.rows r.bytes a.items a.ends a.flags
held_block k Nullable r a = held_inner true k r.rows r.bytes a.items a.ends a.flags
held_block k RunLength r a = held_runs r.runs a.counts (held_inner false k r.runs r.bytes a.items a.ends a.flags)
held_block k RunLengthNullable r a = held_runs r.runs a.counts (held_inner true k r.runs r.bytes a.items a.ends a.flags)
held_block k Dictionary r a = held_dictionary k r.entries r.bytes r.runs a.items a.ends a.counts a.keys

-- ---- finish: 9 for the record and the areas, 4; the block is written from the room's start, and what lies behind it stays
pub record Finish : Type 0 where
  pub answer : Finished
  pub out : List ℕ

abbrev pub finish_of : ℕ → ℕ → Builder → List ℕ → Finish
finish_of e len r out = record { answer = record { number = e; len = len; builder = r }; out = out }

-- what a function answers that gives the bytes written or a refusal
abbrev pub finished_by : Builder → Result ℕ Refusal → Finished
finished_by r (Ok len) = record { number = 0; len = len; builder = r }
finished_by r (Err e) = record { number = refusal_number e; len = 0; builder = r }

unfoldable pub finished_with : Builder → List ℕ → List ℕ → Finish
finished_with r block out = cond (ltb (length out) (length block)) (finish_of ROOM 0 r out) (finish_of 0 (length block) r (over out 0 block))

unfoldable pub finished_in : Option Column → Builder → Lent → List ℕ → Finish
finished_in None r a out = finish_of DISAGREE 0 r out
finished_in (Some c) r a out =
    cond (disagree c.kind c.encoding r.counted (room_of a)) (finish_of DISAGREE 0 r out)
    (finished_with r (held_block c.kind c.encoding r.counted a) out)

unfoldable pub finished : Builder → Lent → List ℕ → Finish
finished r a out = finished_in (column_of r.kind r.encoding r.width) r a out

-- ---- the estimated size
abbrev pub estimated_as : ℕ → ℕ → Builder → Estimated
estimated_as e n r = record { number = e; size = n; builder = r }

abbrev pub estimated_by : Builder → Result ℕ Refusal → Estimated
estimated_by r (Ok n) = estimated_as 0 n r
estimated_by r (Err e) = estimated_as (refusal_number e) 0 r

unfoldable pub estimated_in : Option Column → Builder → Estimated
estimated_in None r = estimated_as DISAGREE 0 r
estimated_in (Some c) r = cond (record_wrong c.kind c.encoding r.counted) (estimated_as DISAGREE 0 r) (estimated_as 0 (size_by c.kind c.encoding r.counted) r)

unfoldable pub estimated : Builder → Estimated
estimated r = estimated_in (column_of r.kind r.encoding r.width) r

-- ---- should_finish, before a next row
abbrev pub asked_as : ℕ → Bool → Builder → Asked
asked_as e full r = record { number = e; full = full; builder = r }

abbrev pub asked_by : Builder → Result Bool Refusal → Asked
asked_by r (Ok full) = asked_as 0 full r
asked_by r (Err e) = asked_as (refusal_number e) false r

unfoldable pub asked_in : Option Column → Builder → Bool → ℕ → Asked
asked_in None r present len = asked_as DISAGREE false r
asked_in (Some c) r present len =
    cond (record_wrong c.kind c.encoding r.counted) (asked_as DISAGREE false r)
    (asked_as 0 (full_by c.kind c.encoding r.counted r.target r.keytarget present len) r)

-- of the next row whether it is present, and the length of its bytes
unfoldable pub asked : Builder → Bool → ℕ → Asked
asked r present len = asked_in (column_of r.kind r.encoding r.width) r present len
