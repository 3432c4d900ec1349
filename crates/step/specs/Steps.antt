-- 01, "Building": what append finds for its row, as a function of what is counted, the row and what the lent areas hold, for any numbers and all memory.
-- Assumes nothing.
use Rattle.std.specs.Prelude.{ℕ, ◌-◌, Option, Some, None, Bool, true, false, cond, not, ◌&&◌, List, ltb, eqb, ℤ, pos, get_or}
use Rattle.encode.specs.declared.Kind.{Kind}
use Rattle.plain.specs.Rows.{Row, null, int, bytes, same_int, same}
use Rattle.dict.specs.Dictionary.{null_key, entry_key}
use Rattle.lookup.specs.Held.{Held, held_row, field_wrong, look_up}
use Rattle.format.specs.declared.Encoding.{Encoding}
use Rattle.format.specs.declared.Encoding.TheVariants.{Plain, Nullable, RunLength, RunLengthNullable, Dictionary}
use Rattle.needs.specs.declared.Counted.{Counted}
use Rattle.step.specs.declared.Step.{Step}
use Rattle.limits.specs.Limits.{MOST_COUNT}

-- ---- what append finds: a field that it reads is wrong, which is none; or whether the row is one stored item more, whether it joins the last run,
-- and its key
abbrev pub adds : Bool → Bool → ℤ → Option Step
adds item joins key = Some (record { stored = item; joins = joins; key = key })

-- there is a run, and it is below 4,294,967,295
unfoldable pub run_open : Counted → Bool
run_open r = ltb 0 r.runs && ltb r.last MOST_COUNT

-- encodings 2 and 3 look at the last item: the row before is that item, or a null
unfoldable pub row_before : Kind → Counted → Held → Row
row_before k r h = cond (eqb r.null 0) (held_row k h (r.runs - 1)) null

unfoldable pub joins_run : Kind → Counted → Held → Row → Bool
joins_run k r h row = run_open r && same row (row_before k r h)

unfoldable pub run_step : Kind → Counted → Held → Row → Option Step
run_step k r h row =
    cond (ltb 0 r.runs && field_wrong k r.runs r.bytes h (r.runs - 1)) None
    (adds (not (joins_run k r h row)) (joins_run k r h row) (pos 0))

-- the keys are run-length coded: the row joins the run if the last key is its own
unfoldable pub joins_key : Counted → List ℤ → ℤ → Bool
joins_key r keys key = run_open r && same_int key (get_or keys (r.runs - 1) (pos 0))

unfoldable pub entry_step : Counted → List ℤ → Option ℕ → Option Step
entry_step r keys None = None
entry_step r keys (Some i) = adds (eqb i r.entries) (joins_key r keys (entry_key i)) (entry_key i)

-- encoding 4 looks at the entries up to the first that equals the row; a row that is new becomes the next entry
unfoldable pub key_step : Kind → Counted → Held → List ℤ → Row → Option Step
key_step k r h keys null = adds false (joins_key r keys null_key) null_key
key_step k r h keys (int v) = entry_step r keys (look_up k r.entries r.bytes h (int v))
key_step k r h keys (bytes bs) = entry_step r keys (look_up k r.entries r.bytes h (bytes bs))

unfoldable pub step_of : Kind → Encoding → Counted → Held → List ℤ → Row → Option Step
step_of k Plain r h keys row = adds true false (pos 0)
step_of k Nullable r h keys row = adds true false (pos 0)
step_of k RunLength r h keys row = run_step k r h row
step_of k RunLengthNullable r h keys row = run_step k r h row
step_of k Dictionary r h keys row = key_step k r h keys row
