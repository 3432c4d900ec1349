-- A builder and its lent areas that stand as a list of appended rows left them: at creation, and after each append. Assumes nothing.
use Rattle.std.specs.Prelude.{Some}
use Prim.Native.Nat.{ℕ}
use mathlib.Core.Bool.{true, false, cond, not}
use mathlib.Core.List.{List, [], ◌∷◌, ◌++◌}
use mathlib.Core.Path.{◌≡◌, refl}
use Rattle.limits.specs.Refusals.{ITEM, LIMIT, ROOM}
use Rattle.encode.specs.declared.Kind.{Kind}
use Rattle.encode.specs.declared.Kind.TheVariants.{Fixed, Char, Blob}
use Rattle.plain.specs.Rows.{Row, fits}
use Rattle.plain.specs.Plain.{joined, places, ends_from}
use Rattle.nullable.specs.Nullable.{presence}
use Rattle.rle.specs.RunLength.{runs_of, counts_of}
use Rattle.dict.specs.Dictionary.{entries_after, entries_of}
use Rattle.format.specs.declared.Encoding.{Encoding}
use Rattle.format.specs.declared.Encoding.TheVariants.{Plain, Nullable, RunLength, RunLengthNullable, Dictionary}
use Rattle.format.specs.Blocks.{column_of, column}
use Rattle.format.specs.Sizes.{run_rows, keys_of, stored_entries, within_limits}
use Rattle.format.proofs.Within.{none_within, within-told}
use Rattle.builder.specs.declared.Builder.{Builder}
use Rattle.encode.proofs.Bools.{or-none}
use Rattle.needs.specs.Needs.{record_wrong, too_short, disagree}
use Rattle.step.specs.Counting.{next_of}
use Rattle.append.specs.Appending.{Lent, room_of, added_to, added_with, added_by, added}
use Rattle.builder.specs.Building.{none_counted, empty, counting, append_with, appended_in, appended}
use Rattle.building_laws.specs.Built.{Given, row_in, stored_rows, stored_runs, Enough}
use Rattle.building_laws.proofs.Runs.{last_run}
use Rattle.building_laws.proofs.OneRowMore.{enough-before}
use Rattle.building_laws.proofs.Records.{Recorded, next_by, recorded-next, past-limits, record-right, room-enough}
use Rattle.building_laws.proofs.AreasOfRows.{EndsHeld, LensHeld, Holds, written_by, holds-next}
use Rattle.building_laws.proofs.StepOfRow.{step-told}

pub record Stands (k : Kind) (e : Encoding) (target key : ℕ) (xs : List Row) (r : Builder) (a : Lent) : Type 0 where
  pub column : column_of r.kind r.encoding r.width ≡ Some (column k e)
  pub aim : r.target ≡ target
  pub key_aim : r.keytarget ≡ key
  pub recorded : Recorded k e xs r.counted
  pub holds : Holds k e xs a
  pub within : within_limits k e xs ≡ true

-- ---- at creation
pub no_items : (e : Encoding) → stored_rows e [] ≡ []
unfolding stored_rows run_rows runs_of entries_of entries_after
no_items Plain = refl
no_items Nullable = refl
no_items RunLength = refl
no_items RunLengthNullable = refl
no_items Dictionary = refl

pub no-runs : (e : Encoding) → stored_runs e [] ≡ []
unfolding stored_runs runs_of keys_of
no-runs Plain = refl
no-runs Nullable = refl
no-runs RunLength = refl
no-runs RunLengthNullable = refl
no-runs Dictionary = refl

no-entries : (e : Encoding) → stored_entries e [] ≡ 0
unfolding stored_entries entries_of entries_after
no-entries Plain = refl
no-entries Nullable = refl
no-entries RunLength = refl
no-entries RunLengthNullable = refl
no-entries Dictionary = refl

none-held : (k : Kind) (es ls : List ℕ) → EndsHeld k [] es × LensHeld k [] ls
unfolding ends_from
none-held (Fixed p) es ls = (tt, tt)
none-held (Char w) es ls = (tt, refl)
none-held (Blob text) es ls = (refl, tt)

module _ (k : Kind) (e : Encoding) where
  none-recorded : Recorded k e [] none_counted
  unfolding last_run counts_of joined presence
  none-recorded = record {
    rows = refl;
    runs = rw (no-runs e);
    entries = rw (no-entries e);
    bytes = rw (no_items e);
    last = rw (no-runs e);
    null = λ u. rw (no-runs e);
    counts = rw (no-runs e);
  }

  none-holds : (a : Lent) → Holds k e [] a
  unfolding joined places
  none-holds a = record {
    items = rw (no_items e);
    ends = rw (no_items e) (none-held k a.ends a.lens).0;
    flags = λ u. rw (no_items e);
    counts = rw (no-runs e);
    keys = λ u. rw (no-runs e);
    lens = rw (no_items e) (none-held k a.ends a.lens).1;
    fit = rw (no_items e) tt;
    keys_fit = λ u. rw (no-runs e) tt;
  }

  pub stands-first : (kind encoding width target key : ℕ) → column_of kind encoding width ≡ Some (column k e) → (a : Lent) → Stands k e target key [] (empty kind encoding width target key) a
  stands-first kind encoding width target key c a = record { column = c; aim = refl; key_aim = refl; recorded = none-recorded; holds = none-holds a; within = none_within k e }

-- ---- one append
module _ (k : Kind) (e : Encoding) (target key : ℕ) (rows : List Row) (r : Builder) (a : Lent) (g : Stands k e target key rows r a) where
  pub not-wrong : record_wrong k e r.counted ≡ false
  not-wrong = record-right k e rows r.counted g.recorded g.holds.fit g.within

  pub agreed : Enough k e rows a → disagree k e r.counted (room_of a) ≡ false
  unfolding disagree
  agreed room = or-none not-wrong (room-enough k e rows r.counted a g.recorded room)

  module _ (x : Row) where
    pub next-recorded : Recorded k e (rows ++ (x ∷ [])) (next_by k e rows x r.counted)
    next-recorded = recorded-next k e rows x r.counted g.recorded

    -- into areas that are long enough for the rows so far
    pub append-by-needs : Enough k e rows a
        → added k e r.counted a x
        ≡ cond (not (fits k x)) (added_to (next_of ITEM r.counted) a)
        (cond (not (within_limits k e (rows ++ (x ∷ [])))) (added_to (next_of LIMIT r.counted) a)
        (cond (too_short k e (next_by k e rows x r.counted) (room_of a)) (added_to (next_of ROOM r.counted) a)
        (added_to (next_of 0 (next_by k e rows x r.counted)) (written_by k e rows x r.counted a))))
    unfolding added added_by added_with
    append-by-needs room =
        rw (
          agreed room,
          step-told k e rows r.counted a x g.recorded g.holds,
          past-limits k (rows ++ (x ∷ [])) (next_by k e rows x r.counted) e next-recorded,
        )

    -- into areas that are long enough for the row too
    module _ (room : Enough k e (rows ++ (x ∷ [])) a) where
      pub append-told :
          added k e r.counted a x
          ≡ cond (not (fits k x)) (added_to (next_of ITEM r.counted) a)
          (cond (not (within_limits k e (rows ++ (x ∷ [])))) (added_to (next_of LIMIT r.counted) a)
          (added_to (next_of 0 (next_by k e rows x r.counted)) (written_by k e rows x r.counted a)))
      append-told =
          rw (
            append-by-needs (enough-before k e rows x a room),
            room-enough k e (rows ++ (x ∷ [])) (next_by k e rows x r.counted) a next-recorded room,
          )

      pub stands-next : fits k x ≡ true → within_limits k e (rows ++ (x ∷ [])) ≡ true
          → Stands k e target key (rows ++ (x ∷ [])) (counting r (next_by k e rows x r.counted)) (written_by k e rows x r.counted a)
      stands-next f w = record {
        column = g.column;
        aim = g.aim;
        key_aim = g.key_aim;
        recorded = next-recorded;
        holds = holds-next k e rows x r.counted a g.recorded room g.holds f (within-told k e rows g.within).entries;
        within = w;
      }

  -- of a row as it is given
  pub given-told : (v : Given) → appended r a v.present v.value v.text ≡ append_with r (added k e r.counted a (row_in k v))
  unfolding appended appended_in row_in
  given-told v = rw g.column
