-- 01, "Building": a list of rows, appended one after the other; what ought to be answered, and which lent areas are long enough for all of it, from the
-- list alone. Assumes nothing.
use Rattle.std.specs.Prelude.{ℕ, ◌≤◌, ◌≡◌, ◌⊎◌, Bool, true, false, cond, not, ◌&&◌, List, [], ◌∷◌, ◌++◌, map, ltb, eqb, ℤ, length, drop}
use Rattle.limits.specs.Refusals.{ITEM, LIMIT, ROOM}
use Rattle.encode.specs.declared.Kind.{Kind}
use Rattle.encode.specs.declared.Kind.TheVariants.{Fixed, Char, Blob}
use Rattle.plain.specs.Rows.{Row, row_of, fits}
use Rattle.plain.specs.Plain.{joined, item_of}
use Rattle.nullable.specs.Nullable.{bitmap_length}
use Rattle.rle.specs.RunLength.{Run, runs_of}
use Rattle.dict.specs.Dictionary.{entries_of}
use Rattle.format.specs.declared.Encoding.{Encoding}
use Rattle.format.specs.declared.Encoding.TheVariants.{Plain, Nullable, RunLength, RunLengthNullable, Dictionary}
use Rattle.format.specs.Sizes.{run_rows, keys_of, within_limits, accepted}
use Rattle.builder.specs.declared.Builder.{Builder}
use Rattle.needs.specs.Needs.{flagged, keyed}
use Rattle.append.specs.Appending.{Lent}
use Rattle.builder.specs.Building.{Append, append_of, appended}
use Rattle.builder.specs.Finishing.{Finish, finish_of}

-- ---- the calls
-- what one append is given: whether the row is present, its integer and its bytes
pub record Given : Type 0 where
  pub present : Bool
  pub value : ℤ
  pub text : List ℕ

unfoldable pub row_in : Kind → Given → Row
row_in k g = row_of k g.present g.value g.text

abbrev pub rows_in : Kind → List Given → List Row
rows_in k gs = map (row_in k) gs

-- the calls go on unless one is refused
unfoldable pub onward : Append → (Builder → Lent → Append) → Append
onward x rest = cond (eqb x.answer.number 0) (rest x.answer.builder x.areas) x

-- one after the other; the answer is that of the first refusal, or 0 with the builder and the areas at the end
unfoldable pub append_all : Builder → Lent → List Given → Append
append_all r a [] = append_of 0 r a
append_all r a (g ∷ gs) = onward (appended r a g.present g.value g.text) (λ s b. append_all s b gs)

-- ---- a list is accepted, appended row by row, if each row fits its kind and each prefix stays within the limits; `row-by-row` says that this is `accepted`
unfoldable pub accepted_after : Kind → Encoding → List Row → List Row → Bool
accepted_after k e done [] = true
accepted_after k e done (r ∷ rows) = fits k r && within_limits k e (done ++ (r ∷ [])) && accepted_after k e (done ++ (r ∷ [])) rows

-- ---- what ought to be answered: 2 for the first row that does not fit, or 3 for the first whose prefix passes a limit; 2 before 3, and 0 if none is
unfoldable pub verdict_after : Kind → Encoding → List Row → List Row → ℕ
verdict_after k e done [] = 0
verdict_after k e done (x ∷ rows) =
    cond (not (fits k x)) ITEM
    (cond (not (within_limits k e (done ++ (x ∷ [])))) LIMIT
    (verdict_after k e (done ++ (x ∷ [])) rows))

unfoldable pub verdict : Kind → Encoding → List Row → ℕ
verdict k e rows = verdict_after k e [] rows

-- what a verdict v other than 0 says of the list: all rows before some row are accepted, and v is 2 if that row does not fit, or 3 if it fits and a limit is
-- passed with it
pub record FirstRefused (k : Kind) (e : Encoding) (rows : List Row) (v : ℕ) : Type 0 where
  pub before : List Row
  pub row : Row
  pub behind : List Row
  pub whole : rows ≡ before ++ (row ∷ behind)
  pub taken : accepted k e before ≡ true
  pub why : ((v ≡ ITEM) × (fits k row ≡ false)) ⊎ ((v ≡ LIMIT) × (fits k row ≡ true) × (within_limits k e (before ++ (row ∷ [])) ≡ false))

-- what finish ought to answer, with the block and the room that it is lent: 4 if the room is shorter; else the block's length, and from the room's start on
-- the block, with what lies behind it as it was; the builder goes back as it was given
unfoldable pub finish_due : Builder → List ℕ → List ℕ → Finish
finish_due r block out =
    cond (ltb (length out) (length block)) (finish_of ROOM 0 r out)
    (finish_of 0 (length block) r (block ++ drop (length block) out))

-- ---- what the block of the list stores
-- the items: the rows, one a run, or the entries
unfoldable pub stored_rows : Encoding → List Row → List Row
stored_rows Plain rows = rows
stored_rows Nullable rows = rows
stored_rows RunLength rows = run_rows rows
stored_rows RunLengthNullable rows = run_rows rows
stored_rows Dictionary rows = entries_of rows

-- the runs, of the rows or of the keys
unfoldable pub stored_runs : Encoding → List Row → List Run
stored_runs Plain rows = []
stored_runs Nullable rows = []
stored_runs RunLength rows = runs_of rows
stored_runs RunLengthNullable rows = runs_of rows
stored_runs Dictionary rows = runs_of (keys_of rows)

-- ---- areas that are long enough
-- one u32 slot a blob item; one length byte a stored char item
unfoldable pub end_slots : Kind → ℕ → ℕ
end_slots (Fixed p) n = 0
end_slots (Char w) n = 0
end_slots (Blob text) n = n

unfoldable pub len_slots : Kind → ℕ → ℕ
len_slots (Fixed p) n = 0
len_slots (Char w) n = n
len_slots (Blob text) n = 0

-- the item bytes stored; those slots; one byte per eight flags, rounded up, in encodings 1 and 3; one slot a run; one i32 slot a key run
pub record Enough (k : Kind) (e : Encoding) (rows : List Row) (a : Lent) : Type 0 where
  pub items : length (joined (item_of k) (stored_rows e rows)) ≤ length a.items
  pub ends : end_slots k (length (stored_rows e rows)) ≤ length a.ends
  pub flags : cond (flagged e) (bitmap_length (length (stored_rows e rows))) 0 ≤ length a.flags
  pub counts : length (stored_runs e rows) ≤ length a.counts
  pub keys : cond (keyed e) (length (stored_runs e rows)) 0 ≤ length a.keys
  pub lens : len_slots k (length (stored_rows e rows)) ≤ length a.lens
