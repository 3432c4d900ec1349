-- A dictionary whose keys have the target 0, the nightly importer's: should_finish is as it was before there were key targets, and says yes exactly if there
-- is a row. Assumes nothing.
use Prim.Native.Nat.{ℕ, ◌+◌, ◌*◌, ◌<◌}
use native.Mathlib.Omega.{arith}
use mathlib.Core.Bool.{Bool, true, false, ◌||◌}
use mathlib.Core.List.{List, [], ◌∷◌, map}
use mathlib.Core.Path.{◌≡◌, refl, sym, ◌∙◌}
use lib.Dec.{ltb}
use lib.ListN.{length}
use borrow.Author.Tests.{lt-ltb, ne_eqb}
use Rattle.encode.specs.declared.Kind.{Kind}
use Rattle.encode.specs.declared.Kind.TheVariants.{Fixed, Char, Blob}
use Rattle.plain.specs.Rows.{Row, null}
use Rattle.plain.specs.Plain.{joined, ends_from, plain_of}
use Rattle.rle.specs.RunLength.{runs_of}
use Rattle.dict.specs.Dictionary.{i32, entries_after, entries_of, key_of}
use Rattle.format.specs.declared.Encoding.{Encoding}
use Rattle.format.specs.declared.Encoding.TheVariants.{Plain, Nullable, RunLength, RunLengthNullable, Dictionary}
use Rattle.format.specs.Sizes.{run_rows, keys_of, plain_size, next_size, full_with, plain_full, should_finish}
use Rattle.building_laws.specs.Cut.{former_should_finish}
use Rattle.building_laws.proofs.Finishing.{key-size}
use Rattle.building_laws.proofs.Measures.{runs-some}

-- no entries are no bytes
none-estimated : (k : Kind) → plain_size k [] ≡ 0
unfolding plain_size plain_of joined ends_from
none-estimated (Fixed p) = refl
none-estimated (Char w) = refl
none-estimated (Blob text) = refl

pub as_before : (k : Kind) (e : Encoding) (target : ℕ) (rows : List Row) (next : Row) → should_finish k e target 0 rows next ≡ former_should_finish k e target rows next
unfolding should_finish former_should_finish
as_before k Plain target rows next = refl
as_before k Nullable target rows next = refl
as_before k RunLength target rows next = refl
as_before k RunLengthNullable target rows next = refl
as_before k Dictionary target rows next = rw (none-estimated k)

-- rows have a run of keys, and one key passes the target 0
some_runs : (x : Row) (xs : List Row) → 0 < length (runs_of (keys_of (x ∷ xs)))
unfolding keys_of runs_of
some_runs x xs = runs-some (key_of (entries_of (x ∷ xs)) x) 1 (map (key_of (entries_of (x ∷ xs))) xs)

some-keys-pass : (x : Row) (xs : List Row) → plain_full i32 0 (run_rows (keys_of (x ∷ xs))) null ≡ true
unfolding plain_full full_with next_size plain_size plain_of
some-keys-pass x xs =
    let n : ℕ = length (runs_of (keys_of (x ∷ xs))) in
    let some : 0 < n = some_runs x xs in
    rw (key-size (x ∷ xs), ne_eqb (4 * n) 0 (λ (z : 4 * n ≡ 0). omega (arith, z, some)), lt-ltb 0 (4 * n + 4) (omega arith))

or-last : (x : Bool) {y : Bool} → y ≡ true → (x || y) ≡ true
or-last true h = refl
or-last false h = h

pub cut-after-each-row : (k : Kind) (target : ℕ) (rows : List Row) (next : Row) → should_finish k Dictionary target 0 rows next ≡ ltb 0 (length rows)
unfolding should_finish plain_full full_with run_rows keys_of runs_of entries_of entries_after joined
cut-after-each-row k target [] next = refl
cut-after-each-row k target (x ∷ xs) next = or-last (plain_full k target (entries_of (x ∷ xs)) next) (some-keys-pass x xs) ∙ sym (lt-ltb 0 (length (x ∷ xs)) (omega arith))
