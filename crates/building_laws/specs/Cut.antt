-- should_finish as 01 has it, before a dictionary's keys were given a target of their own. Kept for one statement alone, `as_before`. Assumes nothing.
use Rattle.std.specs.Prelude.{ℕ, Bool, ◌||◌, List, []}
use Rattle.encode.specs.declared.Kind.{Kind}
use Rattle.plain.specs.Rows.{Row, null}
use Rattle.dict.specs.Dictionary.{i32, entries_of}
use Rattle.format.specs.declared.Encoding.{Encoding}
use Rattle.format.specs.declared.Encoding.TheVariants.{Plain, Nullable, RunLength, RunLengthNullable, Dictionary}
use Rattle.format.specs.Sizes.{run_rows, keys_of, plain_size, plain_full, nullable_full}

-- the target of a dictionary's keys was the entries' estimated size at creation
unfoldable pub former_should_finish : Kind → Encoding → ℕ → List Row → Row → Bool
former_should_finish k Plain target rows next = plain_full k target rows next
former_should_finish k Nullable target rows next = nullable_full k target rows next
former_should_finish k RunLength target rows next = plain_full k target (run_rows rows) next
former_should_finish k RunLengthNullable target rows next = nullable_full k target (run_rows rows) next
former_should_finish k Dictionary target rows next =
    plain_full k target (entries_of rows) next || plain_full i32 (plain_size k []) (run_rows (keys_of rows)) null
