-- Each of the six inequalities is met with equality, by a list that is accepted. Assumes nothing.
use Prim.Native.Nat.{ℕ, ◌+◌, ◌*◌}
use native.Mathlib.Omega.{arith}
use mathlib.Core.Bool.{true, ◌&&◌}
use mathlib.Core.List.{List}
use mathlib.Core.Path.{◌≡◌, refl}
use lib.Dec.{leb}
use lib.IntN.{pos}
use lib.ListN.{length, length-replicate}
use Rattle.limits.specs.Limits.{MOST_ROWS, MOST_ITEMS, MOST_ENTRIES, MOST_BYTES}
use Rattle.encode.specs.declared.Kind.{Kind}
use Rattle.varint.specs.Varint.{spell_within, spelling}
use Rattle.plain.specs.Rows.{Row, int, int_in, fits}
use Rattle.plain.specs.Plain.{joined, item_of, plain_of}
use Rattle.rle.specs.RunLength.{runs_from, runs_of, counts_of, run_length_of}
use Rattle.dict.specs.Dictionary.{with_entry, entries_after, entries_of, null_key, key_of, key_block_of, dictionary_of}
use Rattle.format.specs.declared.Encoding.{Encoding}
use Rattle.format.specs.declared.Encoding.TheVariants.{RunLength, RunLengthNullable, Dictionary}
use Rattle.format.specs.Blocks.{block_of}
use Rattle.format.specs.Sizes.{run_rows, keys_of, plain_size, run_length_size, estimate_of, stored_items, stored_entries, within_limits, all_fit, accepted}
use Rattle.estimate_laws.specs.Bounds.{beyond, most, least, MeetsMost, MeetsLeast, Met}
use Rattle.estimate_laws.specs.Witnesses.{bool, trues, run_length_one, run_length_many, nullable_one, nullable_many, dictionary_one, dictionary_many}
use Rattle.estimate_laws.proofs.EqualRows.{all-fit}
use Rattle.estimate_laws.proofs.Trues.{Told, run-length-told, nullable-told, dictionary-told}

-- ---- n rows, all true, by what is told of them
true-rows : (n : ℕ) → length (trues n) ≡ n
unfolding trues
true-rows n = length-replicate n (int (pos 1))

true-fit : (n : ℕ) → all_fit bool (trues n) ≡ true
unfolding trues fits
true-fit n = all-fit bool (int (pos 1)) refl n

module _ {e : Encoding} {n : ℕ} {block : List ℕ} {estimate entries : ℕ} (t : Told e n block estimate entries)
    (small : leb n MOST_ROWS && leb 1 MOST_ITEMS && leb entries MOST_ENTRIES && leb (length block) MOST_BYTES ≡ true) where
  met : (Meets : Kind → Encoding → List Row → Type 0) → Meets bool e (trues n)
      → Met Meets bool e (record { rows = trues n; block = block; estimate = estimate; runs = 1 })
  unfolding accepted within_limits
  met Meets h = record {
    taken = rw (true-fit n, true-rows n, t.counted, t.entered, t.built) small;
    built = t.built;
    estimated = t.estimated;
    counted = t.counted;
    equal = h;
  }

  meets-most : length block ≡ estimate + beyond e + 3 * 1 → MeetsMost bool e (trues n)
  unfolding most
  meets-most h = rw (t.built, t.estimated, t.counted) h

  meets-least : estimate + beyond e ≡ length block + 1 → MeetsLeast bool e (trues n)
  unfolding least
  meets-least h = rw (t.built, t.estimated, t.counted) h

-- ---- Run-length over plain: 10 + 1 = 7 + 4, and 14 = 7 + 4 + 3.
pub run-length-least : Met MeetsLeast bool RunLength run_length_one
unfolding spelling spell_within beyond
run-length-least = let t = run-length-told 1 (omega arith) (omega arith) in met t refl MeetsLeast (meets-least t refl refl)

pub run-length-most : Met MeetsMost bool RunLength run_length_many
unfolding spelling spell_within beyond
run-length-most = let t = run-length-told 268435456 (omega arith) (omega arith) in met t refl MeetsMost (meets-most t refl refl)

-- ---- Over nullable: 15 + 1 = 8 + 8, and 19 = 8 + 8 + 3.
pub nullable-least : Met MeetsLeast bool RunLengthNullable nullable_one
unfolding spelling spell_within beyond
nullable-least = let t = nullable-told 1 (omega arith) (omega arith) in met t refl MeetsLeast (meets-least t refl refl)

pub nullable-most : Met MeetsMost bool RunLengthNullable nullable_many
unfolding spelling spell_within beyond
nullable-most = let t = nullable-told 268435456 (omega arith) (omega arith) in met t refl MeetsMost (meets-most t refl refl)

-- ---- Dictionary: 25 + 1 = 18 + 8, by one null, which is short enough to compute, and 30 = 19 + 8 + 3.
pub dictionary-least : Met MeetsLeast bool Dictionary dictionary_one
unfolding accepted all_fit fits within_limits stored_items stored_entries block_of dictionary_of key_block_of keys_of key_of null_key entries_of entries_after with_entry
    runs_of runs_from run_length_of counts_of joined spelling spell_within plain_of item_of int_in estimate_of run_length_size plain_size run_rows least beyond
dictionary-least = record { taken = refl; built = refl; estimated = refl; counted = refl; equal = refl }

pub dictionary-most : Met MeetsMost bool Dictionary dictionary_many
unfolding spelling spell_within beyond
dictionary-most = let t = dictionary-told 268435456 (omega arith) (omega arith) in met t refl MeetsMost (meets-most t refl refl)
