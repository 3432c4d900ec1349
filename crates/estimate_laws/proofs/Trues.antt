-- n rows, all true, as run-length blocks and as a dictionary: their blocks, estimates, runs and entries. Assumes nothing.
use Prim.Native.Nat.{ℕ, ◌≤◌, ◌<◌}
use mathlib.Core.List.{List, [], ◌∷◌, ◌++◌}
use mathlib.Core.Path.{◌≡◌, refl}
use lib.IntN.{pos}
use lib.ListN.{length, replicate}
use Rattle.limits.specs.Limits.{MOST_COUNT}
use Rattle.encode.specs.Bytes.{little, big}
use Rattle.varint.specs.Varint.{spelling}
use Rattle.plain.specs.Rows.{int, int_in, same_int, same}
use Rattle.plain.specs.Plain.{joined, places, item_of, plain_of}
use Rattle.nullable.specs.Nullable.{presence, byte_of, bitmap_byte, bitmap_length, bitmap_of, nullable_of}
use Rattle.rle.specs.RunLength.{run, runs_of}
use Rattle.dict.specs.Dictionary.{i32, index_of, with_entry, entries_of, entry_key, key_of, key_block_of, dictionary_of}
use Rattle.format.specs.declared.Encoding.{Encoding}
use Rattle.format.specs.declared.Encoding.TheVariants.{RunLength, RunLengthNullable, Dictionary}
use Rattle.format.specs.Blocks.{block_of}
use Rattle.format.specs.Sizes.{run_rows, keys_of, plain_size, nullable_size, run_length_size, estimate_of, stored_items, stored_entries}
use Rattle.estimate_laws.specs.Witnesses.{bool, trues}
use Rattle.estimate_laws.proofs.EqualRows.{one-run, one-run-block, one_entry, one_key}

-- what is told of n rows, all true
pub record Told (e : Encoding) (n : ℕ) (block : List ℕ) (estimate entries : ℕ) : Type 0 where
  pub built : block_of bool e (trues n) ≡ block
  pub estimated : estimate_of bool e (trues n) ≡ estimate
  pub counted : stored_items e (trues n) ≡ 1
  pub entered : stored_entries e (trues n) ≡ entries

-- one run, and its count
abbrev headed : ℕ → List ℕ
headed n = little 4 1 ++ little 4 (length (spelling n)) ++ spelling n

abbrev pub run_block : ℕ → List ℕ
run_block n = headed n ++ (1 ∷ [])

abbrev pub nullable_block : ℕ → List ℕ
nullable_block n = headed n ++ (1 ∷ 1 ∷ 1 ∷ 0 ∷ 0 ∷ 0 ∷ [])

-- the key of the first entry
abbrev key_block : ℕ → List ℕ
key_block n = headed n ++ (1 ∷ 0 ∷ 0 ∷ 128 ∷ [])

abbrev pub dictionary_block : ℕ → List ℕ
dictionary_block n = big 8 (length (key_block n)) ++ big 4 1 ++ key_block n ++ (1 ∷ [])

module _ (n : ℕ) (some : 0 < n) (few : n ≤ MOST_COUNT) where
  true-runs : runs_of (trues n) ≡ run (int (pos 1)) n ∷ []
  unfolding trues
  true-runs = one-run (int (pos 1)) n some few

  pub run-length-told : Told RunLength n (run_block n) 7 0
  unfolding block_of trues plain_of joined item_of int_in estimate_of run_length_size plain_size run_rows stored_items stored_entries
  run-length-told = record {
    built = one-run-block (int (pos 1)) (plain_of bool) n some few;
    estimated = rw true-runs;
    counted = rw true-runs;
    entered = refl;
  }

  pub nullable-told : Told RunLengthNullable n (nullable_block n) 8 0
  unfolding block_of trues plain_of joined item_of int_in nullable_of bitmap_of bitmap_length places bitmap_byte byte_of presence
      estimate_of run_length_size nullable_size plain_size run_rows stored_items stored_entries
  nullable-told = record {
    built = one-run-block (int (pos 1)) (nullable_of bool) n some few;
    estimated = rw true-runs;
    counted = rw true-runs;
    entered = refl;
  }

  true-entries : entries_of (trues n) ≡ int (pos 1) ∷ []
  unfolding trues with_entry index_of same same_int
  true-entries = one_entry (int (pos 1)) refl refl n some

  -- the keys are equal rows too
  true-keys : keys_of (trues n) ≡ replicate n (int (entry_key 0))
  unfolding trues with_entry index_of same same_int key_of
  true-keys = one_key (int (pos 1)) refl refl n some

  key-runs : runs_of (keys_of (trues n)) ≡ run (int (entry_key 0)) n ∷ []
  key-runs = rw true-keys (one-run (int (entry_key 0)) n some few)

  key-block : key_block_of (trues n) ≡ key_block n
  unfolding key_block_of keys_of plain_of joined item_of int_in entry_key
  key-block = rw true-keys (one-run-block (int (entry_key 0)) (plain_of i32) n some few)

  pub dictionary-told : Told Dictionary n (dictionary_block n) 19 1
  unfolding block_of dictionary_of plain_of joined item_of int_in estimate_of run_length_size plain_size run_rows stored_items stored_entries
  dictionary-told = record {
    built = rw (key-block, true-entries);
    estimated = rw (key-runs, true-entries);
    counted = rw key-runs;
    entered = rw true-entries;
  }
