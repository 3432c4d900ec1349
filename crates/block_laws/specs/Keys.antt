-- The keys of a dictionary block. Assumes nothing.
use Rattle.std.specs.Prelude.{ℕ, List, ℤ}
use Rattle.plain.specs.Rows.{int_in}
use Rattle.plain.specs.Plain.{plain_row}
use Rattle.rle.specs.RunLength.{inner_part}
use Rattle.dict.specs.Dictionary.{i32, key_part}
use Rattle.format.specs.declared.Encoding.TheVariants.{Dictionary}
use Rattle.format.specs.Opening.{head_of}

-- their bytes, one key a run
abbrev pub keys_in : List ℕ → List ℕ
keys_in b = inner_part (head_of Dictionary b).counts (key_part (head_of Dictionary b).keys b)

-- the key of run i
abbrev pub key_at : List ℕ → ℕ → ℤ
key_at b i = int_in (plain_row i32 0 (keys_in b) i)
