-- The lists that meet the bounds with equality, of kind bool: one row, whose count has one byte, and 268,435,456 equal rows, whose count has five.
-- Assumes nothing.
use Rattle.std.specs.Prelude.{ℕ, List, [], ◌∷◌, pos, replicate}
use Rattle.encode.specs.declared.Kind.{Kind}
use Rattle.encode.specs.declared.Kind.TheVariants.{Fixed}
use Rattle.encode.specs.declared.Primitive.TheVariants.{Bool as Boolean}
use Rattle.plain.specs.Rows.{Row, null, int}
use Rattle.estimate_laws.specs.Bounds.{Witness}

abbrev pub bool : Kind
bool = Fixed Boolean

-- n rows, all true
unfoldable pub trues : ℕ → List Row
trues n = replicate n (int (pos 1))

-- ---- run-length: the runs, the bytes of the counts, the counts, an item
abbrev pub run_length_one : Witness
run_length_one = record {
  rows = trues 1;
  block = 1 ∷ 0 ∷ 0 ∷ 0 ∷ 1 ∷ 0 ∷ 0 ∷ 0 ∷ 1 ∷ 1 ∷ [];
  estimate = 7;
  runs = 1;
}

abbrev pub run_length_many : Witness
run_length_many = record {
  rows = trues 268435456;
  block = 1 ∷ 0 ∷ 0 ∷ 0 ∷ 5 ∷ 0 ∷ 0 ∷ 0 ∷ 128 ∷ 128 ∷ 128 ∷ 128 ∷ 1 ∷ 1 ∷ [];
  estimate = 7;
  runs = 1;
}

-- ---- run-length nullable: then the bitmap and its length
abbrev pub nullable_one : Witness
nullable_one = record {
  rows = trues 1;
  block = 1 ∷ 0 ∷ 0 ∷ 0 ∷ 1 ∷ 0 ∷ 0 ∷ 0 ∷ 1 ∷ 1 ∷ 1 ∷ 1 ∷ 0 ∷ 0 ∷ 0 ∷ [];
  estimate = 8;
  runs = 1;
}

abbrev pub nullable_many : Witness
nullable_many = record {
  rows = trues 268435456;
  block = 1 ∷ 0 ∷ 0 ∷ 0 ∷ 5 ∷ 0 ∷ 0 ∷ 0 ∷ 128 ∷ 128 ∷ 128 ∷ 128 ∷ 1 ∷ 1 ∷ 1 ∷ 1 ∷ 0 ∷ 0 ∷ 0 ∷ [];
  estimate = 8;
  runs = 1;
}

-- ---- dictionary: the length of the key block, the entries, the key block with a key of four bytes, an entry
-- one null, which is no entry
abbrev pub dictionary_one : Witness
dictionary_one = record {
  rows = null ∷ [];
  block = 0 ∷ 0 ∷ 0 ∷ 0 ∷ 0 ∷ 0 ∷ 0 ∷ 13 ∷ 0 ∷ 0 ∷ 0 ∷ 0 ∷ 1 ∷ 0 ∷ 0 ∷ 0 ∷ 1 ∷ 0 ∷ 0 ∷ 0 ∷ 1 ∷ 0 ∷ 0 ∷ 0 ∷ 128 ∷ [];
  estimate = 18;
  runs = 1;
}

abbrev pub dictionary_many : Witness
dictionary_many = record {
  rows = trues 268435456;
  block = 0 ∷ 0 ∷ 0 ∷ 0 ∷ 0 ∷ 0 ∷ 0 ∷ 17 ∷ 0 ∷ 0 ∷ 0 ∷ 1 ∷ 1 ∷ 0 ∷ 0 ∷ 0 ∷ 5 ∷ 0 ∷ 0 ∷ 0 ∷ 128 ∷ 128 ∷ 128 ∷ 128 ∷ 1 ∷ 1 ∷ 0 ∷ 0 ∷ 128 ∷ 1 ∷ [];
  estimate = 19;
  runs = 1;
}
