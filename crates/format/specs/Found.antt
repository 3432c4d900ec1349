-- For the code: the number and the head that a check finds. Assumes nothing.
use Rattle.std.specs.Prelude.{ℕ, zero, suc, Bool, true, false, List, [], ◌∷◌, Result, Ok, Err}
use Rattle.encode.specs.declared.Kind.{Kind}
use Rattle.plain.specs.Rules.{first_of}
use Rattle.plain.specs.Plain.{plain_number}
use Rattle.nullable.specs.Nullable.{nullable_number}
use Rattle.rle.specs.RunLength.{runs_in, counts_length, run_length_number}
use Rattle.dict.specs.Dictionary.{i32, key_length, entries_in, key_part, keys_number, dictionary_rules}
use Rattle.format.specs.declared.Head.{Head}
use Rattle.format.specs.Opening.{head}

unfoldable pub found_by : ℕ → Head → Result Head ℕ
found_by zero h = Ok h
found_by (suc e) h = Err (suc e)

-- the rules of an inner block
unfoldable pub inner_number : Bool → Kind → ℕ → List ℕ → ℕ
inner_number true k n b = nullable_number k n b
inner_number false k n b = plain_number k n b

unfoldable pub runs_head : List ℕ → Head
runs_head b = head (runs_in b) (counts_length b) 0 0

-- ---- a dictionary, whose rule 15 is asked or not
-- what rule 15 gives: where it isn't asked, every key counts as good
unfoldable pub keys_asked : Bool → ℕ → List ℕ → ℕ
keys_asked true entries b = keys_number entries b
keys_asked false entries b = 0

-- the rules of the key block, and rule 15
unfoldable pub key_block_number : Bool → ℕ → ℕ → List ℕ → ℕ
key_block_number asked n entries b = first_of (run_length_number (plain_number i32) n b ∷ keys_asked asked entries b ∷ [])

-- the rules of the block
unfoldable pub dictionary_asked : Bool → Kind → ℕ → List ℕ → ℕ
dictionary_asked asked k n b = dictionary_rules (keys_asked asked (entries_in b) (key_part (key_length b) b)) k n b
