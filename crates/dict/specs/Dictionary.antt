-- Dictionary blocks: a run-length block of i32 keys, and a plain block of entries. Assumes nothing.
use Rattle.std.specs.Prelude.{ℕ, zero, suc, ◌+◌, Bool, true, cond, not, ◌&&◌, List, [], ◌∷◌, ◌++◌, map, ltb, leb, ℤ, pos, negsuc, ◌+ℤ◌, nat_abs, length, take, drop}
use Rattle.encode.specs.Bytes.{big, number_of, high-first}
use Rattle.encode.specs.declared.Primitive.TheVariants.{I32}
use Rattle.encode.specs.declared.Kind.{Kind}
use Rattle.encode.specs.declared.Kind.TheVariants.{Fixed}
use Rattle.limits.specs.Limits.{MOST_ENTRIES}
use Rattle.limits.specs.Refusals.{CUT, KEY, LIMIT}
use Rattle.plain.specs.Rows.{Row, null, int, bytes, int_in, same}
use Rattle.plain.specs.Rules.{◌if◌, first_of}
use Rattle.plain.specs.Plain.{places, plain_of, plain_number, plain_row, ends_good}
use Rattle.rle.specs.RunLength.{run_length_of, runs_in, counts_length, inner_part, run_length_number}

abbrev pub i32 : Kind
i32 = Fixed I32

-- ---- entries and keys
-- the place of the first entry that equals the row as given; past the end, if none does
unfoldable pub index_of : Row → List Row → ℕ
index_of r [] = 0
index_of r (e ∷ es) = cond (same r e) 0 (suc (index_of r es))

-- the entries after one more row: a row that is new comes last; a null is no entry
unfoldable pub with_entry : List Row → Row → List Row
with_entry es null = es
with_entry es (int v) = cond (ltb (index_of (int v) es) (length es)) es (es ++ (int v ∷ []))
with_entry es (bytes bs) = cond (ltb (index_of (bytes bs) es) (length es)) es (es ++ (bytes bs ∷ []))

unfoldable pub entries_after : List Row → List Row → List Row
entries_after es [] = es
entries_after es (r ∷ rows) = entries_after (with_entry es r) rows

-- in order of first use
unfoldable pub entries_of : List Row → List Row
entries_of rows = entries_after [] rows

-- null is key -2,147,483,648; entry k, from 0, is key -2,147,483,647 + k
unfoldable pub null_key : ℤ
null_key = negsuc 2147483647

unfoldable pub entry_key : ℕ → ℤ
entry_key k = negsuc 2147483646 +ℤ pos k

unfoldable pub key_of : List Row → Row → Row
key_of es null = int null_key
key_of es (int v) = int (entry_key (index_of (int v) es))
key_of es (bytes bs) = int (entry_key (index_of (bytes bs) es))

-- ---- the bytes: the length of the key block as u64 big-endian, the number of entries as u32 big-endian, the key block, the entries as a plain block
unfoldable pub key_block_of : List Row → List ℕ
key_block_of rows = run_length_of (plain_of i32) (map (key_of (entries_of rows)) rows)

unfoldable pub dictionary_of : Kind → List Row → List ℕ
dictionary_of k rows =
    big 8 (length (key_block_of rows)) ++ big 4 (length (entries_of rows)) ++ key_block_of rows ++ plain_of k (entries_of rows)

-- ---- the parts of a block: the numbers at its head; the key block, so many bytes long, and the entries behind it
unfoldable pub key_length : List ℕ → ℕ
key_length b = number_of high-first (take 8 b)

unfoldable pub entries_in : List ℕ → ℕ
entries_in b = number_of high-first (take 4 (drop 8 b))

unfoldable pub key_part : ℕ → List ℕ → List ℕ
key_part len b = take len (drop 12 b)

unfoldable pub entries_part : ℕ → List ℕ → List ℕ
entries_part len b = drop (12 + len) b

-- ---- the rules
-- which entry key i of a plain block of keys names: 0 for null, k + 1 for entry k, counted from null's key
unfoldable pub slot_at : List ℕ → ℕ → ℕ
slot_at keys i = nat_abs (int_in (plain_row i32 0 keys i) +ℤ pos 2147483648)

-- each key is null or names an entry
unfoldable pub known : ℕ → List ℕ → List ℕ → Bool
known entries keys [] = true
known entries keys (i ∷ is) = leb (slot_at keys i) entries && known entries keys is

unfoldable pub keys_number : ℕ → List ℕ → ℕ
keys_number entries b = KEY if not (known entries (inner_part (counts_length b) b) (places (runs_in b) 0))

-- the rules in order, with what rule 15 gives in its place
unfoldable pub dictionary_rules : ℕ → Kind → ℕ → List ℕ → ℕ
dictionary_rules fifteen k n b =
    first_of (
    CUT if ltb (length b) 12
    ∷ LIMIT if ltb MOST_ENTRIES (entries_in b)
    ∷ CUT if ltb (length b) (12 + key_length b)
    ∷ run_length_number (plain_number i32) n (key_part (key_length b) b)
    ∷ fifteen
    ∷ plain_number k (entries_in b) (entries_part (key_length b) b)
    ∷ [])

unfoldable pub dictionary_number : Kind → ℕ → List ℕ → ℕ
dictionary_number k n b = dictionary_rules (keys_number (entries_in b) (key_part (key_length b) b)) k n b

-- ---- the rows: the entry that a key names
unfoldable pub entry_row : Kind → ℕ → List ℕ → ℕ → Row
entry_row k entries part zero = null
entry_row k entries part (suc e) = plain_row k entries part e

-- ---- what reading looks at again
-- a key: rule 15, and rule 14 of the entry that it names
unfoldable pub entry_good : Kind → ℕ → List ℕ → ℕ → Bool
entry_good k entries part zero = true
entry_good k entries part (suc i) = ltb i entries && ends_good k entries part i
