-- 01, "Layouts" and "Sound blocks": what a sound block is, by the parts that it consists of and what holds of them, for every kind and encoding. There
-- are no refusal numbers here and no order of testing. Assumes nothing.
use Rattle.std.specs.Prelude.{ℕ, ◌+◌, ◌*◌, ◌<◌, ◌≤◌, true, false, ◌≡◌, ◌⊎◌, List, [], ◌∷◌, ◌++◌, map, ℤ, length, Some}
use Rattle.limits.specs.Limits.{MOST_ITEMS, MOST_ENTRIES, MOST_BYTES}
use Rattle.encode.specs.Bytes.{Order, low_first, high-first, number_of}
use Rattle.encode.specs.Kinds.{width_of, string}
use Rattle.encode.specs.declared.Primitive.TheVariants.{I32}
use Rattle.encode.specs.declared.Kind.{Kind}
use Rattle.encode.specs.declared.Kind.TheVariants.{Fixed, Char, Blob}
use Rattle.varint.specs.Varint.{count_of, counted}
use Rattle.plain.specs.Each.{Each}
use Rattle.utf8.specs.Sequences.{Sequences}
use Rattle.plain.specs.Rows.{bytes_in}
use Rattle.plain.specs.Plain.{joined, last_of, fixed_at, plain_row}
use Rattle.nullable.specs.Nullable.{bitmap_length}
use Rattle.dict.specs.Dictionary.{i32, null_key, entry_key}
use Rattle.format.specs.declared.Encoding.{Encoding}
use Rattle.format.specs.declared.Encoding.TheVariants.{Plain, Nullable, RunLength, RunLengthNullable, Dictionary}
use Rattle.format.specs.Blocks.{column_of, column}
use Rattle.format.specs.Opening.{most_rows}

-- ---- numbers in a block
-- a number and the bytes that it is written in
pub record Written : Type 0 where
  pub value : ℕ
  pub bytes : List ℕ

abbrev pub values : List Written → List ℕ
values ws = map (λ w. w.value) ws

abbrev pub written : List Written → List ℕ
written ws = joined (λ w. w.bytes) ws

-- so many bytes, in this order
abbrev pub Field : ℕ → Order → Written → Type 0
Field width order w = (length w.bytes ≡ width) × (number_of order w.bytes ≡ w.value)

-- a run count: a varint of at most 32 bits and five bytes, no longer than needed, above 0
abbrev pub RunCount : Written → Type 0
RunCount w = (count_of w.bytes ≡ counted w.value (length w.bytes)) × (0 < w.value)

unfoldable pub total : List ℕ → ℕ
total [] = 0
total (v ∷ vs) = v + total vs

-- ends never fall
abbrev pub NeverFall : ℕ → List ℕ → Type 0
NeverFall before [] = Unit
NeverFall before (e ∷ es) = (before ≤ e) × NeverFall e es

-- ---- plain: n items
-- blob and string: one u32 little-endian end an item, then the data; ends never fall and never pass the data, and the last (0 if there is none) is its length
pub record Blobs (n : ℕ) (b : List ℕ) : Type 0 where
  pub ends : List Written
  pub data' : List ℕ
  pub whole : b ≡ written ends ++ data'
  pub count : length ends ≡ n
  pub fields : Each (Field 4 low_first) ends
  pub never_fall : NeverFall 0 (values ends)
  pub never_pass : Each (λ e. e.value ≤ length data') ends
  pub last : last_of 0 (values ends) ≡ length data'

-- each item, as it is read, is text: a char up to its first NUL, a string whole
abbrev pub Texts : Kind → ℕ → List ℕ → Type 0
Texts k n b = (i : ℕ) → i < n → Sequences (bytes_in (plain_row k n b i))

-- fixed and char: n times the width; char and string: text
abbrev pub Items : Kind → ℕ → List ℕ → Type 0
Items (Fixed p) n b = length b ≡ n * width_of p
Items (Char w) n b = (length b ≡ n * w) × Texts (Char w) n b
Items (Blob false) n b = Blobs n b
Items (Blob true) n b = Blobs n b × Texts string n b

-- ---- nullable: a plain block, a bitmap of a byte for eight items, and the bitmap's byte length
pub record NullableItems (k : Kind) (n : ℕ) (b : List ℕ) : Type 0 where
  pub items : List ℕ
  pub bitmap : List ℕ
  pub trailer : Written
  pub whole : b ≡ items ++ bitmap ++ trailer.bytes
  pub field : Field 4 low_first trailer
  pub told : trailer.value ≡ length bitmap
  pub bits : length bitmap ≡ bitmap_length n
  pub sound : Items k n items

-- ---- run-length: the number of runs, the byte length of the counts, a count a run, and an inner block with one item a run; the counts add up to the rows
pub record Runs (Inner : ℕ → List ℕ → Type 0) (n : ℕ) (b : List ℕ) : Type 0 where
  pub runs : Written
  pub size : Written
  pub counts : List Written
  pub inner : List ℕ
  pub whole : b ≡ runs.bytes ++ size.bytes ++ written counts ++ inner
  pub runs_field : Field 4 low_first runs
  pub size_field : Field 4 low_first size
  pub runs_told : runs.value ≡ length counts
  pub size_told : size.value ≡ length (written counts)
  pub some : 0 < length counts
  pub few : length counts ≤ MOST_ITEMS
  pub each : Each RunCount counts
  pub sum : total (values counts) ≡ n
  pub sound : Inner (length counts) inner

-- no bytes hold no rows
abbrev pub RunsOver : (ℕ → List ℕ → Type 0) → ℕ → List ℕ → Type 0
RunsOver Inner n b = ((b ≡ []) × (n ≡ 0)) ⊎ Runs Inner n b

-- ---- dictionary
-- a key names an entry
pub record Entry (entries : ℕ) (key : ℤ) : Type 0 where
  pub index : ℕ
  pub known : index < entries
  pub named : key ≡ entry_key index

-- a plain block of i32 keys, each of which is null's or names an entry
abbrev pub Keys : ℕ → ℕ → List ℕ → Type 0
Keys entries runs b = Items i32 runs b × ((i : ℕ) → i < runs → (fixed_at I32 b i ≡ null_key) ⊎ Entry entries (fixed_at I32 b i))

-- the key block's length as u64 big-endian, the number of entries as u32 big-endian, a run-length block of keys, the entries as a plain block
pub record KeysAndEntries (k : Kind) (n : ℕ) (b : List ℕ) : Type 0 where
  pub key_length : Written
  pub entry_count : Written
  pub key_block : List ℕ
  pub entries : List ℕ
  pub whole : b ≡ key_length.bytes ++ entry_count.bytes ++ key_block ++ entries
  pub key_field : Field 8 high-first key_length
  pub entry_field : Field 4 high-first entry_count
  pub told : key_length.value ≡ length key_block
  pub few : entry_count.value ≤ MOST_ENTRIES
  pub keys : RunsOver (Keys entry_count.value) n key_block
  pub sound : Items k entry_count.value entries

-- ---- a sound block of n rows
abbrev pub Parts : Kind → Encoding → ℕ → List ℕ → Type 0
Parts k Plain n b = Items k n b
Parts k Nullable n b = NullableItems k n b
Parts k RunLength n b = RunsOver (Items k) n b
Parts k RunLengthNullable n b = RunsOver (NullableItems k) n b
Parts k Dictionary n b = KeysAndEntries k n b

-- of a kind, an encoding and a width that name a pair, within the limits
pub record Sound (kind encoding width n : ℕ) (b : List ℕ) : Type 0 where
  pub of_kind : Kind
  pub in_encoding : Encoding
  pub pair : column_of kind encoding width ≡ Some (column of_kind in_encoding)
  pub size : length b ≤ MOST_BYTES
  pub rows : n ≤ most_rows in_encoding
  pub parts : Parts of_kind in_encoding n b
