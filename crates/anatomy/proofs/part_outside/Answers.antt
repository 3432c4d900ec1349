-- `anatomy::part_outside` meets its contract: each return by the law of its encoding. Assumes nothing.
use Rattle.format.proofs.ByEncoding.{plain_rows, nullable-rows}
use Rattle.anatomy.proofs.NumberTests as laws
use Rattle.anatomy.proofs.part_outside.Goals as goal

-- src/lib.rt:88:34
pub least_bytes-requires : goal.least_bytes-requires
least_bytes-requires c = plain_rows c.in-Plain.is c.requires.1

-- src/lib.rt:89:37
pub least_bytes-requires-in-Nullable : goal.least_bytes-requires-in-Nullable
least_bytes-requires-in-Nullable c = nullable-rows c.in-Nullable.is c.requires.1

-- src/lib.rt:89:64
pub bitmap_len-requires : goal.bitmap_len-requires
bitmap_len-requires c = nullable-rows c.in-Nullable.is c.requires.1

-- src/lib.rt:90:56
pub least_bytes-requires-in-RunLength : goal.least_bytes-requires-in-RunLength
least_bytes-requires-in-RunLength c = laws.runs-few _ c.requires.2 c.in-RunLength.is

-- src/lib.rt:92:24
pub bitmap_len-bits-requires : goal.bitmap_len-bits-requires
bitmap_len-bits-requires c = laws.null-runs-few _ c.requires.2 c.in-RunLengthNullable.is

-- src/lib.rt:95:33
pub keys_outside-requires : goal.keys_outside-requires
keys_outside-requires c = (c.requires.0, laws.keys-head _ c.requires.2 c.in-Dictionary.is)

-- src/lib.rt:83:1
pub returns-in-Plain : goal.returns-in-Plain
returns-in-Plain c = laws.plain-outside _ _ _ _ _ c.in-Plain.is c.least_bytes.ensures.0

-- src/lib.rt:83:1
pub returns-in-Nullable : goal.returns-in-Nullable
returns-in-Nullable c =
    laws.nullable-outside _ _ _ _ _ c.in-Nullable.is c.least_bytes-in-Nullable.ensures.0 c.bitmap_len.ensures.0

-- src/lib.rt:83:1
pub returns-in-RunLength : goal.returns-in-RunLength
returns-in-RunLength c =
    laws.run-length-outside _ _ _ _ _ c.in-RunLength.is c.least_bytes-in-RunLength.ensures.0 c.runs_outside.ensures

-- src/lib.rt:83:1
pub returns-in-RunLengthNullable : goal.returns-in-RunLengthNullable
returns-in-RunLengthNullable c =
    laws.null-runs-outside
    _
    _
    _
    _
    _
    c.in-RunLengthNullable.is
    c.least_bytes-in-RunLengthNullable.ensures.0
    c.bitmap_len-bits.ensures.0
    c.runs_outside-in-RunLengthNullable.ensures

-- src/lib.rt:83:1
pub returns-in-Dictionary : goal.returns-in-Dictionary
returns-in-Dictionary c = laws.dictionary-outside _ _ _ _ _ c.in-Dictionary.is c.keys_outside.ensures
