-- 01, "Listing program": the eight descriptor bytes taken apart, put together again, and a block opened by them. Assumes nothing.
use Rattle.std.specs.Prelude.{ℕ, ◌+◌, ◌*◌, ◌/◌, ◌%◌, min, cond, List, eqb, Result, Err}
use Rattle.limits.specs.Refusals.{COLUMN}
use Rattle.encode.specs.Bytes.{high-first, big, number_of}
use Rattle.format.specs.Opening.{open_number}
use Rattle.block.specs.declared.Reader.{Reader}
use Rattle.block.specs.Reading.{opened}
use Rattle.descriptor.specs.declared.Descriptor.{Descriptor}

-- 64 bits, the most significant first: kind 4, encoding 3, width 8, zero 1, rows 48. So 60, 57, 49, 48 and 0 bits lie below each.
abbrev pub fields_of : ℕ → Descriptor
fields_of n = record {
  kind = n / 1152921504606846976;
  encoding = n / 144115188075855872 % 8;
  width = n / 562949953421312 % 256;
  zero = n / 281474976710656 % 2;
  rows = n % 281474976710656;
}

abbrev pub descriptor_of : List ℕ → Descriptor
descriptor_of bs = fields_of (number_of high-first bs)

-- the other way: of each field the bits that it has there, and the zero bit set for any number but 0
abbrev pub packed_number : Descriptor → ℕ
packed_number d =
    d.kind % 16 * 1152921504606846976
    + d.encoding % 8 * 144115188075855872
    + d.width % 256 * 562949953421312
    + min d.zero 1 * 281474976710656
    + d.rows % 281474976710656

abbrev pub descriptor_bytes : Descriptor → List ℕ
descriptor_bytes d = big 8 (packed_number d)

-- a block opened by its descriptor: the zero bit set counts as opening's 1
unfoldable pub described_number : Descriptor → List ℕ → ℕ
described_number d b = cond (eqb d.zero 0) (open_number d.kind d.encoding d.width d.rows b) COLUMN

unfoldable pub described_opened : Descriptor → List ℕ → Result Reader ℕ
described_opened d b = cond (eqb d.zero 0) (opened d.kind d.encoding d.width d.rows b) (Err COLUMN)
