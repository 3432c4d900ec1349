-- 01's example: descriptor `1200000000000003` and sample C give exactly the five lines; and what each refusal before the opening prints.
-- Assumes nothing.
use Prim.Native.Nat.{ℕ}
use mathlib.Core.Path.{◌≡◌, refl}
use mathlib.Core.List.{List, [], ◌∷◌}
use Rattle.encode.specs.Kinds as Kinds
use Rattle.plain.specs.Rows as Rows
use Rattle.plain.specs.Rules as Rules
use Rattle.plain.specs.Plain as Plain
use Rattle.nullable.specs.Nullable as Nullable
use Rattle.format.specs.Blocks as Blocks
use Rattle.format.specs.Opening as Opening
use Rattle.block.specs.Reading as Reading
use Rattle.descriptor.specs.Descriptor as Descriptor
use Rattle.text.specs.Input as Input
use Rattle.text.specs.Text as Text
use Rattle.text.specs.Listing as Listing

abbrev pub input_c : List ℕ
input_c = 0x12 ∷ 0x00 ∷ 0x00 ∷ 0x00 ∷ 0x00 ∷ 0x00 ∷ 0x00 ∷ 0x03 ∷ 0x05 ∷ 0x00 ∷ 0x00 ∷ 0x00 ∷ 0xfe ∷ 0xff ∷ 0x05 ∷ 0x01 ∷ 0x00 ∷ 0x00 ∷ 0x00 ∷ []

-- rows 3, 0 5, 1 null, 2 -2, end
abbrev pub lines_c : List ℕ
lines_c = 114 ∷ 111 ∷ 119 ∷ 115 ∷ 32 ∷ 51 ∷ 10 ∷ 48 ∷ 32 ∷ 53 ∷ 10 ∷ 49 ∷ 32 ∷ 110 ∷ 117 ∷ 108 ∷ 108 ∷ 10 ∷ 50 ∷ 32 ∷ 45 ∷ 50 ∷ 10 ∷ 101 ∷ 110 ∷ 100 ∷ 10 ∷ []

pub lists-C : Listing.listing_of input_c ≡ lines_c
unfolding Kinds.numbered Kinds.kind_of Rows.int_in Rows.bytes_in Rules.first_of Plain.places Plain.fixed_at Plain.plain_row Plain.lengths_number Plain.all_text Plain.plain_number
    Nullable.bitmap_length Nullable.plain_part Nullable.bitmap_part Nullable.trailer_of Nullable.nullable_number Nullable.bit_at
    Nullable.nullable_row Blocks.with_encoding Blocks.column_of Opening.rules_of Opening.most_rows Opening.column_number Opening.open_number
    Opening.head_of Opening.row_at Opening.places_of Opening.rows_of Reading.head_in Reading.opened_by Reading.opened Descriptor.described_opened
    Input.input_opened Input.block_in Text.decimal_in Text.number_text Text.is_interval Text.value_text Text.int_text Text.row_text
    Listing.line_of Listing.row_lines Listing.more_line Listing.sound_listing Listing.listing_by Listing.listing_of
lists-C = refl

-- seven bytes: refused 10; the zero bit set: refused 1
pub lists-seven : Listing.listing_of (0 ∷ 0 ∷ 0 ∷ 0 ∷ 0 ∷ 0 ∷ 0 ∷ []) ≡ 114 ∷ 101 ∷ 102 ∷ 117 ∷ 115 ∷ 101 ∷ 100 ∷ 32 ∷ 49 ∷ 48 ∷ 10 ∷ []
unfolding Input.input_opened Input.block_in Text.decimal_in Listing.line_of Listing.listing_by Listing.listing_of
lists-seven = refl

pub lists-zero-bit : Listing.listing_of (0x12 ∷ 0x01 ∷ 0 ∷ 0 ∷ 0 ∷ 0 ∷ 0 ∷ 0x03 ∷ []) ≡ 114 ∷ 101 ∷ 102 ∷ 117 ∷ 115 ∷ 101 ∷ 100 ∷ 32 ∷ 49 ∷ 10 ∷ []
unfolding Descriptor.described_opened Input.input_opened Input.block_in Text.decimal_in Listing.line_of Listing.listing_by
    Listing.listing_of
lists-zero-bit = refl
