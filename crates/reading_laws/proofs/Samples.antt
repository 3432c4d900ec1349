-- The definitions give each of 01's samples. Assumes nothing.
use mathlib.Core.Path.{refl}
use Rattle.reading_laws.specs.Samples.{samples, GivesEach}
use Rattle.varint.specs.Varint as Varint
use Rattle.utf8.specs.Utf8 as Utf8
use Rattle.zeros.specs.Zeros as Zeros
use Rattle.plain.specs.Rows as Rows
use Rattle.plain.specs.Rules as Rules
use Rattle.plain.specs.Plain as Plain
use Rattle.nullable.specs.Nullable as Nullable
use Rattle.rle.specs.RunLength as RunLength
use Rattle.rle.specs.Stepping as Stepping
use Rattle.dict.specs.Dictionary as Dictionary
use Rattle.format.specs.Blocks as Blocks
use Rattle.format.specs.Opening as Opening
use Rattle.format.specs.Sizes as Sizes
use Rattle.anatomy.specs.Tests as Tests
use Rattle.block.specs.Reading as Reading
use Rattle.block.specs.Calls as Calls
use Rattle.encode.specs.Kinds as Kinds
use Rattle.area.specs.Area as Area

pub samples-given : GivesEach samples
unfolding Varint.more Varint.count_within Varint.in_32_bits Varint.count_of Varint.count_at Varint.spell_within Varint.spelling Varint.wrote Varint.wrote_over Rows.int_in
    Rows.bytes_in Rows.fits Utf8.is_text Utf8.after Rows.same_int Rows.same_bytes Rows.same Rules.first_of Plain.joined Plain.all_of Plain.places Plain.item_of Plain.ends_from
    Plain.plain_of Plain.end_at Plain.start_at Plain.ends_of Plain.rising Plain.last_of Plain.lengths_number Plain.all_text Plain.plain_number Plain.before_nul Plain.fixed_at Plain.char_at
    Plain.blob_at Plain.plain_row Plain.least_bytes Plain.ends_good Nullable.bitmap_length Nullable.presence Nullable.byte_of Nullable.bitmap_byte
    Nullable.bitmap_of Nullable.nullable_of Nullable.plain_part Nullable.bitmap_part Nullable.trailer_of Nullable.nullable_number Nullable.bit_at
    Nullable.nullable_row RunLength.runs_from RunLength.runs_of RunLength.counts_of RunLength.run_length_of RunLength.runs_in RunLength.counts_length
    RunLength.counts_part RunLength.inner_part RunLength.plus RunLength.walked_past RunLength.walked RunLength.walk_number RunLength.run_length_number
    RunLength.as_often RunLength.run_numbers Stepping.leave Stepping.one Stepping.before Stepping.and_then Stepping.here Stepping.settle Stepping.next
    Stepping.steps_from Dictionary.index_of Dictionary.with_entry Dictionary.entries_after Dictionary.entries_of Dictionary.null_key Dictionary.entry_key
    Dictionary.key_of Dictionary.key_block_of Dictionary.dictionary_of Dictionary.key_length Dictionary.entries_in Dictionary.key_part Dictionary.entries_part
    Dictionary.slot_at Dictionary.known Dictionary.keys_number Dictionary.dictionary_rules Dictionary.dictionary_number Dictionary.entry_row Dictionary.entry_good Blocks.with_encoding
    Blocks.column_of Blocks.block_of Blocks.cut Blocks.filled Blocks.stored_row Blocks.stored_form Opening.rules_of Opening.most_rows Opening.column_number
    Opening.open_number Opening.head_of Opening.row_at Opening.counts_in Opening.places_of Opening.rows_of Sizes.run_rows Sizes.keys_of Sizes.plain_size
    Sizes.nullable_size Sizes.run_length_size Sizes.estimate_of Sizes.next_size Sizes.full_with Sizes.plain_full Sizes.nullable_full
    Sizes.should_finish Sizes.stored_items Sizes.stored_entries Sizes.within_limits Sizes.all_fit Sizes.accepted Reading.head_in Reading.opened_by
    Reading.opened Tests.no_runs Tests.runs_outside Tests.part_outside Tests.runs_wrong Tests.head_wrong Reading.wrong Reading.next_steps Reading.remaining_in
    Reading.remaining Tests.row_good Reading.is_bytes Reading.short Reading.filled_in Reading.given_bytes
    Reading.nulls_in Zeros.zero_in Zeros.zeros_in
    Reading.give Reading.batch_of Reading.up_to Reading.whole Reading.pass_then Reading.read_in Reading.read Calls.start_in Calls.handed_row Calls.handed Calls.read_answer
    Calls.answer_to Calls.after Calls.play Calls.play_opened Kinds.numbered Kinds.kind_of Area.over
samples-given = (
  (refl, refl, refl, refl),
  (
    (refl, refl),
    (
      (refl, refl, refl, refl),
      (
        (refl, refl, refl, refl),
        (
          (refl, refl, refl, refl),
          (
            (refl, refl),
            (
              (refl, refl, refl, refl),
              (
                (refl, refl, refl, refl),
                (
                  (refl, refl),
                  (
                    (refl, refl),
                    (
                      (refl, refl),
                      (
                        (refl, refl),
                        (
                          refl,
                          (
                            refl,
                            (
                              (refl, refl, refl, refl),
                              (
                                (refl, refl, refl, refl),
                                (
                                  (refl, refl, refl, refl),
                                  (
                                    refl,
                                    (
                                      refl,
                                      (
                                        refl,
                                        tt,
                                      ),
                                    ),
                                  ),
                                ),
                              ),
                            ),
                          ),
                        ),
                      ),
                    ),
                  ),
                ),
              ),
            ),
          ),
        ),
      ),
    ),
  ),
)
