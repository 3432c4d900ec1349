-- `part_rows::write_texts` meets its contract: the parts are those that the definition reads. Assumes nothing.
use Rattle.anatomy.specs.Parts.{part_in}
use Rattle.part_rows.specs.PartRows.{steps_by}
use Rattle.part_rows.proofs.write_texts.Goals as goal

-- src/lib.rt:153:5
pub put_texts-requires : goal.put_texts-requires
unfolding part_in steps_by
put_texts-requires c =
    let q = c.requires in
    (q.serves.0.ready, q.serves.0.starts, q.may_write.0, q.may_write.1, q.n_in_bounds.0, q.n_in_bounds.1, q.serves.1)

-- src/lib.rt:127:1
pub returns : goal.returns
unfolding part_in steps_by
returns c = record { flags_after = c.put_texts.ensures.flags_after; ends_after = c.put_texts.ensures.ends_after; bytes_after = c.put_texts.ensures.bytes_after }
