-- `matching::same_blob` meets its contract: the bytes of each item lie where `plain::blob_at` says. Assumes nothing.
use Rattle.plain.specs.Rows.{bytes_in, same}
use Rattle.plain.specs.Plain.{plain_row}
use Rattle.matching.proofs.Pairs.{parts_same}
use Rattle.matching.proofs.same_blob.Goals as goal

pub returns : goal.returns
unfolding same plain_row bytes_in
returns c = parts_same c.same_part.ensures c.blob_at-a.ensures.1 c.blob_at-b.ensures.1
