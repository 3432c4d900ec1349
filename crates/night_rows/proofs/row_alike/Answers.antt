-- `row_alike` meets its contract: both engines give the row alike. Assumes nothing.
use Rattle.night_rows.proofs.BothEngines as laws
use Rattle.night_rows.proofs.row_alike.Goals as goal

pub returns : goal.returns
returns c =
    laws.rows_alike
    c.requires.0
    c.requires.1
    c.requires.2
    c.read-given.ensures.value
    (laws.areas-read _ (c.read-given.ensures.values_after, (c.read-given.ensures.flags_after, (c.read-given.ensures.ends_after, c.read-given.ensures.bytes_after))))
    c.row-shown.ensures.value
    c.row-shown.ensures.bytes_after
    c.answers_same.ensures
