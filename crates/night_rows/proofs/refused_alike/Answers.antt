-- `refused_alike` meets its contract: the second engine refuses, as it is due. Assumes nothing.
use Rattle.night_rows.proofs.BothEngines as laws
use Rattle.night_rows.proofs.refused_alike.Goals as goal

pub returns : goal.returns
returns c =
    laws.refused-alike c.requires.0 c.requires.1 c.row-shown.ensures.value c.row-shown.ensures.bytes_after c.answers_same.ensures
