-- `pack` meets its contract: the bytes are those of the number that the fields make. Assumes nothing.
use mathlib.Core.Path.{ap, ◌∙◌}
use Rattle.encode.specs.Bytes.{big}
use Rattle.descriptor.proofs.pack.Goals as goal

pub returns : goal.returns
returns c = c.high_first.ensures ∙ ap (big 8) c.packed.ensures
