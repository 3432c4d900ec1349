-- `unpack` meets its contract: the fields are those of the number that the eight bytes are. Assumes nothing.
use mathlib.Core.Path.{ap}
use Rattle.descriptor.specs.Descriptor.{fields_of}
use Rattle.descriptor.proofs.unpack.Goals as goal

pub returns : goal.returns
returns c = ap fields_of c.high-n.ensures.0
