-- For the code: opening and a read one after the other. After a refused opening the read is one of `no_reader`, which writes nothing. Assumes nothing.
use Rattle.std.specs.Prelude.{ℕ, List}
use Rattle.block.specs.Reading.{Areas, Batch, read}
use Rattle.block.specs.declared.Opening.{Opening}
use Rattle.view.specs.declared.Steps.{Steps}

pub record Read : Type 0 where
  pub answer : Steps
  pub areas : Areas

abbrev pub steps_of : ℕ → Batch → Read
steps_of o g = record {
  answer = record {
    opened = o;
    given = g.answer.number;
    rows = g.answer.rows;
    bytes = g.answer.bytes;
    reader = g.answer.reader;
  };
  areas = g.areas;
}

abbrev pub stepwise : Opening → List ℕ → ℕ → ℕ → Areas → Read
stepwise o b skip size a = steps_of o.number (read o.reader b skip size a)
