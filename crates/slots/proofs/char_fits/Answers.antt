-- `slots::char_fits` meets its contract: bytes longer than the width don't fit, and others do if they are text. Assumes nothing.
use native.Mathlib.Omega.{arith}
use Rattle.slots.proofs.Items.{char-long-refused, char-looked-at}
use Rattle.slots.proofs.char_fits.Goals as goal

pub returns-then-w-item : goal.returns-then-w-item
returns-then-w-item c = char-long-refused _ _ (omega arith)

pub returns : goal.returns
returns c = char-looked-at _ _ (omega arith) c.is_text.ensures
