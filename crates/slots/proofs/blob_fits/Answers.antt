-- `slots::blob_fits` meets its contract: a blob takes all bytes, and a string text. Assumes nothing.
use Rattle.slots.proofs.Items.{blob-taken, string-looked-at}
use Rattle.slots.proofs.blob_fits.Goals as goal

pub returns-then-not-text : goal.returns-then-not-text
returns-then-not-text c = blob-taken _ c.if-not-text.true

pub returns : goal.returns
returns c = string-looked-at _ c.if-not-text.false c.is_text.ensures
