-- `strings_are_text` meets its contract. The loop's invariant: the items that were passed are text, so that those left decide. Assumes nothing.
use Rattle.utf8.specs.Utf8.{is_text}
use Rattle.plain.specs.Plain.{blob_at}
use Rattle.plain.proofs.TextItems.{Left}
use Rattle.slow_plain.proofs.strings_are_text.Given as goal

abbrev pub invariant-loop-i : goal.invariant-loop-i
invariant-loop-i l = Left (λ j. is_text (blob_at l.n l.s j)) l.n l.i
