-- `view::read` meets its contract: the two answers, one after the other, come to the definition. Assumes nothing.
use Rattle.block.specs.Reading.{areas}
use Rattle.view.proofs.Refusals.{read_told}
use Rattle.view.proofs.read.Goals as goal

pub returns : goal.returns
returns c =
    let all = read_told _ _ _ _ _ _ _ (areas _ _ _ _) c.first_refusal-number.ensures (
      c.go_through-steps.ensures.value,
      (
        c.go_through-steps.ensures.values_after,
        (c.go_through-steps.ensures.flags_after, (c.go_through-steps.ensures.ends_after, c.go_through-steps.ensures.bytes_after)),
      ),
    ) in
    record { value = all.0; values_after = all.1.0; flags_after = all.1.1.0; ends_after = all.1.1.1.0; bytes_after = all.1.1.1.1 }
