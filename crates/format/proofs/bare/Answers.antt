-- `format::bare` meets its contract: the refusal as it came, or nothing at the head. Assumes nothing.
use Rattle.std.proofs.lemmas.Result.{err_from_is_err_and}
use Rattle.limits.proofs.Refused.{refusal-some}
use Rattle.format.specs.Opening.{head}
use Rattle.format.proofs.Answers as laws
use Rattle.format.proofs.bare.Goals as goal

pub returns-in_err-outcome : goal.returns-in_err-outcome
returns-in_err-outcome c =
    let p = err_from_is_err_and c.from_residual.result c.from_residual.ensures.1 in
    rw (p.1, p.2, c.in_err-outcome.was) (laws.refused-by _ _ (refusal-some _))

pub returns : goal.returns
returns c = rw c.in_ok-outcome.was (laws.sound-by (head 0 0 0 0))
