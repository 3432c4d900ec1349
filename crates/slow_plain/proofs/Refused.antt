-- A refusal that is passed on keeps its number. Assumes nothing.
use mathlib.Core.Path.{◌≡◌, ap, ◌∙◌}
use Rattle.std.specs.Prelude.{Result}
use Rattle.std.specs.Result.{IsErrAnd}
use Rattle.std.proofs.lemmas.Result.{err_from_is_err_and}
use Rattle.limits.specs.Refusals.{refusal_number, number_in}
use Rattle.limits.specs.declared.refusal.Refusal.{Refusal}

-- what `?` hands on
pub passed-on : {A : Type 0} (r : Result A Refusal) (e : Refusal) → IsErrAnd r (λ (x : Refusal). x ≡ e) → number_in r ≡ refusal_number e
passed-on r e h = let p = err_from_is_err_and r h in ap number_in p.1 ∙ ap refusal_number p.2
