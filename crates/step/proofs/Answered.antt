-- A refusal that is passed on by `?` is the same. Assumes nothing.
use mathlib.Core.Path.{◌≡◌, ap}
use Rattle.std.specs.Prelude.{Result, Ok, Err, IsErrAnd}
use Rattle.limits.specs.declared.refusal.Refusal.{Refusal}

pub passed_on : {A : Type 0} (x : Result A Refusal) {e : Refusal} → IsErrAnd x (λ (g : Refusal). g ≡ e) → x ≡ Err e
passed_on (Ok a) h = absurd h
passed_on (Err g) h = ap Err h
