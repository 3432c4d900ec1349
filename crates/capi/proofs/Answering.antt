-- Which answer crosses for each case of creation's. Assumes nothing.
use Prim.Native.Nat.{ℕ}
use mathlib.Core.Path.{◌≡◌}
use Rattle.builder.specs.declared.Builder.{Builder}
use Rattle.std.specs.Prelude.{Result, Ok, Err}
use Rattle.capi.specs.declared.building.Creation.{Creation}
use Rattle.capi.specs.Answers.{no_builder, creation_of}

abbrev creation : ℕ → Builder → Creation
creation e b = record { number = e; builder = b }

module _ {x : Result Builder ℕ} where
  pub makes : {b : Builder} → x ≡ Ok b → creation 0 b ≡ creation_of x
  unfolding creation_of
  makes q = rw q

  pub makes_none : {e : ℕ} {b : Builder} → x ≡ Err e → b ≡ no_builder → creation e b ≡ creation_of x
  unfolding creation_of
  makes_none q none = rw (q, none)
