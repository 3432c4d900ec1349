-- How the answer of creation crosses to C: as a number and a record. Assumes nothing.
use Rattle.std.specs.Prelude.{ℕ, Result, Ok, Err}
use Rattle.builder.specs.declared.Builder.{Builder}
use Rattle.builder.specs.Building.{empty}
use Rattle.capi.specs.declared.building.Creation.{Creation}

-- The record beside a refused creation: no kind has the number 255.
abbrev pub no_builder : Builder
no_builder = empty 255 0 0 0 0

unfoldable pub creation_of : Result Builder ℕ → Creation
creation_of (Ok b) = record { number = 0; builder = b }
creation_of (Err e) = record { number = e; builder = no_builder }
