-- What each call promises, as one relation of what it is given and what comes of it: the answer, and what every area that it may write then holds, for all
-- numbers, records and bytes. What append promises stands with the builder (builder/specs/Promises). Assumes nothing.
use Rattle.std.specs.Prelude.{ℕ, ◌≡◌, Bool, List}
use Rattle.block.specs.declared.Reader.{Reader}
use Rattle.block.specs.declared.Opening.{Opening}
use Rattle.block.specs.declared.Given.{Given}
use Rattle.block.specs.declared.Left.{Left}
use Rattle.block.specs.Reading.{Areas, opened, opening_of, remaining, read}
use Rattle.append.specs.Appending.{Lent}
use Rattle.builder.specs.declared.Builder.{Builder}
use Rattle.builder.specs.declared.Finished.{Finished}
use Rattle.builder.specs.declared.Estimated.{Estimated}
use Rattle.builder.specs.declared.Asked.{Asked}
use Rattle.builder.specs.Building.{created}
use Rattle.builder.specs.Finishing.{finished, estimated, asked}
use Rattle.sheet.specs.declared.Found.{Found}
use Rattle.sheet.specs.Sheet.{column_found}
use Rattle.sheet_writer.specs.declared.Written.{Written}
use Rattle.sheet_writer.specs.Writing.{write}
use Rattle.descriptor.specs.declared.Descriptor.{Descriptor}
use Rattle.comparing.specs.declared.Compared.{Compared}
use Rattle.comparing.specs.Comparing.{compare}
use Rattle.salvaging.specs.declared.Salvaged.{Salvaged}
use Rattle.salvaging.specs.Salvaging.{salvage}
use Rattle.slow_answer.specs.declared.RowGiven.{RowGiven}
use Rattle.slow_answer.specs.Slow.{row_shown}
use Rattle.capi.specs.declared.building.Creation.{Creation}
use Rattle.capi.specs.Answers.{creation_of}

-- ---- reading
abbrev pub Opens : (kind encoding width rows : ℕ) (block : List ℕ) → Opening → Type 0
Opens kind encoding width rows block answer = answer ≡ opening_of (opened kind encoding width rows block)

abbrev pub Reads : (reader : Reader) (block : List ℕ) (skip size : ℕ) (lent : Areas) → Given → Areas → Type 0
Reads reader block skip size lent answer left =
    (answer ≡ (read reader block skip size lent).answer)
    × (left.values ≡ (read reader block skip size lent).areas.values)
    × (left.flags ≡ (read reader block skip size lent).areas.flags)
    × (left.ends ≡ (read reader block skip size lent).areas.ends)
    × (left.bytes ≡ (read reader block skip size lent).areas.bytes)

abbrev pub Remains : (reader : Reader) → Left → Type 0
Remains reader answer = answer ≡ remaining reader

-- ---- building
-- with the target of the keys last
abbrev pub Creates : (kind encoding width target key : ℕ) → Creation → Type 0
Creates kind encoding width target key answer = answer ≡ creation_of (created kind encoding width target key)

abbrev pub Finishes : (builder : Builder) (lent : Lent) (room : List ℕ) → Finished → List ℕ → Type 0
Finishes builder lent room answer out = (answer ≡ (finished builder lent room).answer) × (out ≡ (finished builder lent room).out)

abbrev pub Estimates : (builder : Builder) → Estimated → Type 0
Estimates builder answer = answer ≡ estimated builder

abbrev pub Asks : (builder : Builder) (present : Bool) (len : ℕ) → Asked → Type 0
Asks builder present len answer = answer ≡ asked builder present len

-- ---- sheet files
abbrev pub OpensColumn : (file : List ℕ) (column : ℕ) → Found → Type 0
OpensColumn file column answer = answer ≡ column_found file column

abbrev pub WritesSheet : (columns blocks room : List ℕ) → Written → List ℕ → Type 0
WritesSheet columns blocks room answer out = (answer ≡ (write columns blocks room).answer) × (out ≡ (write columns blocks room).out)

-- ---- two blocks
abbrev pub Compares : (a : Descriptor) (first : List ℕ) (b : Descriptor) (second firsts lasts : List ℕ) → Compared → List ℕ → List ℕ → Type 0
Compares a first b second firsts lasts answer firsts' lasts' =
    (answer ≡ (compare a first b second firsts lasts).answer)
    × (firsts' ≡ (compare a first b second firsts lasts).firsts)
    × (lasts' ≡ (compare a first b second firsts lasts).lasts)

-- ---- a damaged block
abbrev pub Salvages : (d : Descriptor) (block firsts lasts room : List ℕ) → Salvaged → List ℕ → List ℕ → List ℕ → Type 0
Salvages d block firsts lasts room answer firsts' lasts' out =
    (answer ≡ (salvage d block firsts lasts room).answer)
    × (firsts' ≡ (salvage d block firsts lasts room).firsts)
    × (lasts' ≡ (salvage d block firsts lasts room).lasts)
    × (out ≡ (salvage d block firsts lasts room).out)

-- ---- the second engine
abbrev pub GivesRow : (d : Descriptor) (block : List ℕ) (row : ℕ) (lent : Areas) → RowGiven → Areas → Type 0
GivesRow d block row lent answer left = (answer ≡ (row_shown d block row lent).answer) × (left ≡ (row_shown d block row lent).areas)
