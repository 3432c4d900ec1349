-- Accepted rows, built to a block and read by any calls, come back in their stored form, for every pair. Assumes nothing.
use Rattle.std.specs.Prelude.{Some}
use Prim.Native.Nat.{ℕ}
use mathlib.Core.Bool.{true}
use mathlib.Core.List.{List}
use mathlib.Core.Path.{◌≡◌, ap, ◌∙◌}
use lib.ListN.{length}
use Rattle.encode.specs.declared.Kind.{Kind}
use Rattle.plain.specs.Rows.{Row}
use Rattle.format.specs.declared.Encoding.{Encoding}
use Rattle.format.specs.Blocks.{column_of, block_of, stored_form, column}
use Rattle.format.specs.Sizes.{accepted}
use Rattle.block.specs.Reading.{opened}
use Rattle.block.specs.Calls.{Call, play_opened}
use Rattle.block_laws.proofs.Blocks.{our-blocks-open, our-blocks-hold}
use Rattle.reading_laws.specs.Calls.{expected}
use Rattle.reading_laws.proofs.Calls.{any-calls}

-- The block opens, and every call is answered as the rows in their stored form ask for.
pub our-blocks-read-back :
    (kind encoding width : ℕ) (k : Kind) (e : Encoding) → column_of kind encoding width ≡ Some (column k e)
    → (rows : List Row) → accepted k e rows ≡ true → (cs : List Call)
    → play_opened (opened kind encoding width (length rows) (block_of k e rows)) (block_of k e rows) cs ≡ expected k (stored_form k e rows) cs
our-blocks-read-back kind encoding width k e c rows a cs =
    any-calls kind encoding width (length rows) (block_of k e rows) k e (our-blocks-open k e rows a kind encoding width c) c cs
    ∙ ap (λ (held : List Row). expected k held cs) (our-blocks-hold k e rows a)
