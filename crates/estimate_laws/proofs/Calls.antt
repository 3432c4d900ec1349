-- After any calls on a builder: its estimate against the length that finish answers, and a room in which finish is done. Assumes nothing.
use Prim.Native.Nat.{ℕ, ◌+◌, ◌*◌, ◌≤◌}
use native.Mathlib.Omega.{arith}
use mathlib.Core.Bool.{Bool, true, false}
use mathlib.Core.List.{List, []}
use mathlib.Core.Path.{◌≡◌, refl, sym}
use lib.ListN.{length}
use Rattle.encode.specs.declared.Kind.{Kind}
use Rattle.encode.proofs.Bools.{clash}
use Rattle.plain.specs.Rows.{Row}
use Rattle.format.specs.declared.Encoding.{Encoding}
use Rattle.format.specs.declared.Encoding.TheVariants.{Plain, Nullable, RunLength, RunLengthNullable, Dictionary}
use Rattle.format.specs.Blocks.{column_of, block_of, column}
use Rattle.format.specs.Sizes.{estimate_of, stored_items}
use Rattle.needs.specs.Needs.{coded}
use Rattle.append.specs.Appending.{Lent}
use Rattle.builder.specs.declared.Builder.{Builder}
use Rattle.std.specs.Prelude.{Ok, Some}
use Rattle.builder.specs.declared.Finished.{Finished}
use Rattle.builder.specs.Building.{created}
use Rattle.builder.specs.Finishing.{finished, estimated_as, estimated}
use Rattle.building_laws.specs.Built.{stored_runs}
use Rattle.building_laws.proofs.BuilderOfRows.{Stands}
use Rattle.building_laws.proofs.Built.{estimate-told}
use Rattle.any_building_laws.specs.BuilderCalls.{Call, After, Carries, Carried, accepted_in, after_all}
use Rattle.any_building_laws.proofs.AnyCalls.{agrees-after-any-calls}
use Rattle.whole_way_laws.specs.WholeWay.{finished_after}
use Rattle.whole_way_laws.proofs.WholeWay.{finished-exactly, block-as-written}
use Rattle.estimate_laws.specs.Bounds.{beyond, most, least, SomeRows}
use Rattle.estimate_laws.specs.Calls.{most_by, least_by, DoneAtMost, DoneAtLeast, DoneInRoom, SomeAccepted}
use Rattle.estimate_laws.proofs.Bounds.{exact, at_most, at_least}

-- ---- of a list, by the runs that a record counts
-- in runs they are the stored items
items-are-runs : (e : Encoding) (rows : List Row) → coded e ≡ true → stored_items e rows ≡ length (stored_runs e rows)
unfolding coded stored_items stored_runs
items-are-runs Plain rows h = clash (sym h)
items-are-runs Nullable rows h = clash (sym h)
items-are-runs RunLength rows h = refl
items-are-runs RunLengthNullable rows h = refl
items-are-runs Dictionary rows h = refl

module _ (k : Kind) (e : Encoding) (rows : List Row) where
  most-by-runs : length (block_of k e rows) ≤ estimate_of k e rows + beyond e + 3 * length (stored_runs e rows)
  unfolding most
  most-by-runs = go (coded e) refl
    where
      go : (t : Bool) → coded e ≡ t → length (block_of k e rows) ≤ estimate_of k e rows + beyond e + 3 * length (stored_runs e rows)
      go true h = omega (arith, at_most k e rows h, items-are-runs e rows h)
      go false h = omega (arith, exact k e rows h)

  least-by-runs : coded e ≡ true → SomeRows rows → estimate_of k e rows + beyond e ≤ length (block_of k e rows) + length (stored_runs e rows)
  unfolding least
  least-by-runs h some = omega (arith, at_least k e rows h some, items-are-runs e rows h)

-- ---- from the creation on
module _ (kind encoding width target key : ℕ) (k : Kind) (e : Encoding) (column : column_of kind encoding width ≡ Some (column k e))
    (r : Builder) (new : created kind encoding width target key ≡ Ok r) (cs : List Call) (carried : Carried k e r cs) (a : Lent) where
  abbrev rows : List Row
  rows = accepted_in k e [] cs

  abbrev after : After
  after = after_all r a cs

  -- the builder counts the runs of the rows accepted, and estimates these rows
  stands : Stands k e target key rows after.builder after.areas
  stands = (agrees-after-any-calls kind encoding width target key k e column r new cs carried a).stands

  estimate-told-after : estimated after.builder ≡ estimated_as 0 (estimate_of k e rows) after.builder
  estimate-told-after = estimate-told k e target key rows after.builder after.areas stands

  size-told : (estimated after.builder).size ≡ estimate_of k e rows
  size-told = rw estimate-told-after

  most-told : length (block_of k e rows) ≤ most_by e after.builder
  unfolding most_by
  most-told = omega (arith, size-told, stands.recorded.runs, most-by-runs k e rows)

  least-told : coded e ≡ true → SomeAccepted k e cs → least_by e after.builder ≤ length (block_of k e rows) + after.builder.counted.runs
  unfolding least_by
  least-told h some = omega (arith, size-told, stands.recorded.runs, least-by-runs k e rows h some)

  -- The estimate is answered with 0.
  pub estimate-done : (estimated after.builder).number ≡ 0
  estimate-done = rw estimate-told-after

  -- ---- finish, on areas that carry what the last call left, and in any room
  module _ (lent : Lent) (carries : Carries k e after.builder.counted after.areas lent) (out : List ℕ) where
    abbrev answer : Finished
    answer = (finished after.builder lent out).answer

    done-length : answer.number ≡ 0 → answer.len ≡ length (block_of k e rows)
    unfolding finished_after
    done-length z = (block-as-written kind encoding width target key k e column r new cs carried a lent carries out z).0

    -- The length is at most the estimate, what that leaves out, and 3 for each run recorded: of every encoding, and of no rows too.
    pub finish-at-most : DoneAtMost e after.builder answer
    finish-at-most z = omega (arith, done-length z, most-told)

    -- In runs, with a row accepted, the length and the runs are at least the estimate and what that leaves out.
    pub finish-at-least : coded e ≡ true → SomeAccepted k e cs → DoneAtLeast e after.builder answer
    finish-at-least h some z = omega (arith, done-length z, least-told h some)

    -- A room of so many bytes is enough, whatever the rows: a wrapper sets it aside before it calls finish.
    pub room-is-enough : DoneInRoom e after.builder out answer
    unfolding finished_after
    room-is-enough h = (finished-exactly kind encoding width target key k e column r new cs carried a lent carries out).0 (omega (arith, most-told))
