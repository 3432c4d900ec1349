-- 01, "Building" and "Reading": create, any of the builder's calls, refused ones among them, finish, open with the number of rows accepted, any of the
-- reader's calls: answered exactly as the stored form of the rows accepted asks. Assumes nothing.
use Prim.Native.Nat.{ℕ, ◌≤◌, ◌<◌}
use mathlib.Core.List.{List, []}
use mathlib.Core.Path.{◌≡◌}
use lib.ListN.{length, drop}
use Rattle.limits.specs.Refusals.{ROOM}
use Rattle.encode.specs.declared.Kind.{Kind}
use Rattle.plain.specs.Rows.{Row}
use Rattle.format.specs.declared.Encoding.{Encoding}
use Rattle.format.specs.Blocks.{column_of, block_of, stored_form, column}
use Rattle.append.specs.Appending.{Lent}
use Rattle.builder.specs.declared.Builder.{Builder}
use Rattle.std.specs.Prelude.{Ok, Some}
use Rattle.builder.specs.Building.{created}
use Rattle.builder.specs.Finishing.{Finish}
use Rattle.building_laws.specs.Built.{finish_due}
use Rattle.any_building_laws.specs.BuilderCalls.{Call as BuilderCall, answers, Carries, Carried, accepted_in, after_all, SameOrLonger, Lengthened}
use Rattle.any_building_laws.proofs.AcceptedRows.{accepted-list}
use Rattle.any_building_laws.proofs.AnyCalls.{any-building-calls, agrees-after-any-calls, finish-after-any-calls}
use Rattle.any_building_laws.proofs.Lengthening.{one-carried, lengthened-is-carried}
use Rattle.block.specs.Calls.{Call as ReaderCall}
use Rattle.reading_laws.specs.Calls.{expected, handed_out, unskipped}
use Rattle.reading_laws.proofs.Calls.{expected-in-order}
use Rattle.reading_laws.proofs.Ours.{our-blocks-read-back}
use Rattle.whole_way_laws.specs.WholeWay.{rows_done, finished_after, written, read_back}
use Rattle.whole_way_laws.proofs.Written.{done-if-held, short-if-not, held-if-done, block_written, behind-stays}
use Rattle.whole_way_laws.proofs.CountedRows.{done-among-expected}

module _ (kind encoding width target key : ℕ) (k : Kind) (e : Encoding) (column : column_of kind encoding width ≡ Some (column k e))
    (r : Builder) (new : created kind encoding width target key ≡ Ok r) where
  -- The rows accepted are those whose append was answered with 0, in order; so a caller who counts these answers opens with the number of rows accepted.
  pub accepted-as-answered : (cs : List BuilderCall) → Carried k e r cs → accepted_in k e [] cs ≡ rows_done k cs (answers r cs)
  accepted-as-answered cs h = rw (any-building-calls kind encoding width target key k e column r new cs h) (done-among-expected k e target key cs [])

  -- ---- finish and what follows, on areas that carry what the last call left; `a` are those left where there was no call
  module _ (cs : List BuilderCall) (carried : Carried k e r cs)
      (a lent : Lent) (carries : Carries k e (after_all r a cs).builder.counted (after_all r a cs).areas lent) (out : List ℕ) where
    abbrev rows : List Row
    rows = accepted_in k e [] cs

    abbrev built : Builder
    built = (after_all r a cs).builder

    abbrev f : Finish
    f = finished_after r a cs lent out

    told : f ≡ finish_due built (block_of k e rows) out
    unfolding finished_after
    told = finish-after-any-calls kind encoding width target key k e column r new cs carried a lent carries out

    -- Finish is 0 exactly if the room holds the block of the rows accepted, and else 4.
    pub finished-exactly :
        (length (block_of k e rows) ≤ length out → f.answer.number ≡ 0)
        × (f.answer.number ≡ 0 → length (block_of k e rows) ≤ length out)
        × (length out < length (block_of k e rows) → f.answer.number ≡ ROOM)
    finished-exactly = rw told (done-if-held built (block_of k e rows) out, held-if-done built (block_of k e rows) out, short-if-not built (block_of k e rows) out)

    -- Nothing behind the length answered is touched, whatever the number is.
    pub nothing-behind : drop f.answer.len f.out ≡ drop f.answer.len out
    nothing-behind = rw told (behind-stays built (block_of k e rows) out)

    -- If it is 0, that length is the block's, and the block lies in front of it.
    pub block-as-written : f.answer.number ≡ 0 → (f.answer.len ≡ length (block_of k e rows)) × (written f ≡ block_of k e rows)
    block-as-written z = rw told (block_written built (block_of k e rows) out (rw told at z))

    -- What finish wrote, opened with the number of rows accepted and read by any calls, is answered exactly as the stored form of these rows asks.
    pub whole-way : f.answer.number ≡ 0 → (ds : List ReaderCall) → read_back kind encoding width rows (written f) ds ≡ expected k (stored_form k e rows) ds
    unfolding read_back
    whole-way z ds = rw (block-as-written z).1 (our-blocks-read-back kind encoding width k e column rows (accepted-list k e cs) ds)

    -- All rows that the reads gave, one after the other, are those of the stored form that none passed over, in order, up to the place reached.
    pub stored-rows-in-order : f.answer.number ≡ 0 → (ds : List ReaderCall)
        → let xs = read_back kind encoding width rows (written f) ds in handed_out xs ≡ unskipped (stored_form k e rows) xs
    stored-rows-in-order z ds = rw (whole-way z ds) (expected-in-order k (stored_form k e rows) ds)

  -- ---- the same on memory that stays, or is lengthened at its end before a call: nothing is asked of what it holds
  module _ (cs : List BuilderCall) (lengthened : Lengthened r cs) (a lent : Lent) (same-or-longer : SameOrLonger (after_all r a cs).areas lent) where
    carried-by-length : Carried k e r cs
    carried-by-length = lengthened-is-carried kind encoding width target key k e column r new cs lengthened

    carries-by-length : Carries k e (after_all r a cs).builder.counted (after_all r a cs).areas lent
    carries-by-length =
        one-carried k e target key (accepted_in k e [] cs) (after_all r a cs).builder (after_all r a cs).areas lent
        (agrees-after-any-calls kind encoding width target key k e column r new cs carried-by-length a)
        same-or-longer

    pub whole-way-on-lengthened-memory : (out : List ℕ) → (finished_after r a cs lent out).answer.number ≡ 0 → (ds : List ReaderCall)
        → read_back kind encoding width (accepted_in k e [] cs) (written (finished_after r a cs lent out)) ds ≡ expected k (stored_form k e (accepted_in k e [] cs)) ds
    whole-way-on-lengthened-memory = whole-way cs carried-by-length a lent carries-by-length
