-- Areas that are lengthened at their ends carry what they held, so any calls on such memory are answered as the rows accepted so far tell. Assumes nothing.
use Prim.Native.Nat.{ℕ, ◌/◌, ◌≤◌, ◌<◌}
use native.Mathlib.Omega.{arith}
use mathlib.Core.Bool.{true}
use mathlib.Core.List.{List, [], ◌∷◌, ◌++◌}
use mathlib.Core.Logic.{inl, inr}
use mathlib.Core.Path.{◌≡◌}
use lib.ListN.{length, length-append, get_or-append}
use lib.Seq.{take-append-le}
use Rattle.encode.specs.declared.Kind.{Kind}
use Rattle.plain.specs.Rows.{Row}
use Rattle.plain.proofs.Places.{over-same}
use Rattle.nullable.specs.Nullable.{bitmap_length, bit_at}
use Rattle.format.specs.declared.Encoding.{Encoding}
use Rattle.format.specs.Blocks.{column_of, column}
use Rattle.needs.specs.declared.Counted.{Counted}
use Rattle.needs.specs.Needs.{flagged, keyed, stored_by}
use Rattle.append.specs.Appending.{Lent}
use Rattle.builder.specs.declared.Builder.{Builder}
use Rattle.std.specs.Prelude.{Ok, Some}
use Rattle.builder.specs.Building.{created}
use Rattle.building_laws.specs.Built.{stored_rows, stored_runs, end_slots, len_slots, Enough}
use Rattle.building_laws.proofs.Records.{Recorded, stored-by}
use Rattle.any_building_laws.specs.BuilderCalls.{Call, after, answers, Carries, CarriedOn, Carried, accepted_by, expected, longer, SameOrLonger, LengthenedOn, Lengthened}
use Rattle.any_building_laws.proofs.Carrying.{need-if, carries_same, Agrees, agrees-carried, agrees_first}
use Rattle.any_building_laws.proofs.OneCall.{one-call}
use Rattle.any_building_laws.proofs.AnyCalls.{any-building-calls}

-- ---- the areas of one call
bit-longer : (flags more : List ℕ) (n i : ℕ) → bitmap_length n ≤ length flags → i < n → bit_at (flags ++ more) i ≡ bit_at flags i
unfolding bit_at bitmap_length
bit-longer flags more n i h l =
    let in-flags : i / 8 < length flags = omega arith in
    rw (get_or-append flags more 0 (i / 8) in-flags)

-- Longer areas carry what the shorter ones held, if those were long enough for all that is recorded.
pub longer-carries : (k : Kind) (e : Encoding) (rows : List Row) (c : Counted) (a more : Lent) → Recorded k e rows c → Enough k e rows a
    → Carries k e c a (longer a more)
unfolding longer
longer-carries k e rows c a more r h =
    let n : ℕ = length (stored_rows e rows) in
    let rs : ℕ = length (stored_runs e rows) in
    let s : stored_by e c ≡ n = stored-by k rows c e r in
    let long : flagged e ≡ true → bitmap_length n ≤ length a.flags = need-if (flagged e) (bitmap_length n) (length a.flags) h.flags in
    record {
      items = take-append-le c.bytes a.items more.items (rw r.bytes h.items);
      ends = rw s (take-append-le (end_slots k n) a.ends more.ends h.ends);
      flags_long = λ u. rw s (omega (arith, long u, length-append a.flags more.flags));
      flags = λ u.
          rw s
          (over-same (bit_at (a.flags ++ more.flags)) (bit_at a.flags) n 0
          (λ i low high. bit-longer a.flags more.flags n i (long u) (omega arith)));
      counts = take-append-le c.runs a.counts more.counts (rw r.runs h.counts);
      keys = λ u. rw r.runs (take-append-le rs a.keys more.keys (need-if (keyed e) rs (length a.keys) h.keys u));
      lens = rw s (take-append-le (len_slots k n) a.lens more.lens h.lens);
    }

-- ---- the areas of all calls
module _ (k : Kind) (e : Encoding) (target key : ℕ) where
  pub one-carried : (rows : List Row) (r : Builder) (left lent : Lent) → Agrees k e target key rows r left → SameOrLonger left lent → Carries k e r.counted left lent
  one-carried rows r left lent g (inl p) = rw p (carries_same k e rows r.counted left g.stands.recorded g.enough)
  one-carried rows r left lent g (inr p) = rw p.1 (longer-carries k e rows r.counted left p.0 g.stands.recorded g.enough)

  all-carried : (cs : List Call) (rows : List Row) (r : Builder) (left : Lent) → Agrees k e target key rows r left → LengthenedOn r left cs → CarriedOn k e r left cs
  all-carried [] rows r left g h = tt
  all-carried (c ∷ cs) rows r left g h =
      let p = one-carried rows r left c.areas g h.0 in
      let t = one-call k e target key rows r c.areas (agrees-carried k e target key rows r left c.areas g p) c.ask in
      (p, all-carried cs (accepted_by k e rows c.areas c.ask) (after r c.areas c.ask).builder (after r c.areas c.ask).areas t.next h.1)

module _ (kind encoding width target key : ℕ) (k : Kind) (e : Encoding) (column : column_of kind encoding width ≡ Some (column k e))
    (r : Builder) (new : created kind encoding width target key ≡ Ok r) where
  pub lengthened-is-carried : (cs : List Call) → Lengthened r cs → Carried k e r cs
  lengthened-is-carried [] h = tt
  lengthened-is-carried (c ∷ cs) h =
      let t = one-call k e target key [] r c.areas (agrees_first kind encoding width target key k e column r new c.areas) c.ask in
      all-carried k e target key cs (accepted_by k e [] c.areas c.ask) (after r c.areas c.ask).builder (after r c.areas c.ask).areas t.next h

  -- Any calls on memory that stays, or is lengthened at its end before a call, are answered as the rows accepted so far tell.
  pub calls-on-lengthened-memory : (cs : List Call) → Lengthened r cs → answers r cs ≡ expected k e target key [] cs
  calls-on-lengthened-memory cs h = any-building-calls kind encoding width target key k e column r new cs (lengthened-is-carried cs h)
