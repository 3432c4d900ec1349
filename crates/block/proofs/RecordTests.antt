-- The tests of a whole record on each way through `wrong`, and what a record that doesn't contradict itself tells. Assumes nothing.
use Prim.Native.Nat.{ℕ, ◌≤◌, ◌<◌}
use native.Mathlib.Omega.{arith}
use mathlib.Core.Path.{◌≡◌, sym, ◌∙◌}
use mathlib.Core.Bool.{Bool, true, false}
use lib.Dec.{ltb}
use borrow.Author.Tests.{lt-ltb, le-ltb, ltb-false}
use Rattle.limits.specs.Limits.{MOST_BYTES, MOST_ROWS}
use Rattle.encode.specs.declared.Kind.{Kind}
use Rattle.encode.proofs.Bools.{neither}
use Rattle.format.specs.declared.Encoding.{Encoding}
use Rattle.format.specs.declared.Encoding.TheVariants.{Plain, Nullable, RunLength, RunLengthNullable, Dictionary}
use Rattle.format.specs.Opening.{most_rows}
use Rattle.anatomy.specs.Tests.{part_outside, head_wrong}
use Rattle.anatomy.specs.Parts.{Right}
use Rattle.anatomy.proofs.RightNumbers.{head-start}
use Rattle.block.specs.declared.Reader.{Reader}
use Rattle.block.specs.Reading.{wrong}

-- ---- what the tests answer
module _ (k : Kind) (e : Encoding) (r : Reader) where
  abbrev head-test : Bool
  head-test = head_wrong e r.head r.spot.run

  abbrev part-test : Bool
  part-test = part_outside k e r.rows r.len r.head

  pub wrong-length : MOST_BYTES < r.len → true ≡ wrong k e r
  unfolding wrong
  wrong-length h = simp (lt-ltb MOST_BYTES r.len h)

  module _ (h1 : r.len ≤ MOST_BYTES) {m : ℕ} (g : m ≡ most_rows e) where
    pub wrong-rows : m < r.rows → true ≡ wrong k e r
    unfolding wrong
    wrong-rows h = rw (← g) (simp (le-ltb MOST_BYTES r.len h1, lt-ltb m r.rows h))

    module _ (h2 : r.rows ≤ m) where
      pub wrong-place : r.rows < r.place → true ≡ wrong k e r
      unfolding wrong
      wrong-place h = rw (← g) (simp (le-ltb MOST_BYTES r.len h1, le-ltb m r.rows h2, lt-ltb r.rows r.place h))

      module _ (h3 : r.place ≤ r.rows) where
        pub wrong-nulls : r.place < r.nulls → true ≡ wrong k e r
        unfolding wrong
        wrong-nulls h =
            rw (← g)
            (simp (le-ltb MOST_BYTES r.len h1, le-ltb m r.rows h2, le-ltb r.rows r.place h3, lt-ltb r.place r.nulls h))

        module _ (h4 : r.nulls ≤ r.place) {t : Bool} (n : t ≡ head-test) where
          pub wrong-head : t ≡ true → true ≡ wrong k e r
          unfolding wrong
          wrong-head h =
              rw (← g, ← n, h)
              (simp (le-ltb MOST_BYTES r.len h1, le-ltb m r.rows h2, le-ltb r.rows r.place h3, le-ltb r.place r.nulls h4))

          pub wrong-parts : t ≡ false → {o : Bool} → o ≡ part-test → o ≡ wrong k e r
          unfolding wrong
          wrong-parts h q =
              q ∙ rw (← g, ← n, h)
              (simp (le-ltb MOST_BYTES r.len h1, le-ltb m r.rows h2, le-ltb r.rows r.place h3, le-ltb r.place r.nulls h4))

  -- the parts are looked at only where the head is right
  pub parts-ask :
      r.len ≤ MOST_BYTES → {m : ℕ} → m ≡ most_rows e → r.rows ≤ m → {t : Bool} → t ≡ head-test → t ≡ false
      → (r.len ≤ MOST_BYTES) × (r.rows ≤ most_rows e) × (head_wrong e r.head 0 ≡ false)
  parts-ask l g h n f = (l, rw g at h, head-start e r.head r.spot.run (sym n ∙ f))

-- ---- a record that is right
pub record RightRecord (k : Kind) (e : Encoding) (r : Reader) : Type 0 where
  pub place : r.place ≤ r.rows
  pub nulls : r.nulls ≤ r.place
  pub numbers : Right k e r.rows r.len r.head r.spot.run

pub right : (k : Kind) (e : Encoding) (r : Reader) → wrong k e r ≡ false → RightRecord k e r
unfolding wrong
right k e r h =
    let a = neither _ (part-test k e r) h in
    let b = neither _ (head-test k e r) a.0 in
    let n = neither _ (ltb r.place r.nulls) b.0 in
    let c = neither _ (ltb r.rows r.place) n.0 in
    let d = neither _ (ltb (most_rows e) r.rows) c.0 in
    record {
      place = ltb-false r.rows r.place c.1;
      nulls = ltb-false r.place r.nulls n.1;
      numbers = record {
        size = ltb-false MOST_BYTES r.len d.0;
        rows = ltb-false (most_rows e) r.rows d.1;
        head = b.1;
        parts = a.1;
      };
    }

-- as taking the block apart asks it
pub apart-asks : {k : Kind} {e : Encoding} {r : Reader} → RightRecord k e r → Right k e r.rows r.len r.head 0
apart-asks {k} {e} {r} h =
    let w = h.numbers in
    record { size = w.size; rows = w.rows; head = head-start e r.head r.spot.run w.head; parts = w.parts }

pub place-within : (k : Kind) (e : Encoding) (r : Reader) {t : Bool} → t ≡ wrong k e r → t ≡ false → r.place ≤ r.rows
place-within k e r tested h = (right k e r (sym tested ∙ h)).place

-- every encoding holds fewer than 2^48 rows, and so a place within the rows is far from wrapping
pub most-rows : (e : Encoding) → most_rows e ≤ MOST_ROWS
unfolding most_rows
most-rows Plain = omega arith
most-rows Nullable = omega arith
most-rows RunLength = omega arith
most-rows RunLengthNullable = omega arith
most-rows Dictionary = omega arith
