-- 02 (xiii): for every sound block and every row of it, the definition gives what a fresh reader gives behind the rows before it. Assumes nothing.
use Prim.Native.Nat.{ℕ, ◌-◌, ◌≤◌, ◌<◌}
use native.Mathlib.Omega.{arith}
use mathlib.Core.Bool.{Bool, true, false, ◌&&◌}
use mathlib.Core.List.{List, [], ◌∷◌}
use mathlib.Core.Path.{◌≡◌, refl, sym, ap, ◌∙◌}
use lib.Dec.{eqb}
use lib.ListN.{length, take, get_or, length-map}
use lib.Seq.{drop-cons}
use borrow.Author.Tests.{lt-leb}
use Rattle.encode.specs.declared.Kind.{Kind}
use Rattle.plain.specs.Rows.{Row, null}
use Rattle.rle.specs.declared.Spot.{Spot}
use Rattle.format.specs.declared.Encoding.{Encoding}
use Rattle.format.specs.Opening.{head_of, places_of, row_at, rows_of}
use Rattle.block.specs.declared.Reader.{Reader}
use Rattle.block.specs.Reading.{Areas, head_in, moved, short, give, whole, pass_then, asks_nothing, read}
use Rattle.block.proofs.ReadTests.{tests-fine, read-passed}
use Rattle.reading_laws.proofs.RowsLeft.{Stands, Later, start, later, not-wrong}
use Rattle.reading_laws.proofs.OneCall.{map-drop, rows_at, step, given, given_is, gives}
use Rattle.descriptor.specs.declared.Descriptor.{Descriptor}
use Rattle.descriptor.specs.Descriptor.{described_number}
use Rattle.slow_answer.specs.Slow.{shown_in, shown_of, shown_by, row_shown}
use Rattle.slow_laws.specs.Agreeing.{Same, Agree}
use Rattle.slow_laws.proofs.Openings.{kept}

-- ---- one row
-- a read of one row asks for something
asks-one : (skip : ℕ) → asks_nothing skip 1 ≡ false
asks-one skip = go (eqb skip 0)
  where
    go : (t : Bool) → (t && false) ≡ false
    go true = refl
    go false = refl

-- one row is refused by both for the same room, or given by both
same_row : (k : Kind) (row : Row) (r s : Reader) (t : Spot) (a : Areas) → Same (shown_in k row a) (whole r a (give k s (row ∷ []) t a))
unfolding shown_in give whole
same_row k row r s t a = go (short k (row ∷ []) a) refl
  where
    go : (u : Bool) → short k (row ∷ []) a ≡ u → Same (shown_in k row a) (whole r a (give k s (row ∷ []) t a))
    go true q = rw q (refl, refl, refl)
    go false q = rw q (refl, refl, refl)

-- ---- a reader that stands well, asked for the row behind some of those that are left
module _ {k : Kind} {e : Encoding} {n : ℕ} {b : List ℕ} {r : Reader} {is : List ℕ} (g : Stands k e n b r is) (skip : ℕ) (a : Areas) (h : skip < length is) where
  there : Later k e n b r is skip
  there = later g skip (omega arith)

  abbrev there-given : List Row
  there-given = given there.stands 1 a

  -- no test refuses, the rows before are passed over, and what is left is given
  read-there : read r b skip 1 a ≡ whole r a (give k (moved r skip there.mid) there-given (step there.stands 1 a).mid a)
  unfolding pass_then
  read-there =
      let fits : skip ≤ r.rows - r.place = omega (arith, g.count) in
      let fine = tests-fine r (length b) skip 1 refl (asks-one skip) refl g.column g.long refl (not-wrong k e r g.right) fits in
      sym (read-passed r b skip 1 a fine).on
      ∙ ap (pass_then k e r b skip 1 a) there.first
      ∙ ap (whole r a) (gives there.stands 1 a)

  -- which is the one row
  one-given : there-given ≡ get_or (rows_at k e n b is) skip null ∷ []
  one-given =
      let l : skip < length (rows_at k e n b is) = omega (arith, length-map is (row_at k e n (head_of e b) b)) in
      sym (given_is there.stands 1 a)
      ∙ ap (take 1) (map-drop (row_at k e n (head_of e b) b) skip is ∙ drop-cons (rows_at k e n b is) skip null l)

  same-there : Same (shown_in k (get_or (rows_at k e n b is) skip null) a) (read r b skip 1 a)
  same-there = rw (read-there, one-given) (same_row k (get_or (rows_at k e n b is) skip null) r _ _ a)

-- ---- from the opening on
-- the row that is asked for is there
row-there : (d : Descriptor) (b : List ℕ) (r : ℕ) (a : Areas) (z : described_number d b ≡ 0) → r < d.rows
    → row_shown d b r a ≡ shown_in (kept d b z).kind (get_or (rows_of (kept d b z).kind (kept d b z).encoding d.rows b) r null) a
unfolding shown_by shown_of
row-there d b r a z h = rw (z, (kept d b z).column) (simp (lt-leb d.rows r h))

-- Number, bytes and all lent memory are the same, for every sound block, every row of it and whatever is lent.
pub slow-agrees : Agree
unfolding head_in rows_of
slow-agrees d b r a z h =
    let c = kept d b z in
    let s = start c.kind d.rows b d.kind d.encoding d.width c.encoding c.column c.sound in
    let l : r < length (places_of c.encoding d.rows (head_of c.encoding b) b) = omega (arith, s.count) in
    rw (row-there d b r a z h, c.column) (same-there s r a l)
