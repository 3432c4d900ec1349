-- A read in two, on every record and every block: where one call passes over the rows and the next gives those behind them, one call for both comes to the
-- same; only that it has moved nothing where the second is refused. Assumes nothing.
use Rattle.std.specs.Prelude.{Option, Some, None}
use Prim.Native.Nat.{ℕ, ◌-◌, min}
use native.Mathlib.Nat.{add-zero, min-le_left}
use native.Mathlib.Omega.{arith}
use mathlib.Core.Bool.{Bool, true, false, cond, not, ◌&&◌, ◌||◌}
use mathlib.Core.List.{List, []}
use mathlib.Core.Path.{◌≡◌, refl, sym, ap, subst, ◌∙◌}
use lib.Dec.{ltb, eqb}
use lib.ListN.{length}
use borrow.Author.Tests.{le-ltb, ltb-false, ne_eqb}
use Rattle.limits.specs.Refusals.{NO_ROWS, TOO_FAR, DISAGREE}
use Rattle.encode.specs.declared.Kind.{Kind}
use Rattle.zeros.specs.Zeros.{zeros_in}
use Rattle.encode.proofs.Bools.{clash, neither, or-none}
use Rattle.plain.specs.Plain.{all_of, places}
use Rattle.rle.specs.Stepping.{Steps, stuck, rows, steps_from}
use Rattle.rle.specs.declared.Spot.{Spot}
use Rattle.format.specs.declared.Encoding.{Encoding}
use Rattle.format.specs.declared.Encoding.TheVariants.{Plain, Nullable, RunLength, RunLengthNullable, Dictionary}
use Rattle.format.specs.declared.Column.{Column}
use Rattle.format.specs.Blocks.{column_of, column}
use Rattle.block.specs.declared.Reader.{Reader}
use Rattle.block.specs.Reading.{wrong, next_steps, moved, counted, nulls_in}
use Rattle.block.specs.Reading.{Areas, Batch, filled_in, given_bytes, refused_batch, give, batch_of, up_to, whole, pass_then, read_in, asks_nothing, read}
use Rattle.block.proofs.RecordTests.{right}
use Rattle.block.proofs.MovedReader.{moved-right}
use Rattle.reading_laws.proofs.RowsLeft.{not-wrong}
use Rattle.reading_laws.proofs.Calls.{none-fits}

-- ---- no rows
no_steps : (e : Encoding) (r : Reader) (b : List ℕ) → next_steps e r b 0 ≡ rows [] r.spot
unfolding next_steps places steps_from
no_steps Plain r b = refl
no_steps Nullable r b = refl
no_steps RunLength r b = refl
no_steps RunLengthNullable r b = refl
no_steps Dictionary r b = refl

-- a reader that goes past no rows stays where it is, and gave no null
stays : (r : Reader) → moved r 0 r.spot ≡ r
stays r = rw (add-zero r.place)

stays-counted : (r : Reader) → counted (moved r 0 r.spot) (nulls_in []) ≡ r
unfolding nulls_in zeros_in
stays-counted r = rw (add-zero r.place, add-zero r.nulls)

-- up to 0 rows is none, which are given whatever room there is
abbrev none-given : Kind → Reader → Areas → Batch
none-given k r a = record { answer = record { number = 0; rows = 0; bytes = given_bytes k []; reader = r }; areas = filled_in k [] a }

up-to-none : (k : Kind) (e : Encoding) (r : Reader) (b : List ℕ) (a : Areas) → up_to k e r b 0 a ≡ none-given k r a
unfolding up_to batch_of all_of give
up-to-none k e r b a =
    let m = min-le_left 0 (r.rows - r.place) in
    let z : min 0 (r.rows - r.place) ≡ 0 = omega arith in
    rw (z, no_steps e r b) (simp (none-fits k a) (ap (none-given-by k a) (stays-counted r)))
  where
    none-given-by : Kind → Areas → Reader → Batch
    none-given-by k a x = none-given k x a

-- what is whole, or handed back once, is handed back no other way the second time
whole_twice : (r s : Reader) (a : Areas) (x : Batch) → whole r a (whole s a x) ≡ whole r a x
unfolding whole
whole_twice r s a x = go (eqb x.answer.number 0) refl
  where
    go : (t : Bool) → eqb x.answer.number 0 ≡ t
        → whole r a (cond t x (refused_batch x.answer.number s a)) ≡ whole r a x
    go true q = refl
    go false q = rw q

-- ---- the rows passed over
-- one that passes over rows asks for something, however many it is to give
asks-something : (x y : Bool) → (x && true) ≡ false → (x && y) ≡ false
asks-something true y h = clash h
asks-something false y h = refl

module _ (r : Reader) (b : List ℕ) (skip : ℕ) where
  -- the way up to the rows behind them
  record Way : Type 0 where
    k : Kind
    e : Encoding
    is : List ℕ
    t : Spot
    some : asks_nothing skip 0 ≡ false
    column : column_of r.kind r.encoding r.width ≡ Some (column k e)
    tests : (not (eqb (length b) r.len) || wrong k e r) ≡ false
    within : ltb (r.rows - r.place) skip ≡ false
    steps : next_steps e r b skip ≡ rows is t

  -- a read of no rows: either it got there, or it was refused, and then every read that is to pass over as many rows is refused so
  abbrev Either : Batch → Type 0
  Either x = (x.answer.number ≡ 0 → Way) × ((x.answer.number ≡ 0 → ⊥) → (size : ℕ) (a : Areas) → read r b skip size a ≡ refused_batch x.answer.number r a)

  module _ (a₀ : Areas) (some : asks_nothing skip 0 ≡ false) where
    abbrev not-nothing : (size : ℕ) → asks_nothing skip size ≡ false
    not-nothing size = asks-something (eqb skip 0) (eqb size 0) some

    module _ {k : Kind} {e : Encoding} (column : column_of r.kind r.encoding r.width ≡ Some (column k e)) where
      module _ (tests : (not (eqb (length b) r.len) || wrong k e r) ≡ false) (within : ltb (r.rows - r.place) skip ≡ false) where
        by-steps : (w : Steps) → next_steps e r b skip ≡ w → Either (pass_then k e r b skip 0 a₀ w)
        unfolding read read_in pass_then whole
        by-steps stuck q = (λ h. absurd (omega (arith, h)), λ h size a. rw (not-nothing size, column, tests, within, q))
        by-steps (rows is t) q = (
          λ h. record { k = k; e = e; is = is; t = t; some = some; column = column; tests = tests; within = within; steps = q },
          λ h. absurd (h (rw (up-to-none k e (moved r skip t) b a₀))),
        )

      by_tests : (s t : Bool) → (not (eqb (length b) r.len) || wrong k e r) ≡ s → ltb (r.rows - r.place) skip ≡ t
          → Either (cond s (refused_batch DISAGREE r a₀) (cond t (refused_batch TOO_FAR r a₀) (pass_then k e r b skip 0 a₀ (next_steps e r b skip))))
      unfolding read read_in
      by_tests true t h w = (λ z. absurd (omega (arith, z)), λ z size a. rw (not-nothing size, column, h))
      by_tests false true h w = (λ z. absurd (omega (arith, z)), λ z size a. rw (not-nothing size, column, h, w))
      by_tests false false h w = by-steps h w (next_steps e r b skip) refl

    by-column : (x : Option Column) → column_of r.kind r.encoding r.width ≡ x → Either (read_in x r b skip 0 a₀)
    unfolding read read_in
    by-column None q = (λ z. absurd (omega (arith, z)), λ z size a. rw (not-nothing size, q))
    by-column (Some c) q = by_tests q (not (eqb (length b) r.len) || wrong c.kind c.encoding r) (ltb (r.rows - r.place) skip) refl refl

  either : (a₀ : Areas) → asks_nothing skip 0 ≡ false → Either (read r b skip 0 a₀)
  unfolding read
  either a₀ some = subst (λ (t : Bool). Either (cond t (refused_batch NO_ROWS r a₀) (read_in (column_of r.kind r.encoding r.width) r b skip 0 a₀))) (sym some)
      (by-column a₀ some (column_of r.kind r.encoding r.width) refl)

  -- one that is done asks for something
  done-asks : (a₀ : Areas) → (read r b skip 0 a₀).answer.number ≡ 0 → asks_nothing skip 0 ≡ false
  unfolding read
  done-asks a₀ = go (asks_nothing skip 0)
    where
      go : (t : Bool) → (cond t (refused_batch NO_ROWS r a₀) (read_in (column_of r.kind r.encoding r.width) r b skip 0 a₀)).answer.number ≡ 0 → t ≡ false
      go true h = absurd (omega (arith, h))
      go false h = refl

  module _ (w : Way) where
    abbrev behind : Reader
    behind = moved r skip w.t

    -- one call for all of it
    reads_all : (size : ℕ) (a : Areas) → asks_nothing skip size ≡ false → read r b skip size a ≡ whole r a (up_to w.k w.e behind b size a)
    unfolding read read_in pass_then
    reads_all size a some = rw (some, w.column, w.tests, w.within, w.steps)

    reader-behind : (a₀ : Areas) → (read r b skip 0 a₀).answer.reader ≡ behind
    unfolding whole
    reader-behind a₀ = rw (reads_all 0 a₀ w.some, up-to-none w.k w.e behind b a₀)

    still-right : (not (eqb (length b) r.len) || wrong w.k w.e behind) ≡ false
    still-right =
        let n = neither (not (eqb (length b) r.len)) (wrong w.k w.e r) w.tests in
        let g = right w.k w.e r n.1 in
        or-none n.0 (not-wrong w.k w.e behind (moved-right w.k r b skip w.e g (ltb-false (r.rows - r.place) skip w.within) w.steps))

    -- and a second one for the rows behind
    reads_on : (size : ℕ) (a : Areas) → (size ≡ 0 → ⊥) → read behind b 0 size a ≡ whole behind a (up_to w.k w.e behind b size a)
    unfolding read read_in pass_then
    reads_on size a z =
        rw (w.column, still-right, no_steps w.e behind b, stays behind)
        (simp (ne_eqb size 0 z, le-ltb (behind.rows - behind.place) 0 (omega arith)))

-- ---- in two
-- Where a read that passes over rows and gives none is done, one that also gives some is the read of those on its reader, or its refusal with the reader that
-- was first given.
pub read-in-two : (r : Reader) (b : List ℕ) (skip size : ℕ) (a₀ a : Areas) → (read r b skip 0 a₀).answer.number ≡ 0 → (size ≡ 0 → ⊥)
    → read r b skip size a ≡ whole r a (read (read r b skip 0 a₀).answer.reader b 0 size a)
read-in-two r b skip size a₀ a done z =
    let some = done-asks r b skip a₀ done in
    let w = (either r b skip a₀ some).0 done in
    reads_all r b skip w size a (asks-something (eqb skip 0) (eqb size 0) some)
    ∙ sym (whole_twice r (behind r b skip w) a (up_to w.k w.e (behind r b skip w) b size a))
    ∙ ap (whole r a) (sym (reads_on r b skip w size a z))
    ∙ ap (λ (x : Reader). whole r a (read x b 0 size a)) (sym (reader-behind r b skip w a₀))

-- Where it is refused, so is every read that is to pass over as many rows.
pub refused-in-two : (r : Reader) (b : List ℕ) (skip size : ℕ) (a₀ a : Areas) → (skip ≡ 0 → ⊥) → ((read r b skip 0 a₀).answer.number ≡ 0 → ⊥)
    → read r b skip size a ≡ refused_batch (read r b skip 0 a₀).answer.number r a
refused-in-two r b skip size a₀ a z not_done = (either r b skip a₀ (ap (λ (t : Bool). t && true) (ne_eqb skip 0 z))).1 not_done size a
