-- A read that is refused gives back the reader that it was given, and writes nothing; asking what remains gives it back, refused or not: on every record
-- and every block. Assumes nothing.
use Rattle.std.specs.Prelude.{Option, Some, None}
use Prim.Native.Nat.{ℕ, ◌-◌}
use mathlib.Core.Bool.{Bool, true, false, cond, not, ◌||◌}
use mathlib.Core.List.{List}
use mathlib.Core.Path.{◌≡◌, refl}
use lib.Dec.{ltb, eqb}
use lib.ListN.{length}
use borrow.Author.Tests.{eqb-true}
use Rattle.limits.specs.Refusals.{NO_ROWS, TOO_FAR, DISAGREE}
use Rattle.encode.specs.declared.Kind.{Kind}
use Rattle.rle.specs.Stepping.{Steps, stuck, rows}
use Rattle.format.specs.declared.Encoding.{Encoding}
use Rattle.format.specs.declared.Column.{Column}
use Rattle.format.specs.Blocks.{column_of}
use Rattle.block.specs.declared.Reader.{Reader}
use Rattle.block.specs.Reading.{wrong, next_steps, moved, left, remaining_in, remaining}
use Rattle.block.specs.Reading.{Areas, Batch, refused_batch, up_to, whole, pass_then, read_in, asks_nothing, read}

-- ---- remaining
module _ (r : Reader) where
  remaining-by : (x : Option Column) → (remaining_in x r).reader ≡ r
  unfolding remaining_in
  remaining-by None = refl
  remaining-by (Some c) = go (wrong c.kind c.encoding r)
    where
      go : (b : Bool) → (cond b (left DISAGREE 0 r) (left 0 (r.rows - r.place) r)).reader ≡ r
      go true = refl
      go false = refl

  pub remaining-hands-back : (remaining r).reader ≡ r
  unfolding remaining
  remaining-hands-back = remaining-by (column_of r.kind r.encoding r.width)

-- ---- read
module _ (r : Reader) (b : List ℕ) (skip size : ℕ) (a : Areas) where
  abbrev Kept : Batch → Type 0
  Kept x = (x.answer.number ≡ 0 → ⊥) → x ≡ refused_batch x.answer.number r a

  whole-kept : (x : Batch) → Kept (whole r a x)
  unfolding whole
  whole-kept x = go (eqb x.answer.number 0) refl
    where
      go : (t : Bool) → eqb x.answer.number 0 ≡ t → Kept (cond t x (refused_batch x.answer.number r a))
      go true q h = absurd (h (eqb-true x.answer.number 0 q))
      go false q h = refl

  rows-kept : (k : Kind) (e : Encoding) (w : Steps) → Kept (pass_then k e r b skip size a w)
  unfolding pass_then
  rows-kept k e stuck = λ h. refl
  rows-kept k e (rows is t) = whole-kept (up_to k e (moved r skip t) b size a)

  column-kept : (x : Option Column) → Kept (read_in x r b skip size a)
  unfolding read_in
  column-kept None = λ h. refl
  column-kept (Some c) = go (not (eqb (length b) r.len) || wrong c.kind c.encoding r) (ltb (r.rows - r.place) skip)
    where
      go : (s t : Bool) → Kept (cond s (refused_batch DISAGREE r a) (cond t (refused_batch TOO_FAR r a) (pass_then c.kind c.encoding r b skip size a (next_steps c.encoding r b skip))))
      go true t h = refl
      go false true h = refl
      go false false h = rows-kept c.kind c.encoding (next_steps c.encoding r b skip) h

  pub refused-read : ((read r b skip size a).answer.number ≡ 0 → ⊥) → read r b skip size a ≡ refused_batch (read r b skip size a).answer.number r a
  unfolding read
  refused-read = go (asks_nothing skip size)
    where
      x : Option Column
      x = column_of r.kind r.encoding r.width

      go : (s : Bool) → Kept (cond s (refused_batch NO_ROWS r a) (read_in x r b skip size a))
      go true h = refl
      go false h = column-kept x h
