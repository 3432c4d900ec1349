-- The rows accepted are those of the appends that were answered with 0: a caller who keeps these has the rows of the block, and their number. Assumes
-- nothing.
use Prim.Native.Nat.{ℕ}
use mathlib.Core.Bool.{Bool, true, false, cond}
use mathlib.Core.List.{List, [], ◌∷◌, ◌++◌, append_assoc, append-nil}
use mathlib.Core.Path.{◌≡◌, refl, sym, ap, ◌∙◌}
use lib.Dec.{eqb}
use lib.ListN.{replicate}
use Rattle.encode.specs.declared.Kind.{Kind}
use Rattle.plain.specs.Rows.{Row}
use Rattle.format.specs.declared.Encoding.{Encoding}
use Rattle.append.specs.Appending.{Lent, room_of}
use Rattle.building_laws.specs.Built.{row_in}
use Rattle.any_building_laws.specs.BuilderCalls.{Ask, append, finish, estimate, should_finish_before, Call, number_in, append_number, due, accepted_by, expected, accepted_in}
use Rattle.whole_way_laws.specs.WholeWay.{row_if_done, rows_done}

module _ (k : Kind) (e : Encoding) (target key : ℕ) where
  all-or-none : (t : Bool) (rows more : List Row) → cond t (rows ++ more) rows ≡ rows ++ cond t more []
  all-or-none true rows more = refl
  all-or-none false rows more = sym (append-nil rows)

  one-done : (rows : List Row) (a : Lent) (q : Ask) → accepted_by k e rows a q ≡ rows ++ row_if_done k q (due k e target key rows a q)
  unfolding accepted_by row_if_done due number_in
  one-done rows a (append n v) = all-or-none (eqb (append_number k e rows n (row_in k v) (room_of a)) 0) rows (replicate n (row_in k v))
  one-done rows a (finish out) = sym (append-nil rows)
  one-done rows a estimate = sym (append-nil rows)
  one-done rows a (should_finish_before v) = sym (append-nil rows)

  pub done-among-expected : (cs : List Call) (rows : List Row) → accepted_in k e rows cs ≡ rows ++ rows_done k cs (expected k e target key rows cs)
  unfolding accepted_in rows_done expected
  done-among-expected [] rows = sym (append-nil rows)
  done-among-expected (c ∷ cs) rows =
      let next : List Row = accepted_by k e rows c.areas c.ask in
      let rest : List Row = rows_done k cs (expected k e target key next cs) in
      done-among-expected cs next
      ∙ ap (λ (l : List Row). l ++ rest) (one-done rows c.areas c.ask)
      ∙ append_assoc rows (row_if_done k c.ask (due k e target key rows c.areas c.ask)) rest
