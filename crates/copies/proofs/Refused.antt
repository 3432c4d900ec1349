-- One row appended n times: the answer where a test refuses the row, whatever n is. Assumes nothing.
use Prim.Native.Nat.{ℕ}
use mathlib.Core.Path.{◌≡◌}
use mathlib.Core.Bool.{Bool, true, false}
use lib.IntN.{ℤ}
use Rattle.std.specs.Prelude.{None}
use Rattle.limits.specs.Refusals.{ITEM, DISAGREE}
use Rattle.encode.specs.declared.Kind.{Kind}
use Rattle.plain.specs.Rows.{Row, fits}
use Rattle.format.specs.declared.Encoding.{Encoding}
use Rattle.needs.specs.declared.Counted.{Counted}
use Rattle.needs.specs.Needs.{disagree}
use Rattle.step.specs.Steps.{adds, step_of}
use Rattle.step.specs.Counting.{Next, next_of}
use Rattle.append.specs.Appending.{Lent, room_of, held_in, added_to}
use Rattle.copies.specs.Copies.{added_times_by, added_times}

module _ (k : Kind) (e : Encoding) (r : Counted) (a : Lent) (n : ℕ) (row : Row) where
  pub not-agreed : disagree k e r (room_of a) ≡ true → {x : Next} → x ≡ next_of DISAGREE r → added_to x a ≡ added_times k e r a n row
  unfolding added_times
  not-agreed h q = rw (q, h)

  module _ (h : disagree k e r (room_of a) ≡ false) where
    pub field-wrong : None ≡ step_of k e r (held_in a) a.keys row → {x : Next} → x ≡ next_of DISAGREE r → added_to x a ≡ added_times k e r a n row
    unfolding added_times added_times_by
    field-wrong s q = rw (q, h, ← s)

    pub not-fit :
        {item joins : Bool} {key : ℤ} → adds item joins key ≡ step_of k e r (held_in a) a.keys row → fits k row ≡ false
        → {x : Next} → x ≡ next_of ITEM r → added_to x a ≡ added_times k e r a n row
    unfolding added_times added_times_by
    not-fit s f q = rw (q, h, ← s, f)
