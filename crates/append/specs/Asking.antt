-- For the code: what writing a row asks of the lent areas, and what is known of a row that is found. Assumes nothing.
use Rattle.std.specs.Prelude.{ℕ, ◌+◌, ◌/◌, ◌^◌, ◌≤◌, ◌<◌, ◌≡◌, Bool, true, false, List, ℤ, length}
use Rattle.encode.specs.declared.Kind.{Kind}
use Rattle.encode.specs.declared.Kind.TheVariants.{Char, Blob}
use Rattle.plain.specs.Rows.{Row, fits}
use Rattle.plain.specs.Plain.{item_of}
use Rattle.format.specs.declared.Encoding.{Encoding}
use Rattle.needs.specs.declared.Counted.{Counted}
use Rattle.needs.specs.Needs.{disagree}
use Rattle.step.specs.Steps.{adds, step_of}
use Rattle.append.specs.Appending.{Lent, room_of, held_in}

-- the slots that a row is written into, as stored item i at a place, are there
pub record Stores (k : Kind) (nullable : Bool) (i at : ℕ) (row : Row) (len : ℕ) (is es fs ls : List ℕ) : Type 0 where
  pub taken : fits k row ≡ true
  pub long : len ≡ length (item_of k row)
  pub items : at + len ≤ length is
  pub small : at + len < 2 ^ 32
  pub ends : (text : Bool) → k ≡ Blob text → i < length es
  pub lens : (w : ℕ) → k ≡ Char w → i < length ls
  pub flags : nullable ≡ true → i / 8 < length fs

-- the numbers and the areas agree, what the row comes to is found, and it fits
pub record Found (k : Kind) (e : Encoding) (r : Counted) (a : Lent) (row : Row) (item joins : Bool) (key : ℤ) : Type 0 where
  pub agrees : disagree k e r (room_of a) ≡ false
  pub step : adds item joins key ≡ step_of k e r (held_in a) a.keys row
  pub fit : fits k row ≡ true
