-- Which case of remaining the tests of the code lead to. Assumes nothing.
use Prim.Native.Nat.{◌-◌}
use mathlib.Core.Path.{◌≡◌}
use mathlib.Core.Bool.{Bool, true, false}
use Rattle.std.specs.Prelude.{Option, Some, None}
use Rattle.limits.specs.Refusals.{DISAGREE}
use Rattle.encode.specs.declared.Kind.{Kind}
use Rattle.format.specs.declared.Encoding.{Encoding}
use Rattle.format.specs.declared.Column.{Column}
use Rattle.format.specs.Blocks.{column, column_of}
use Rattle.block.specs.declared.Reader.{Reader}
use Rattle.block.specs.Reading.{wrong, left, remaining_in, remaining}

module _ (r : Reader) {x : Option Column} (named : x ≡ column_of r.kind r.encoding r.width) where
  pub remaining-unknown : x ≡ None → left DISAGREE 0 r ≡ remaining r
  unfolding remaining remaining_in
  remaining-unknown q = rw (← named, q)

  module _ {k : Kind} {e : Encoding} (q : x ≡ Some (column k e)) {t : Bool} (tested : t ≡ wrong k e r) where
    pub remaining-wrong : t ≡ true → left DISAGREE 0 r ≡ remaining r
    unfolding remaining remaining_in
    remaining-wrong h = rw (← named, q, ← tested, h)

    pub remaining-rows : t ≡ false → left 0 (r.rows - r.place) r ≡ remaining r
    unfolding remaining remaining_in
    remaining-rows h = rw (← named, q, ← tested, h)
