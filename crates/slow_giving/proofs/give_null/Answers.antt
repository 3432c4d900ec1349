-- `give_null` meets its contract: the default and flag 0, or no bytes and flag 0. Assumes nothing.
use mathlib.Core.Path.{refl}
use native.Mathlib.Omega.{arith}
use Rattle.plain.specs.Rows.{null, int_in, bytes_in}
use Rattle.nullable.specs.Nullable.{presence}
use Rattle.fill.proofs.FilledAreas.{is-fixed}
use Rattle.fill.proofs.UnusedAreas.{as_bytes}
use borrow.Enum.Refused.{opened}
use Rattle.slow_giving.proofs.give_null.Goals as goal

pub give_bytes-requires : goal.give_bytes-requires
give_bytes-requires c = (omega arith, omega arith)

pub returns-in-Fixed : goal.returns-in-Fixed
unfolding int_in presence
returns-in-Fixed c =
    let a = c.args in
    c.give_value.ensures a.kind null a.ends.now a.bytes.now (is-fixed a.kind _ c.in-Fixed.is) refl refl

pub returns-in-Char : goal.returns-in-Char
unfolding bytes_in presence
returns-in-Char c =
    let a = c.args in
    c.give_bytes.ensures a.kind null a.values.now (as_bytes a.kind (opened c.in-Char.in-Char-own.keys2)) refl refl
