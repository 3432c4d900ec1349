-- `value_of` meets its contract: each arm is the law of its width. Assumes nothing.
use mathlib.Core.Path.{refl, ◌∙◌}
use native.Mathlib.Omega.{arith}
use borrow.Author.Rules.{rules}
use mir.Syntax.{w16, w32, w64}
use Rattle.encode.specs.declared.Primitive.TheVariants.{Bool as Boolean, I16, I32, I64, Date, Timestamp, TimestampTz, Interval, F64}
use Rattle.slow_plain.proofs.Values.{signed-width, within-found, read_found}
use Rattle.slow_plain.proofs.value_of.Goals as goal

pub returns-in-Bool : goal.returns-in-Bool
returns-in-Bool c = read_found Boolean c.in-Bool.is c.args.n c.truth.ensures (search rules)

pub signed-requires : goal.signed-requires
signed-requires c = let h = within-found I16 c.in-I16.is c.args.n c.requires in (omega arith, omega arith, omega arith)

pub returns-in-I16 : goal.returns-in-I16
returns-in-I16 c =
    let n = c.args.n in
    let e = c.in-I16.is in
    let h = within-found I16 e n c.requires in
    read_found I16 e n (c.signed.ensures ∙ signed-width w16 n 32767 65535 refl refl (omega arith)) (search rules)

pub signed-requires-in-I32 : goal.signed-requires-in-I32
signed-requires-in-I32 c = let h = within-found I32 c.in-I32.is c.args.n c.requires in (omega arith, omega arith, omega arith)

pub returns-in-I32 : goal.returns-in-I32
returns-in-I32 c =
    let n = c.args.n in
    let e = c.in-I32.is in
    let h = within-found I32 e n c.requires in
    read_found I32 e n (c.signed-in-I32.ensures ∙ signed-width w32 n 2147483647 4294967295 refl refl (omega arith)) (search rules)

pub returns-in-I64 : goal.returns-in-I64
returns-in-I64 c =
    let n = c.args.n in
    let e = c.in-I64.is in
    let h = within-found I64 e n c.requires in
    read_found I64 e n (c.signed-in-I64.ensures ∙ signed-width w64 n 9223372036854775807 18446744073709551615 refl refl (omega arith)) (search rules)

pub signed-requires-in-Date : goal.signed-requires-in-Date
signed-requires-in-Date c = let h = within-found Date c.in-Date.is c.args.n c.requires in (omega arith, omega arith, omega arith)

pub returns-in-Date : goal.returns-in-Date
returns-in-Date c =
    let n = c.args.n in
    let e = c.in-Date.is in
    let h = within-found Date e n c.requires in
    read_found Date e n (c.signed-in-Date.ensures ∙ signed-width w32 n 2147483647 4294967295 refl refl (omega arith)) (search rules)

pub returns-in-Timestamp : goal.returns-in-Timestamp
returns-in-Timestamp c =
    let n = c.args.n in
    let e = c.in-Timestamp.is in
    let h = within-found Timestamp e n c.requires in
    read_found Timestamp e n (c.signed-in-Timestamp.ensures ∙ signed-width w64 n 9223372036854775807 18446744073709551615 refl refl (omega arith)) (search rules)

pub returns-in-TimestampTz : goal.returns-in-TimestampTz
returns-in-TimestampTz c =
    let n = c.args.n in
    let e = c.in-TimestampTz.is in
    let h = within-found TimestampTz e n c.requires in
    read_found TimestampTz e n (c.signed-in-TimestampTz.ensures ∙ signed-width w64 n 9223372036854775807 18446744073709551615 refl refl (omega arith)) (search rules)

pub returns-in-Interval : goal.returns-in-Interval
returns-in-Interval c =
    let n = c.args.n in
    let e = c.in-Interval.is in
    let h = within-found Interval e n c.requires in
    read_found Interval e n (c.signed-in-Interval.ensures ∙ signed-width w64 n 9223372036854775807 18446744073709551615 refl refl (omega arith)) (search rules)

pub returns-in-F64 : goal.returns-in-F64
returns-in-F64 c =
    let n = c.args.n in
    let e = c.in-F64.is in
    let h = within-found F64 e n c.requires in
    read_found F64 e n (c.signed-in-F64.ensures ∙ signed-width w64 n 9223372036854775807 18446744073709551615 refl refl (omega arith)) (search rules)
