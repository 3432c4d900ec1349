-- `needs::is_short` meets its contract: each return by the law of the tests and arms that led there. Assumes nothing.
use mathlib.Core.Bool.{true, false}
use Rattle.needs.specs.Needs.{too_short}
use Rattle.needs.proofs.Encodings as encodings
use Rattle.needs.proofs.Limits as limits
use native.Mathlib.Omega.{arith}
use Rattle.needs.proofs.is_short.Goals as goal

pub rows_short-requires : goal.rows_short-requires
rows_short-requires c = limits.rows-within c.args.c c.requires false c.in-Plain.is

pub rows_short-requires-in-Nullable : goal.rows_short-requires-in-Nullable
rows_short-requires-in-Nullable c = limits.rows-within c.args.c c.requires true c.in-Nullable.is

pub runs_short-requires : goal.runs_short-requires
runs_short-requires c = limits.runs-within c.args.c c.requires false c.in-RunLength.is

pub runs_short-requires-in-RunLengthNullable : goal.runs_short-requires-in-RunLengthNullable
runs_short-requires-in-RunLengthNullable c = limits.runs-within c.args.c c.requires true c.in-RunLengthNullable.is

pub keys_short-requires : goal.keys_short-requires
keys_short-requires c = let w = (limits.keys-within c.args.c c.requires c.in-Dictionary.is).1 in omega (arith, w)

pub returns-in-Plain : goal.returns-in-Plain
returns-in-Plain c = let a = c.args in encodings.told (λ g. too_short a.kind g a.c a.room) c.in-Plain.is c.rows_short.ensures

pub returns-in-Nullable : goal.returns-in-Nullable
returns-in-Nullable c = let a = c.args in encodings.told (λ g. too_short a.kind g a.c a.room) c.in-Nullable.is c.rows_short-in-Nullable.ensures

pub returns-in-RunLength : goal.returns-in-RunLength
returns-in-RunLength c = let a = c.args in encodings.told (λ g. too_short a.kind g a.c a.room) c.in-RunLength.is c.runs_short.ensures

pub returns-in-RunLengthNullable : goal.returns-in-RunLengthNullable
returns-in-RunLengthNullable c = let a = c.args in encodings.told (λ g. too_short a.kind g a.c a.room) c.in-RunLengthNullable.is c.runs_short-in-RunLengthNullable.ensures

pub returns-in-Dictionary : goal.returns-in-Dictionary
returns-in-Dictionary c = let a = c.args in encodings.told (λ g. too_short a.kind g a.c a.room) c.in-Dictionary.is c.keys_short.ensures
