-- `needs::block_bytes` meets its contract: each return by the law of the tests and arms that led there. Assumes nothing.
use mathlib.Core.Bool.{true, false}
use Rattle.needs.specs.Needs.{finished_bytes}
use Rattle.needs.proofs.Encodings as encodings
use Rattle.needs.proofs.Limits as limits
use Rattle.needs.proofs.block_bytes.Goals as goal

pub rows_bytes-requires : goal.rows_bytes-requires
rows_bytes-requires c = (limits.rows-within c.args.c c.requires.0 false c.in-Plain.is, c.requires.1)

pub rows_bytes-requires-in-Nullable : goal.rows_bytes-requires-in-Nullable
rows_bytes-requires-in-Nullable c = (limits.rows-within c.args.c c.requires.0 true c.in-Nullable.is, c.requires.1)

pub runs_bytes-requires : goal.runs_bytes-requires
runs_bytes-requires c =
    (limits.runs-within c.args.c c.requires.0 false c.in-RunLength.is, c.requires.1, c.requires.2 (encodings.coded_by (encodings.runs-coded false) c.in-RunLength.is))

pub runs_bytes-requires-in-RunLengthNullable : goal.runs_bytes-requires-in-RunLengthNullable
runs_bytes-requires-in-RunLengthNullable c =
    (limits.runs-within c.args.c c.requires.0 true c.in-RunLengthNullable.is, c.requires.1, c.requires.2 (encodings.coded_by (encodings.runs-coded true) c.in-RunLengthNullable.is))

pub keys_bytes-requires : goal.keys_bytes-requires
keys_bytes-requires c =
    let w = limits.keys-within c.args.c c.requires.0 c.in-Dictionary.is in
    (w.0, w.1, c.requires.1, c.requires.2 (encodings.coded_by encodings.keys-coded c.in-Dictionary.is))

pub returns-in-Plain : goal.returns-in-Plain
returns-in-Plain c = let a = c.args in encodings.told (λ g. finished_bytes a.kind g a.c) c.in-Plain.is c.rows_bytes.ensures

pub returns-in-Nullable : goal.returns-in-Nullable
returns-in-Nullable c = let a = c.args in encodings.told (λ g. finished_bytes a.kind g a.c) c.in-Nullable.is c.rows_bytes-in-Nullable.ensures

pub returns-in-RunLength : goal.returns-in-RunLength
returns-in-RunLength c = let a = c.args in encodings.told (λ g. finished_bytes a.kind g a.c) c.in-RunLength.is c.runs_bytes.ensures

pub returns-in-RunLengthNullable : goal.returns-in-RunLengthNullable
returns-in-RunLengthNullable c = let a = c.args in encodings.told (λ g. finished_bytes a.kind g a.c) c.in-RunLengthNullable.is c.runs_bytes-in-RunLengthNullable.ensures

pub returns-in-Dictionary : goal.returns-in-Dictionary
returns-in-Dictionary c = let a = c.args in encodings.told (λ g. finished_bytes a.kind g a.c) c.in-Dictionary.is c.keys_bytes.ensures
