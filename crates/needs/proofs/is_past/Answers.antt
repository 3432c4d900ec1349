-- `needs::is_past` meets its contract: each return by the law of the arm that led there. Assumes nothing.
use mathlib.Core.Path.{ap, ◌∙◌}
use mathlib.Core.Bool.{true, false}
use Rattle.needs.specs.Needs.{coded, past_limits}
use Rattle.needs.proofs.Encodings as encodings
use Rattle.needs.proofs.is_past.Goals as goal

pub rows_past-requires : goal.rows_past-requires
rows_past-requires c = c.requires.0

pub rows_past-requires-in-Nullable : goal.rows_past-requires-in-Nullable
rows_past-requires-in-Nullable c = c.requires.0

pub runs_past-requires : goal.runs_past-requires
runs_past-requires c = let p = c.requires in (p.0, p.1 (ap coded c.in-RunLength.is ∙ encodings.runs-coded false))

pub runs_past-requires-in-RunLengthNullable : goal.runs_past-requires-in-RunLengthNullable
runs_past-requires-in-RunLengthNullable c = let p = c.requires in (p.0, p.1 (ap coded c.in-RunLengthNullable.is ∙ encodings.runs-coded true))

pub keys_past-requires : goal.keys_past-requires
keys_past-requires c = let p = c.requires in (p.0, p.1 (encodings.coded-keys _ c.in-Dictionary.is))

pub returns-in-Plain : goal.returns-in-Plain
returns-in-Plain c = let a = c.args in encodings.told (λ g. past_limits a.kind g a.c) c.in-Plain.is c.rows_past.ensures

pub returns-in-Nullable : goal.returns-in-Nullable
returns-in-Nullable c = let a = c.args in encodings.told (λ g. past_limits a.kind g a.c) c.in-Nullable.is c.rows_past-in-Nullable.ensures

pub returns-in-RunLength : goal.returns-in-RunLength
returns-in-RunLength c = let a = c.args in encodings.told (λ g. past_limits a.kind g a.c) c.in-RunLength.is c.runs_past.ensures

pub returns-in-RunLengthNullable : goal.returns-in-RunLengthNullable
returns-in-RunLengthNullable c = let a = c.args in encodings.told (λ g. past_limits a.kind g a.c) c.in-RunLengthNullable.is c.runs_past-in-RunLengthNullable.ensures

pub returns-in-Dictionary : goal.returns-in-Dictionary
returns-in-Dictionary c = let a = c.args in encodings.told (λ g. past_limits a.kind g a.c) c.in-Dictionary.is c.keys_past.ensures
