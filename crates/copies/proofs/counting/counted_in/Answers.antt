-- `copies::counted_in` meets its contract: each return by the law of the arm that led there. Assumes nothing.
use Prim.Native.Nat.{ℕ, ◌≤◌}
use mathlib.Core.Path.{sym, subst}
use Rattle.limits.specs.Limits.{MOST_ITEMS}
use Rattle.needs.proofs.Encodings.{coded-not, coded-runs, coded-keys, keyed-so, stored-rows}
use Rattle.needs.proofs.Limits.{few}
use Rattle.copies.proofs.Numbers as laws
use Rattle.copies.proofs.counting.counted_in.Goals as goal

pub grown_row-requires : goal.grown_row-requires
grown_row-requires c =
    let a = c.args in
    let p = c.requires in
    let one = p.5 (sym (coded-not a.e c.in-Plain.in-Plain-own.keys1)) in
    (subst (λ (n : ℕ). n ≤ MOST_ITEMS) (sym (stored-rows a.e a.c c.in-Plain.in-Plain-own.keys1)) (few a.e a.c p.0).stored, p.1, p.3 one.0)

pub grown_run-requires : goal.grown_run-requires
grown_run-requires c =
    let a = c.args in
    let p = c.requires in
    let f = few a.e a.c p.0 in
    let t = coded-runs a.e c.in-RunLength.in-RunLength-own.keys2 in
    (f.rows, f.runs t, p.1, p.3, p.2 t, p.4)

pub next_entries-requires : goal.next_entries-requires
next_entries-requires c =
    (few c.args.e c.args.c c.requires.0).entries (sym (keyed-so c.args.e c.in-Dictionary.is))

pub grown_run-requires-in-Dictionary : goal.grown_run-requires-in-Dictionary
grown_run-requires-in-Dictionary c =
    let a = c.args in
    let p = c.requires in
    let f = few a.e a.c p.0 in
    let t = coded-keys a.e c.in-Dictionary.is in
    (f.rows, f.runs t, p.1, p.3, p.2 t, p.4)

pub returns-in-Plain : goal.returns-in-Plain
returns-in-Plain c =
    laws.row_in c.args.e c.args.c _ c.args.len c.args.stored c.args.joins c.in-Plain.in-Plain-own.keys1 (c.requires.5 (sym (coded-not c.args.e c.in-Plain.in-Plain-own.keys1)))
    c.grown_row.ensures

pub returns-in-RunLength : goal.returns-in-RunLength
returns-in-RunLength c =
    let a = c.args in
    laws.run_in a.e a.c _ a.len a.stored a.joins c.in-RunLength.in-RunLength-own.keys2 c.grown_run.ensures

pub returns-in-Dictionary : goal.returns-in-Dictionary
returns-in-Dictionary c =
    let a = c.args in
    laws.key_in a.e a.c _ a.len a.stored a.joins c.in-Dictionary.is c.next_entries.ensures c.grown_run-in-Dictionary.ensures
