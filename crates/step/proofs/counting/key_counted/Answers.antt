-- `step::key_counted` meets its contract: each return by the law of the tests that led there. Assumes nothing.
use mathlib.Core.Path.{◌≡◌, refl, sym, ◌∙◌}
use mathlib.Core.Bool.{cond}
use native.Mathlib.Omega.{arith}
use Rattle.encode.proofs.Bools.{clash}
use Rattle.format.specs.declared.Encoding.TheVariants.{Dictionary}
use Rattle.needs.proofs.Encodings.{keys-coded, keys-keyed}
use Rattle.needs.proofs.Limits.{keys-within, within}
use Rattle.needs.proofs.Wrong.{Right, right}
use Rattle.step.specs.Counting.{grown}
use Rattle.step.proofs.Growth as laws
use Rattle.step.proofs.counting.key_counted.Goals as goal

pub returns-then-too_long : goal.returns-then-too_long
returns-then-too_long c =
    let a = c.args in
    laws.long-past a.kind Dictionary a.c a.room (cond a.present 1 0) a.len a.stored a.joins (λ t. clash (sym keys-keyed ∙ t))
    c.too_long.ensures c.if-too_long.true

pub next_entries-requires : goal.next_entries-requires
next_entries-requires c =
    let given : Right c.args.kind Dictionary c.args.c = right c.args.kind Dictionary c.args.c c.requires.0 in
    (given).few.entries keys-keyed

pub grown_run-next-requires : goal.grown_run-next-requires
grown_run-next-requires c =
    let given : Right c.args.kind Dictionary c.args.c = right c.args.kind Dictionary c.args.c c.requires.0 in
    let a = c.args in
    let w = given in (
      w.few.rows,
      w.few.runs keys-coded,
      w.bytes,
      laws.long-not a.stored a.len c.too_long.ensures c.if-too_long.false,
      w.counts keys-coded,
      c.requires.1,
    )

pub keys_past-requires : goal.keys_past-requires
keys_past-requires c =
    let next : let a = c.args in
    c.grown_run-next.result ≡ grown Dictionary a.c (cond a.present 1 0) a.len a.stored a.joins = let a = c.args in
    laws.key-same a.c (cond a.present 1 0) a.len a.stored a.joins c.grown_run-next.ensures c.next_entries.ensures in
    let given : Right c.args.kind Dictionary c.args.c = right c.args.kind Dictionary c.args.c c.requires.0 in
    let a = c.args in
    laws.next-few a.kind Dictionary a.c (cond a.present 1 0) a.len a.stored a.joins (next) (given)
    (laws.long-not a.stored a.len c.too_long.ensures c.if-too_long.false) c.requires.1 keys-coded

pub returns-then-keys_past : goal.returns-then-keys_past
returns-then-keys_past c =
    let next : let a = c.args in
    c.grown_run-next.result ≡ grown Dictionary a.c (cond a.present 1 0) a.len a.stored a.joins = let a = c.args in
    laws.key-same a.c (cond a.present 1 0) a.len a.stored a.joins c.grown_run-next.ensures c.next_entries.ensures in
    let a = c.args in
    laws.counted-limits a.kind Dictionary a.c a.room (next) c.keys_past.ensures c.if-keys_past.true

pub keys_short-requires : goal.keys_short-requires
keys_short-requires c =
    let a = c.args in
    let w = (keys-within _ (within a.kind Dictionary _ c.keys_past.ensures c.if-keys_past.false) refl).1 in
    omega (arith, w)

pub returns-then-keys_short : goal.returns-then-keys_short
returns-then-keys_short c =
    let next : let a = c.args in
    c.grown_run-next.result ≡ grown Dictionary a.c (cond a.present 1 0) a.len a.stored a.joins = let a = c.args in
    laws.key-same a.c (cond a.present 1 0) a.len a.stored a.joins c.grown_run-next.ensures c.next_entries.ensures in
    let a = c.args in
    laws.counted-short a.kind Dictionary a.c a.room (next) c.keys_past.ensures c.if-keys_past.false
    c.keys_short.ensures c.if-keys_short.true

pub returns : goal.returns
returns c =
    let next : let a = c.args in
    c.grown_run-next.result ≡ grown Dictionary a.c (cond a.present 1 0) a.len a.stored a.joins = let a = c.args in
    laws.key-same a.c (cond a.present 1 0) a.len a.stored a.joins c.grown_run-next.ensures c.next_entries.ensures in
    let a = c.args in
    laws.counted-done a.kind Dictionary a.c a.room (next) c.keys_past.ensures c.if-keys_past.false
    c.keys_short.ensures c.if-keys_short.false
