-- `step::row_counted` meets its contract: each return by the law of the tests that led there. Assumes nothing.
use Prim.Native.Nat.{ℕ, ◌*◌, ◌≤◌}
use mathlib.Core.Path.{◌≡◌, refl, sym, subst, ◌∙◌}
use mathlib.Core.Bool.{true, false}
use borrow.Author.Tests.{lt-ltb}
use Rattle.limits.specs.Limits.{MOST_ITEMS, MOST_BYTES}
use Rattle.format.specs.declared.Encoding.TheVariants.{Plain}
use Rattle.needs.specs.declared.Counted.{Counted}
use Rattle.needs.specs.Tests.{rows_by}
use Rattle.needs.proofs.Encodings.{rows-stored}
use Rattle.needs.proofs.Limits.{rows-within, within}
use Rattle.needs.proofs.Wrong.{Right, right}
use Rattle.step.specs.Counting.{grown}
use Rattle.step.proofs.Growth as laws
use Rattle.step.proofs.counting.row_counted.Goals as goal

pub returns-then-len-gt-MOST_BYTES : goal.returns-then-len-gt-MOST_BYTES
returns-then-len-gt-MOST_BYTES c =
    let a = c.args in
    laws.long-past a.kind (rows_by a.nullable) a.c a.room 0 a.len true false (λ _. refl) refl (lt-ltb MOST_BYTES a.len c.if-len-gt-MOST_BYTES.true)

pub grown_row-next-requires : goal.grown_row-next-requires
grown_row-next-requires c =
    let given : Right c.args.kind (rows_by c.args.nullable) c.args.c = right c.args.kind (rows_by c.args.nullable) c.args.c c.requires in
    let a = c.args in
    let w = given in
    (subst (λ (n : ℕ). n ≤ MOST_ITEMS) (sym (rows-stored a.nullable a.c)) w.few.stored, w.bytes, c.if-len-gt-MOST_BYTES.false)

pub rows_past-requires : goal.rows_past-requires
rows_past-requires c =
    let given : Right c.args.kind (rows_by c.args.nullable) c.args.c = right c.args.kind (rows_by c.args.nullable) c.args.c c.requires in
    let a = c.args in
    subst (λ (n : Counted). n.bytes ≤ 2 * MOST_BYTES) (sym c.grown_row-next.ensures)
    (laws.bytes-few Plain a.c 0 a.len true false (given).bytes (λ _. c.if-len-gt-MOST_BYTES.false))

pub returns-then-rows_past : goal.returns-then-rows_past
returns-then-rows_past c =
    let next : let a = c.args in c.grown_row-next.result ≡ grown (rows_by a.nullable) a.c 0 a.len true false = let a = c.args in c.grown_row-next.ensures ∙ laws.row_same a.nullable a.c 0 a.len in
    let a = c.args in
    laws.counted-limits a.kind (rows_by a.nullable) a.c a.room (next) c.rows_past.ensures c.if-rows_past.true

pub rows_short-requires : goal.rows_short-requires
rows_short-requires c =
    let a = c.args in
    rows-within _ (within a.kind (rows_by a.nullable) _ c.rows_past.ensures c.if-rows_past.false) a.nullable refl

pub returns-then-rows_short : goal.returns-then-rows_short
returns-then-rows_short c =
    let next : let a = c.args in c.grown_row-next.result ≡ grown (rows_by a.nullable) a.c 0 a.len true false = let a = c.args in c.grown_row-next.ensures ∙ laws.row_same a.nullable a.c 0 a.len in
    let a = c.args in
    laws.counted-short a.kind (rows_by a.nullable) a.c a.room (next) c.rows_past.ensures c.if-rows_past.false
    c.rows_short.ensures c.if-rows_short.true

pub returns : goal.returns
returns c =
    let next : let a = c.args in c.grown_row-next.result ≡ grown (rows_by a.nullable) a.c 0 a.len true false = let a = c.args in c.grown_row-next.ensures ∙ laws.row_same a.nullable a.c 0 a.len in
    let a = c.args in
    laws.counted-done a.kind (rows_by a.nullable) a.c a.room (next) c.rows_past.ensures c.if-rows_past.false
    c.rows_short.ensures c.if-rows_short.false
