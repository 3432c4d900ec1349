-- `copies::rows_counted` meets its contract: each return by the law of the tests that led there. Assumes nothing.
use native.Mathlib.Omega.{arith}
use mathlib.Core.Path.{refl, sym, ◌∙◌}
use Rattle.encode.proofs.Bools.{clash}
use Rattle.copies.proofs.Numbers as laws
use Rattle.copies.proofs.limiting.rows_counted.Goals as goal

pub overflow_sub-first : goal.overflow_sub-first
overflow_sub-first c =
    let few-items : laws.RowsFew c.args.e c.args.first = laws.rows_few _ _ _ c.requires.0 c.requires.1 in
    let f = few-items in omega (arith, f.0)

pub returns-then-first-more : goal.returns-then-first-more
returns-then-first-more c =
    let few-items : laws.RowsFew c.args.e c.args.first = laws.rows_few _ _ _ c.requires.0 c.requires.1 in
    let f = few-items in
    laws.limited-past _ _ _ _ (laws.rows-past c.args.kind c.args.e 0 c.args.len c.requires.0 c.args.more c.args.first (omega (arith, f.0, c.if-first-more.true)))
    refl

pub overflow_mul-bytes : goal.overflow_mul-bytes
overflow_mul-bytes c =
    let few-items : laws.RowsFew c.args.e c.args.first = laws.rows_few _ _ _ c.requires.0 c.requires.1 in
    let f = few-items in
    omega (arith, laws.product-few c.args.more c.args.len (omega (arith, f.0, c.if-first-more.false)) c.requires.2)

pub returns-then-bytes-gt-MOST_BYTES : goal.returns-then-bytes-gt-MOST_BYTES
returns-then-bytes-gt-MOST_BYTES c =
    laws.limited-past _ _ _ _ (laws.bytes_past c.args.kind c.args.e 0 c.args.len c.requires.0 c.args.more c.args.first c.if-bytes-gt-MOST_BYTES.true) refl

pub overflow_add-all-2 : goal.overflow_add-all-2
overflow_add-all-2 c =
    let few-items : laws.RowsFew c.args.e c.args.first = laws.rows_few _ _ _ c.requires.0 c.requires.1 in
    let f = few-items in
    omega (arith, f.1, c.if-bytes-gt-MOST_BYTES.false)

pub is_past-requires : goal.is_past-requires
is_past-requires c =
    let few-items : laws.RowsFew c.args.e c.args.first = laws.rows_few _ _ _ c.requires.0 c.requires.1 in
    let f = few-items in
    (omega (arith, f.1, c.if-bytes-gt-MOST_BYTES.false), λ u. clash (sym u ∙ c.requires.0))

pub returns-then-is_past : goal.returns-then-is_past
returns-then-is_past c =
    laws.limited-past _ _ _ _
    (laws.all_told c.args.kind c.args.e 0 c.args.len c.requires.0 c.args.more c.args.first c.is_past.ensures ∙ c.if-is_past.true) refl

pub returns : goal.returns
returns c =
    laws.limited-done _ _ _ _
    (laws.all_told c.args.kind c.args.e 0 c.args.len c.requires.0 c.args.more c.args.first c.is_past.ensures ∙ c.if-is_past.false)
    (sym (laws.rows_more c.args.e 0 c.args.len c.requires.0 c.args.more c.args.first))
