-- `matching::same_item` meets its contract: each arm is the law of its kind. Assumes nothing.
use borrow.Author.Rules.{rules}
use Rattle.matching.proofs.Pairs.{values_same, there-found, fixed-room, as-blob, fixed_same, char-same, blob-same}
use Rattle.matching.proofs.same_item.Goals as goal

pub value_at-requires : goal.value_at-requires
value_at-requires c = fixed-room (there-found c.in-Fixed.is c.requires.0)

pub value_at-requires-in-Fixed : goal.value_at-requires-in-Fixed
value_at-requires-in-Fixed c = fixed-room (there-found c.in-Fixed.is c.requires.1)

pub same_char-requires : goal.same_char-requires
same_char-requires c =
    let e = c.in-Char.is in
    (search rules, there-found e c.requires.0, there-found e c.requires.1)

pub same_blob-requires : goal.same_blob-requires
same_blob-requires c =
    let e = c.in-Blob.is in
    (as-blob e c.requires.0, as-blob e c.requires.1)

pub returns-in-Fixed : goal.returns-in-Fixed
returns-in-Fixed c =
    let a = c.args in
    fixed_same a.n a.items.now a.i a.m a.others.now a.j c.in-Fixed.is
    (values_same c.value_at.result c.value_at-in-Fixed.result (search rules) (search rules))
    c.value_at.ensures c.value_at-in-Fixed.ensures

pub returns-in-Char : goal.returns-in-Char
returns-in-Char c =
    let a = c.args in
    char-same a.n a.items.now a.i a.m a.others.now a.j c.in-Char.is c.same_char.ensures

pub returns-in-Blob : goal.returns-in-Blob
returns-in-Blob c =
    let a = c.args in
    blob-same a.n a.items.now a.i a.m a.others.now a.j c.in-Blob.is c.same_blob.ensures
