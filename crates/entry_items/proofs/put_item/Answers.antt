-- `entry_items::put_item` meets its contract: each arm writes the item of the kind that it found. Assumes nothing.
use borrow.Author.Rules.{rules}
use native.Mathlib.Omega.{arith}
use Rattle.entry_items.proofs.Entries as laws
use Rattle.entry_items.proofs.put_item.Goals as goal

-- ---- fixed kinds
pub value_at-requires : goal.value_at-requires
value_at-requires c =
    let p = c.requires in
    laws.value-asked p.0 c.in-Fixed.is _ (omega (arith, p.1, p.2))

pub put-requires : goal.put-requires
put-requires c =
    laws.fixed-asked _ _ _ _ c.args.out.now _ c.in-Fixed.is c.width.ensures c.requires.3

pub overflow_add-result : goal.overflow_add-result
overflow_add-result c =
    let a = c.args in
    let r = laws.fixed-room a.kind a.n a.items.now a.slot a.out.now a.at c.in-Fixed.is c.width-in-Fixed.ensures c.requires.3 in
    omega arith

pub returns-in-Fixed : goal.returns-in-Fixed
returns-in-Fixed c =
    let all =
    laws.fixed-put _ _ _ _ _ _ c.in-Fixed.is c.width.ensures c.requires.1
    c.value_at.result (search rules) c.value_at.ensures c.encode.ensures c.put.ensures c.width-in-Fixed.ensures in
    record { value = all.0; out_after = all.1 }

-- ---- char
pub put_char-requires : goal.put_char-requires
put_char-requires c =
    let p = c.requires in
    (search rules, laws.entered-as c.in-Char.is p.0, p.1, p.2, laws.char-room _ _ _ _ c.args.out.now _ c.in-Char.is p.3)

pub returns-in-Char : goal.returns-in-Char
returns-in-Char c =
    let all =
    laws.char-written _ _ _ _ _ _ c.in-Char.is c.put_char.ensures in
    record { value = all.0; out_after = all.1 }

-- ---- blob and string
pub blob_of-text-requires : goal.blob_of-text-requires
blob_of-text-requires c = let p = c.requires in laws.blob-asked p.0 p.2 c.in-Blob.is

pub copy-requires : goal.copy-requires
copy-requires c =
    laws.blob-room _ _ _ _ c.args.out.now _ c.in-Blob.is c.blob_of-text.result c.blob_of-text.ensures c.requires.3

pub returns-in-Blob : goal.returns-in-Blob
returns-in-Blob c =
    let all =
    laws.blob-put _ _ _ _ _ _ c.in-Blob.is c.blob_of-text.result c.blob_of-text.ensures c.copy.ensures in
    record { value = all.0; out_after = all.1 }
