-- `nullable_place` meets its contract: the item's bit tells. Assumes nothing.
use native.Mathlib.Omega.{arith}
use Rattle.slow_places.proofs.Items.{nullable-sizes, bit-there, item-told, null-told}
use Rattle.slow_places.proofs.nullable_place.Goals as goal

pub bitmap_len-requires : goal.bitmap_len-requires
bitmap_len-requires c = (nullable-sizes c.requires.0).0

pub overflow_add-bits : goal.overflow_add-bits
overflow_add-bits c = let h = nullable-sizes c.requires.0 in omega (arith, c.bitmap_len.ensures, h.1)

pub overflow_sub-bits : goal.overflow_sub-bits
overflow_sub-bits c = let h = nullable-sizes c.requires.0 in omega (arith, c.bitmap_len.ensures, h.1)

pub overflow_sub-end : goal.overflow_sub-end
overflow_sub-end c = let h = nullable-sizes c.requires.0 in omega (arith, h.1)

pub is_set-requires : goal.is_set-requires
is_set-requires c = bit-there _ _ _ c.requires.1 c.requires.0 c.bitmap_len.ensures

pub returns-then-is_set : goal.returns-then-is_set
returns-then-is_set c =
    item-told _ _ _ c.requires.1 c.requires.0 c.bitmap_len.ensures c.is_set.ensures c.if-is_set.true

pub returns-else-is_set : goal.returns-else-is_set
returns-else-is_set c =
    null-told _ _ _ c.requires.1 c.requires.0 c.bitmap_len.ensures c.is_set.ensures c.if-is_set.false
