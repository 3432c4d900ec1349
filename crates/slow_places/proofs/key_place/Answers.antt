-- `key_place` meets its contract: the entry that the row's key names. Assumes nothing.
use native.Mathlib.Omega.{arith}
use Rattle.slow_places.proofs.Keys.{keys-read, entries-read, has_room, has-keys, key-told}
use Rattle.slow_places.proofs.key_place.Goals as goal

pub number_at-entries-requires : goal.number_at-entries-requires
number_at-entries-requires c = let h = has_room c.requires in (omega arith, omega arith)

pub number_at-requires : goal.number_at-requires
number_at-requires c = let h = has_room c.requires in (omega arith, omega arith)

pub overflow_add-behind : goal.overflow_add-behind
overflow_add-behind c =
    omega (arith, keys-read c.args.s.now c.number_at.ensures.0, has_room c.requires, c.requires.opened.short)

pub slice_bounds-key_entry-end : goal.slice_bounds-key_entry-end
slice_bounds-key_entry-end c =
    omega (arith, keys-read c.args.s.now c.number_at.ensures.0, has_room c.requires)

pub key_entry-requires : goal.key_entry-requires
key_entry-requires c = has-keys c.requires (keys-read _ c.number_at.ensures.0)

pub returns : goal.returns
returns c =
    let h = c.requires in
    key-told h (keys-read _ c.number_at.ensures.0) c.key_entry.result (entries-read _ c.number_at-entries.ensures.0) c.key_entry.ensures.0 c.key_entry.ensures.1
