-- `slots::write_run` meets its contract: the last run counts one more, or a new one starts at 1 with its key. Assumes nothing.
use borrow.Author.Rules.{rules}
use native.Mathlib.Omega.{arith}
use Rattle.slots.proofs.Areas.{count-more, count-new, new-key, not-keyed, no_key, key_set, key-kept}
use Rattle.slots.proofs.write_run.Goals as goal

pub overflow_add-counts : goal.overflow_add-counts
overflow_add-counts c = let h = c.requires.0 c.if-joins.true in omega arith

pub overflow_cast-counts : goal.overflow_cast-counts
overflow_cast-counts c = let h = c.requires.0 c.if-joins.true in omega arith

pub overflow_sub-counts : goal.overflow_sub-counts
overflow_sub-counts c = let h = c.requires.0 c.if-joins.true in omega arith

pub offset_bounds-counts-n : goal.offset_bounds-counts-n
offset_bounds-counts-n c = let h = c.requires.0 c.if-joins.true in search rules

pub bounds-counts-n : goal.bounds-counts-n
bounds-counts-n c = let h = c.requires.0 c.if-joins.true in omega arith

pub returns-then-joins : goal.returns-then-joins
returns-then-joins c = record { counts_after = count-more _ _ _ _ c.if-joins.true; keys_after = key-kept (no_key c.args.keyed _ c.if-joins.true) _ _ }

pub offset_bounds-counts-n-2 : goal.offset_bounds-counts-n-2
offset_bounds-counts-n-2 c = let h = c.requires.1 c.if-joins.false in search rules

pub bounds-counts-n-2 : goal.bounds-counts-n-2
bounds-counts-n-2 c = c.requires.1 c.if-joins.false

pub offset_bounds-keys-n : goal.offset_bounds-keys-n
offset_bounds-keys-n c = let h = c.requires.2 (new-key _ _ c.if-keyed.true c.if-joins.false) in search rules

pub bounds-keys-n : goal.bounds-keys-n
bounds-keys-n c = c.requires.2 (new-key _ _ c.if-keyed.true c.if-joins.false)

pub returns-then-keyed : goal.returns-then-keyed
returns-then-keyed c =
    let a = c.args in
    let new = new-key a.keyed a.joins c.if-keyed.true c.if-joins.false in
    record { counts_after = count-new _ _ _ _ c.if-joins.false; keys_after = key_set new a.n a.key a.keys.now c.ranges.key }

pub returns-else-keyed : goal.returns-else-keyed
returns-else-keyed c = record { counts_after = count-new _ _ _ _ c.if-joins.false; keys_after = key-kept (not-keyed _ c.args.joins c.if-keyed.false) _ _ }
