-- `used::first_blob` meets its contract: the items that the loop has passed are not those bytes, and the next starts where the last of them ends.
-- Assumes nothing.
use Prim.Native.Nat.{ℕ, ◌+◌, ◌-◌, ◌*◌, ◌≤◌}
use mathlib.Core.Path.{refl, ◌∙◌}
use mathlib.Core.List.{List}
use native.Mathlib.Omega.{arith}
use lib.ListN.{length, take, drop}
use Rattle.encode.specs.Kinds.{blob}
use Rattle.plain.specs.Rows.{bytes}
use Rattle.plain.specs.Plain.{start_at}
use Rattle.plain.proofs.Ranges.{Lies, blob-room, blob-forth, blob-lies}
use Rattle.lookup.specs.First.{first_at}
use Rattle.lookup.proofs.Passed.{passed_start, passed-stop, passed-step, passed-end, first-here, first-later}
use Rattle.used.proofs.Finding.{blob-told, start-next, first_found}
use Rattle.used.proofs.first_blob.Goals as goal

pub loop-i-init : goal.loop-i-init
unfolding start_at
loop-i-init c = (passed_start _ _, refl)

pub end_at-end-requires : goal.end_at-end-requires
end_at-end-requires c =
    let room : 4 * c.args.n ≤ length c.args.items.now = blob-room c.args.n c.args.items.now refl c.requires.1 in
    let h = room in (omega arith, omega arith)

pub overflow_add-base : goal.overflow_add-base
overflow_add-base c =
    let lies : let a = c.args in
    Lies blob a.n a.items.now c.loop-i.i (4 * a.n + c.loop-i.at) (c.end_at-end.result - c.loop-i.at) = let a = c.args in
    blob-lies a.n a.items.now refl c.requires.1 c.loop-i.i c.loop-i.invariant.1 c.end_at-end.ensures.0 (c.requires.2 c.loop-i.i (omega arith)) in
    let h = (lies).0 in omega arith

pub overflow_sub-end : goal.overflow_sub-end
overflow_sub-end c =
    let forth : c.loop-i.at ≤ c.end_at-end.result = let a = c.args in
    blob-forth a.n a.items.now refl c.requires.1 c.loop-i.i c.loop-i.invariant.1 c.end_at-end.ensures.0 (c.requires.2 c.loop-i.i (omega arith)) in
    forth

pub same_part-requires : goal.same_part-requires
same_part-requires c =
    let lies : let a = c.args in
    Lies blob a.n a.items.now c.loop-i.i (4 * a.n + c.loop-i.at) (c.end_at-end.result - c.loop-i.at) = let a = c.args in
    blob-lies a.n a.items.now refl c.requires.1 c.loop-i.i c.loop-i.invariant.1 c.end_at-end.ensures.0 (c.requires.2 c.loop-i.i (omega arith)) in
    (c.requires.3, (lies).0)

pub returns-then-same_part : goal.returns-then-same_part
returns-then-same_part c =
    let want : List ℕ = take c.args.len (drop c.args.from c.args.others.now) in
    let lies : let a = c.args in
    Lies blob a.n a.items.now c.loop-i.i (4 * a.n + c.loop-i.at) (c.end_at-end.result - c.loop-i.at) = let a = c.args in
    blob-lies a.n a.items.now refl c.requires.1 c.loop-i.i c.loop-i.invariant.1 c.end_at-end.ensures.0 (c.requires.2 c.loop-i.i (omega arith)) in
    let a = c.args in
    let found = blob-told (want) a.n a.items.now c.loop-i.i _ _ (lies) c.same_part.ensures c.if-same_part.true in
    passed-stop c.loop-i.invariant.0 (omega arith) (first-here _ a.n c.loop-i.i found) ∙ first_found blob a.n a.items.now (bytes (want))

pub loop-i-preserved : goal.loop-i-preserved
loop-i-preserved c =
    let want : List ℕ = take c.args.len (drop c.args.from c.args.others.now) in
    let lies : let a = c.args in
    Lies blob a.n a.items.now c.loop-i.i (4 * a.n + c.loop-i.at) (c.end_at-end.result - c.loop-i.at) = let a = c.args in
    blob-lies a.n a.items.now refl c.requires.1 c.loop-i.i c.loop-i.invariant.1 c.end_at-end.ensures.0 (c.requires.2 c.loop-i.i (omega arith)) in
    let a = c.args in
    let other = blob-told (want) a.n a.items.now c.loop-i.i _ _ (lies) c.same_part.ensures c.if-same_part.false in (
      passed-step c.loop-i.invariant.0 (omega arith) (first-later _ a.n c.loop-i.i other),
      c.end_at-end.ensures.0 ∙ start-next a.items.now c.loop-i.i,
    )

pub returns : goal.returns
unfolding first_at
returns c =
    let want : List ℕ = take c.args.len (drop c.args.from c.args.others.now) in
    let a = c.args in
    passed-end c.loop-i.invariant.0 (omega arith) ∙ first_found blob a.n a.items.now (bytes (want))
