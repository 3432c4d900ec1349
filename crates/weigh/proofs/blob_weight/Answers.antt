-- `weigh::blob_weight` meets its contract: the tests are those of the rule of the ends, and a blob that keeps it is as long as it lies in the data. Assumes nothing.
use Prim.Native.Nat.{◌*◌, ◌-◌, ◌≤◌}
use borrow.Author.Tests.{le-leb, lt-leb}
use lib.ListN.{length}
use mathlib.Core.Path.{refl, sym, ◌∙◌}
use native.Mathlib.Omega.{arith}
use Rattle.encode.specs.Kinds.{blob}
use Rattle.plain.proofs.Ranges.{blob-room, ends-back, ends-forth, blob-lies}
use Rattle.weigh.proofs.RunWeights as laws
use Rattle.weigh.proofs.blob_weight.Goals as goal

pub returns-then-slot-eq0 : goal.returns-then-slot-eq0
returns-then-slot-eq0 c = let a = c.args in laws.weight-none blob a.n a.items.now a.slot c.if-slot-eq0.true

pub start_at-from-requires : goal.start_at-from-requires
start_at-from-requires c =
    let room : 4 * c.args.n ≤ length c.args.items.now = blob-room c.args.n c.args.items.now refl c.requires.2 in
    let h = room in (omega arith, omega arith)

pub end_at-to-requires : goal.end_at-to-requires
end_at-to-requires c =
    let room : 4 * c.args.n ≤ length c.args.items.now = blob-room c.args.n c.args.items.now refl c.requires.2 in
    let h = room in (omega arith, omega arith)

pub returns-then-to-from : goal.returns-then-to-from
returns-then-to-from c =
    let a = c.args in
    laws.weight-bad blob a.n a.items.now a.slot c.if-slot-eq0.false (omega arith)
    (ends-back a.n a.items.now refl c.requires.2 (a.slot - 1) c.start_at-from.ensures.0 c.end_at-to.ensures.0 c.if-to-from.true)

pub overflow_sub-items : goal.overflow_sub-items
overflow_sub-items c =
    let room : 4 * c.args.n ≤ length c.args.items.now = blob-room c.args.n c.args.items.now refl c.requires.2 in
    room

pub returns-then-items-n : goal.returns-then-items-n
returns-then-items-n c =
    let a = c.args in
    let x = c.start_at-from.ensures.0 in
    let y = c.end_at-to.ensures.0 in
    laws.weight-bad blob a.n a.items.now a.slot c.if-slot-eq0.false (omega arith)
    (sym (lt-leb _ _ c.if-items-n.true) ∙ ends-forth a.n a.items.now refl c.requires.2 (a.slot - 1) x y c.if-to-from.false)

pub returns : goal.returns
returns c =
    let a = c.args in
    let x = c.start_at-from.ensures.0 in
    let y = c.end_at-to.ensures.0 in
    let g = sym (le-leb _ _ c.if-items-n.false) ∙ ends-forth a.n a.items.now refl c.requires.2 (a.slot - 1) x y c.if-to-from.false in
    let q = blob-lies a.n a.items.now refl c.requires.2 (a.slot - 1) x y (sym g) in
    laws.weight-some blob a.n a.items.now a.slot c.if-slot-eq0.false (omega arith) g _ _ q.0 q.1
