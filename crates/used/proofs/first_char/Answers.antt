-- `used::first_char` meets its contract: the items that the loop has passed are not those bytes. Assumes nothing.
use Prim.Native.Nat.{ℕ}
use mathlib.Core.Path.{◌∙◌}
use mathlib.Core.List.{List}
use native.Mathlib.Omega.{arith}
use lib.ListN.{take, drop}
use Rattle.encode.specs.declared.Kind.TheVariants.{Char}
use Rattle.plain.specs.Rows.{bytes}
use Rattle.plain.proofs.Ranges.{char-room}
use Rattle.lookup.specs.First.{first_at}
use Rattle.lookup.proofs.Passed.{passed_start, passed-stop, passed-step, passed-end, first-here, first-later}
use Rattle.used.proofs.Finding.{char-told, first_found}
use Rattle.used.proofs.first_char.Goals as goal

pub loop-i-init : goal.loop-i-init
loop-i-init c = passed_start _ _

pub is_char-requires : goal.is_char-requires
is_char-requires c =
    let a = c.args in
    (omega arith, c.requires.1, char-room a.w a.n a.items.now c.loop-i.i c.requires.2 (omega arith), c.requires.3)

pub returns-then-is_char : goal.returns-then-is_char
returns-then-is_char c =
    let want : List ℕ = take c.args.len (drop c.args.from c.args.others.now) in
    let a = c.args in
    let found = char-told (want) a.w a.n a.items.now c.loop-i.i c.is_char.ensures c.if-is_char.true in
    passed-stop c.loop-i.invariant (omega arith) (first-here _ a.n c.loop-i.i found) ∙ first_found (Char a.w) a.n a.items.now (bytes (want))

pub loop-i-preserved : goal.loop-i-preserved
loop-i-preserved c =
    let want : List ℕ = take c.args.len (drop c.args.from c.args.others.now) in
    let a = c.args in
    let other = char-told (want) a.w a.n a.items.now c.loop-i.i c.is_char.ensures c.if-is_char.false in
    passed-step c.loop-i.invariant (omega arith) (first-later _ a.n c.loop-i.i other)

pub returns : goal.returns
unfolding first_at
returns c =
    let want : List ℕ = take c.args.len (drop c.args.from c.args.others.now) in
    let a = c.args in
    passed-end c.loop-i.invariant (omega arith) ∙ first_found (Char a.w) a.n a.items.now (bytes (want))
