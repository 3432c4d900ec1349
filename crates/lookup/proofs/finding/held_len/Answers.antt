-- `lookup::finding::held_len` meets its contract. Assumes nothing.
use mathlib.Core.Path.{sym, ap}
use mathlib.Core.Bool.{Bool, cond}
use borrow.Author.Tests.{lt-ltb, le-ltb}
use Rattle.lookup.proofs.finding.held_len.Goals as goal

pub returns-then-w-len : goal.returns-then-w-len
returns-then-w-len c = let a = c.args in ap (λ (b : Bool). cond b 256 a.len) (sym (lt-ltb a.w a.len c.if-w-len.true))

pub returns : goal.returns
returns c = let a = c.args in ap (λ (b : Bool). cond b 256 a.len) (sym (le-ltb a.w a.len c.if-w-len.false))
