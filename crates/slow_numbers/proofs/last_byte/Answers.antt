-- `last_byte` meets its contract: a byte too many, a number too large, or a number. Assumes nothing.
use Prim.Native.Nat.{◌*◌, ◌≤◌}
use mathlib.Core.Bool.{false}
use mathlib.Core.Path.{◌≡◌, sym, ◌∙◌}
use native.Mathlib.Omega.{arith}
use Rattle.slow_numbers.specs.Numbers.{idle_after}
use Rattle.slow_numbers.proofs.Counts.{last-idle, last-large, last-number, bits-few}
use Rattle.slow_numbers.proofs.last_byte.Goals as goal

pub returns-then-idle : goal.returns-then-idle
returns-then-idle c = last-idle _ _ _ _ (sym c.idle.ensures ∙ c.if-idle.true)

pub overflow_mul-whole : goal.overflow_mul-whole
overflow_mul-whole c =
    let few : let a = c.args in a.b * a.worth ≤ 34091302912 = let a = c.args in bits-few a.b a.worth (omega arith) (omega arith) in
    let h = few in omega arith

pub overflow_add-whole : goal.overflow_add-whole
overflow_add-whole c =
    let few : let a = c.args in a.b * a.worth ≤ 34091302912 = let a = c.args in bits-few a.b a.worth (omega arith) (omega arith) in
    let h = few in omega arith

pub returns-then-whole-gt4294967295 : goal.returns-then-whole-gt4294967295
returns-then-whole-gt4294967295 c =
    let used : let a = c.args in idle_after a.i a.b ≡ false = sym c.idle.ensures ∙ c.if-idle.false in
    last-large _ _ _ _ (used) (omega arith)

pub returns : goal.returns
returns c =
    let used : let a = c.args in idle_after a.i a.b ≡ false = sym c.idle.ensures ∙ c.if-idle.false in
    last-number _ _ _ _ (used) (omega arith)
