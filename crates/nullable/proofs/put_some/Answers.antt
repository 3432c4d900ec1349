-- `nullable::put_some` meets its contract: one row's bit, or the eight bits of a byte. Assumes nothing.
use native.Mathlib.Omega.{arith}
use mathlib.Core.Path.{ap, ◌∙◌}
use lib.Seq.{sets}
use Rattle.plain.specs.Plain.{places}
use Rattle.nullable.proofs.Rows.{eight-bits}
use Rattle.nullable.proofs.put_some.Goals as goal

pub returns-then-row-ne0 : goal.returns-then-row-ne0
unfolding places
returns-then-row-ne0 c = record { result_nonzero = (omega arith, omega (arith, c.requires.0)); out_after = rw c.bit_at.ensures.0 }

pub returns-then-left-lt8 : goal.returns-then-left-lt8
unfolding places
returns-then-left-lt8 c = record { result_nonzero = (omega arith, omega (arith, c.requires.0)); out_after = rw c.bit_at-then-left-lt8.ensures.0 }

pub returns : goal.returns
returns c =
    let a = c.args in
    record { result_nonzero = (omega arith, omega (arith, c.if-left-lt8.false)); out_after = c.put_eight.ensures ∙ ap (sets a.out.now a.at) (eight-bits a.bitmap.now a.row c.if-row-ne0.false) }
