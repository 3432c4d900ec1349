-- `numbered` meets its contract: each arm is the kind of its number. Assumes nothing.
use mathlib.Core.Path.{sym, ap}
use Rattle.encode.specs.Kinds.{numbered}
use Rattle.slow_rules.proofs.Columns.{no_number}
use Rattle.slow_rules.proofs.numbered.Goals as goal

pub returns-in-0 : goal.returns-in-0
unfolding numbered
returns-in-0 c = ap numbered (sym c.in-0.is)

pub returns-in-1 : goal.returns-in-1
unfolding numbered
returns-in-1 c = ap numbered (sym c.in-1.is)

pub returns-in-2 : goal.returns-in-2
unfolding numbered
returns-in-2 c = ap numbered (sym c.in-2.is)

pub returns-in-3 : goal.returns-in-3
unfolding numbered
returns-in-3 c = ap numbered (sym c.in-3.is)

pub returns-in-4 : goal.returns-in-4
unfolding numbered
returns-in-4 c = ap numbered (sym c.in-4.is)

pub returns-in-5 : goal.returns-in-5
unfolding numbered
returns-in-5 c = ap numbered (sym c.in-5.is)

pub returns-in-6 : goal.returns-in-6
unfolding numbered
returns-in-6 c = ap numbered (sym c.in-6.is)

pub returns-in-7 : goal.returns-in-7
unfolding numbered
returns-in-7 c = ap numbered (sym c.in-7.is)

pub returns-in-9 : goal.returns-in-9
unfolding numbered
returns-in-9 c = ap numbered (sym c.in-9.is)

pub returns-in-10 : goal.returns-in-10
unfolding numbered
returns-in-10 c = ap numbered (sym c.in-10.is)

pub returns-in-11 : goal.returns-in-11
unfolding numbered
returns-in-11 c = ap numbered (sym c.in-11.is)

pub returns-in_default : goal.returns-in_default
returns-in_default c =
    no_number _
    c.in_default.in_default-own.rest.0.0.0.0.0.0.0.0.0.0.1 c.in_default.in_default-own.rest.0.0.0.0.0.0.0.0.0.1 c.in_default.in_default-own.rest.0.0.0.0.0.0.0.0.1
    c.in_default.in_default-own.rest.0.0.0.0.0.0.0.1
    c.in_default.in_default-own.rest.0.0.0.0.0.0.1 c.in_default.in_default-own.rest.0.0.0.0.0.1 c.in_default.in_default-own.rest.0.0.0.0.1 c.in_default.in_default-own.rest.0.0.0.1
    c.in_default.in_default-own.rest.0.0.1 c.in_default.in_default-own.rest.0.1 c.in_default.in_default-own.rest.1
