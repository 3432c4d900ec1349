-- `encoding_of` meets its contract: each arm is the encoding of its number. Assumes nothing.
use mathlib.Core.Path.{sym, ap}
use Rattle.format.specs.Blocks.{encoding_of}
use Rattle.format.proofs.Pairs.{no-encoding}
use Rattle.slow_rules.proofs.encoding_of.Goals as goal

pub returns-in-0 : goal.returns-in-0
unfolding encoding_of
returns-in-0 c = ap encoding_of (sym c.in-0.is)

pub returns-in-1 : goal.returns-in-1
unfolding encoding_of
returns-in-1 c = ap encoding_of (sym c.in-1.is)

pub returns-in-2 : goal.returns-in-2
unfolding encoding_of
returns-in-2 c = ap encoding_of (sym c.in-2.is)

pub returns-in-3 : goal.returns-in-3
unfolding encoding_of
returns-in-3 c = ap encoding_of (sym c.in-3.is)

pub returns-in-4 : goal.returns-in-4
unfolding encoding_of
returns-in-4 c = ap encoding_of (sym c.in-4.is)

pub returns-in_default : goal.returns-in_default
returns-in_default c = no-encoding _ c.in_default.in_default-own.rest.0.0.0.0.1 c.in_default.in_default-own.rest.0.0.0.1 c.in_default.in_default-own.rest.0.0.1
    c.in_default.in_default-own.rest.0.1 c.in_default.in_default-own.rest.1
