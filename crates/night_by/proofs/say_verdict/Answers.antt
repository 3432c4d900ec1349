-- `say_verdict` meets its contract: each arm by its variant. Assumes nothing.
use mathlib.Core.Path.{sym, ap}
use Rattle.night_by.specs.Night.{differing}
use Rattle.night_by.proofs.say_verdict.Goals as goal

pub returns-in-Same : goal.returns-in-Same
unfolding differing
returns-in-Same c = sym (ap differing c.in-Same.is)

pub returns-in-Refused : goal.returns-in-Refused
unfolding differing
returns-in-Refused c = sym (ap differing c.in-Refused.is)

pub returns-in-Differs : goal.returns-in-Differs
unfolding differing
returns-in-Differs c = sym (ap differing c.in-Differs.is)
