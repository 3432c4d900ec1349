-- `nullable::shown` meets its contract. Assumes nothing.
use native.Mathlib.Omega.{arith}
use mathlib.Core.Path.{refl}
use mir.Facts.{to_z-of_z}
use Rattle.nullable.proofs.shown.Goals as goal

pub returns-then-flag-eq0 : goal.returns-then-flag-eq0
returns-then-flag-eq0 c = (λ h. refl, λ h. absurd (omega (arith, c.if-flag-eq0.true)))

pub returns : goal.returns
returns c = (λ h. absurd (c.if-flag-eq0.false h), λ h. to_z-of_z c.ranges.value)
