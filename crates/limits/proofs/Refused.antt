-- A refusal's number is not 0, which is done. Assumes nothing.
use Prim.Native.Nat.{◌<◌}
use native.Mathlib.Omega.{arith}
use mathlib.Core.Path.{◌≡◌}
use Rattle.limits.specs.Refusals.{refusal_number}
use Rattle.limits.specs.declared.refusal.Refusal.{Refusal}
use Rattle.limits.specs.declared.refusal.Refusal.TheVariants.{Column, Item, Limit, Room, NoRows, TooFar, Disagree, Cut, Length, Varint, Counts, Ends, Key, Sum, Text, NoColumn, Sheet, Outside, Unlike}

pub refusal-above : (e : Refusal) → 0 < refusal_number e
refusal-above Column = omega arith
refusal-above Item = omega arith
refusal-above Limit = omega arith
refusal-above Room = omega arith
refusal-above NoRows = omega arith
refusal-above TooFar = omega arith
refusal-above Disagree = omega arith
refusal-above Cut = omega arith
refusal-above Length = omega arith
refusal-above Varint = omega arith
refusal-above Counts = omega arith
refusal-above Ends = omega arith
refusal-above Key = omega arith
refusal-above Sum = omega arith
refusal-above Text = omega arith
refusal-above NoColumn = omega arith
refusal-above Sheet = omega arith
refusal-above Outside = omega arith
refusal-above Unlike = omega arith

pub refusal-some : (e : Refusal) → refusal_number e ≡ 0 → ⊥
refusal-some e h = let p : 0 < refusal_number e = refusal-above e in omega arith
