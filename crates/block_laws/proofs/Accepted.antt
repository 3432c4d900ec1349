-- An accepted list: each row fits its kind, and the list is within the limits. Assumes nothing.
use mathlib.Core.Bool.{true}
use mathlib.Core.List.{List, [], ◌∷◌}
use mathlib.Core.Path.{◌≡◌}
use Rattle.encode.specs.declared.Kind.{Kind}
use Rattle.encode.proofs.Bools.{both}
use Rattle.plain.specs.Each.{Each}
use Rattle.plain.specs.Rows.{Row, fits}
use Rattle.format.specs.declared.Encoding.{Encoding}
use Rattle.format.specs.Sizes.{within_limits, all_fit, accepted}
use Rattle.format.proofs.Within.{Limits, within-told}
use Rattle.block_laws.proofs.Plains.{Fits}

each_fits : (k : Kind) (rows : List Row) → all_fit k rows ≡ true → Each (Fits k) rows
unfolding all_fit
each_fits k [] h = tt
each_fits k (r ∷ rows) h = let x = both (fits k r) (all_fit k rows) h in (x.0, each_fits k rows x.1)

module _ (k : Kind) (e : Encoding) (rows : List Row) (h : accepted k e rows ≡ true) where
  pub accepted-fits : Each (Fits k) rows
  unfolding accepted
  accepted-fits = each_fits k rows (both (all_fit k rows) (within_limits k e rows) h).0

  pub accepted-limits : Limits k e rows
  unfolding accepted
  accepted-limits = within-told k e rows (both (all_fit k rows) (within_limits k e rows) h).1
