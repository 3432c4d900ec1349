-- Groups of short counts: sixteen that are all short, and groups one after another. Assumes nothing.
use Prim.Native.Nat.{ℕ, ◌+◌, ◌-◌, ◌≤◌}
use native.Mathlib.Omega.{arith}
use mathlib.Core.Bool.{Bool, true, false, cond, ◌&&◌}
use mathlib.Core.List.{List, [], ◌∷◌, ◌++◌}
use mathlib.Core.Path.{◌≡◌, refl, sym, ap, subst, ◌∙◌}
use lib.Dec.{ltb}
use lib.ListN.{length, take, drop, length-drop}
use lib.Seq.{take-add, drop-drop, length-take-le}
use borrow.Author.Tests.{ltb-true}
use Rattle.plain.specs.Each.{Each}
use Rattle.plain.proofs.Each.{each_append}
use Rattle.shorts.specs.declared.Passed.{Passed}
use Rattle.shorts.specs.Shorts.{Short, sum_by, shortness, as_is, Group, Passes}
use Rattle.shorts.proofs.Adding.{sum-append, shortness-small}

-- ---- as many short bytes as bytes: each is short
counted-most : (bs : List ℕ) → sum_by shortness bs ≤ length bs
unfolding sum_by
counted-most [] = omega arith
counted-most (b ∷ bs) = omega (arith, counted-most bs, shortness-small b)

is-short : (b : ℕ) → 1 ≤ shortness b → Short b
unfolding shortness
is-short b h = go (ltb 0 b) (ltb b 128) refl refl h
  where
    go : (t u : Bool) → ltb 0 b ≡ t → ltb b 128 ≡ u → 1 ≤ cond (t && u) 1 0 → Short b
    go true true p q h = (ltb-true 0 b p, ltb-true b 128 q)
    go true false p q h = absurd (omega arith)
    go false u p q h = absurd (omega arith)

all_short : (bs : List ℕ) → length bs ≤ sum_by shortness bs → Each Short bs
unfolding sum_by
all_short [] h = tt
all_short (b ∷ bs) h =
    (is-short b (omega (arith, counted-most bs)), all_short bs (omega (arith, shortness-small b)))

pub found-group : (s : List ℕ) (at runs rows sum : ℕ) {found : ℕ} → 16 ≤ runs → at + 16 ≤ length s
    → found ≡ sum_by shortness (take 16 (drop at s)) → found ≡ 16 → sum ≡ sum_by as_is (take 16 (drop at s)) → sum ≤ rows
    → Group s at runs rows sum
found-group s at runs rows sum many inside e f adds fits =
    let long : length (take 16 (drop at s)) ≡ 16 = length-take-le 16 (drop at s) (omega (arith, length-drop at s)) in
    record { inside = inside; few = many; short = all_short (take 16 (drop at s)) (omega (arith, long, e)); adds = adds; fits = fits }

-- ---- groups one after another
abbrev pub passed : ℕ → ℕ → Passed
passed runs rows = record { runs = runs; rows = rows }

pub passes_none : (s : List ℕ) (from runs rows : ℕ) → Passes s from runs rows (passed 0 0)
unfolding sum_by
passes_none s from runs rows = record { inside = omega arith; few = omega arith; short = tt; adds = refl; fits = omega arith }

module _ {s : List ℕ} {from runs rows n sum more : ℕ} (p : Passes s from runs rows (passed n sum)) (g : Group s (from + n) (runs - n) (rows - sum) more) where
  bytes_on : take (n + 16) (drop from s) ≡ take n (drop from s) ++ take 16 (drop (from + n) s)
  bytes_on = take-add n 16 (drop from s) ∙ ap (λ (l : List ℕ). take n (drop from s) ++ take 16 l) (drop-drop n from s)

  pub passes_on : Passes s from runs rows (passed (n + 16) (sum + more))
  passes_on = record {
    inside = omega (arith, length-drop from s, g.inside);
    few = omega (arith, p.few, g.few);
    short = subst (λ (l : List ℕ). Each Short l) (sym bytes_on) (each_append Short (take n (drop from s)) (take 16 (drop (from + n) s)) p.short g.short);
    adds = rw (bytes_on, sum-append) (omega (arith, p.adds, g.adds));
    fits = omega (arith, p.fits, g.fits);
  }
