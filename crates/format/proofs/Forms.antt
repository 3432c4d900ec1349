-- A char in its stored form has no NUL, in any encoding. Assumes nothing.
use Prim.Native.Nat.{ℕ}
use mathlib.Core.Bool.{Bool, true, false, cond}
use mathlib.Core.List.{List, [], ◌∷◌}
use mathlib.Core.Path.{◌≡◌, refl, ap}
use lib.Dec.{eqb}
use Rattle.encode.specs.declared.Kind.TheVariants.{Char}
use Rattle.plain.specs.Rows.{Row, null, int, bytes, bytes_in}
use Rattle.plain.specs.Plain.{before_nul}
use Rattle.format.specs.declared.Encoding.{Encoding}
use Rattle.format.specs.declared.Encoding.TheVariants.{Plain, Nullable, RunLength, RunLengthNullable, Dictionary}
use Rattle.format.specs.Blocks.{cut, filled, stored_row}

before-twice : (l : List ℕ) → before_nul (before_nul l) ≡ before_nul l
unfolding before_nul
before-twice [] = refl
before-twice (b ∷ l) = go (eqb b 0) refl (before-twice l)
  where
    go : (t : Bool) → eqb b 0 ≡ t → before_nul (before_nul l) ≡ before_nul l
        → before_nul (cond t [] (b ∷ before_nul l)) ≡ cond t [] (b ∷ before_nul l)
    go true e h = refl
    go false e h = simp e (ap (λ (m : List ℕ). b ∷ m) h)

cut-no-nul : (w : ℕ) (r : Row) → before_nul (bytes_in (cut (Char w) r)) ≡ bytes_in (cut (Char w) r)
unfolding cut bytes_in before_nul
cut-no-nul w null = refl
cut-no-nul w (int v) = refl
cut-no-nul w (bytes bs) = before-twice bs

-- nothing stands at or behind a first NUL
pub no-nul-stored : (w : ℕ) (e : Encoding) (r : Row) → before_nul (bytes_in (stored_row (Char w) e r)) ≡ bytes_in (stored_row (Char w) e r)
unfolding stored_row
no-nul-stored w Plain r = cut-no-nul w (filled (Char w) r)
no-nul-stored w Nullable r = cut-no-nul w r
no-nul-stored w RunLength r = cut-no-nul w (filled (Char w) r)
no-nul-stored w RunLengthNullable r = cut-no-nul w r
no-nul-stored w Dictionary r = cut-no-nul w r
