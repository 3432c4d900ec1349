-- For the code: run counts that are a byte each, and how they are added up. Assumes nothing.
use Rattle.std.specs.Prelude.{ℕ, ◌+◌, ◌<◌, ◌≤◌, cond, ◌&&◌, List, [], ◌∷◌, ◌≡◌, ltb, length, take, drop}
use Rattle.plain.specs.Each.{Each}
use Rattle.shorts.specs.declared.Passed.{Passed}

-- a byte from 1 to 127 is a count by itself, and not 0
abbrev pub Short : ℕ → Type 0
Short b = (0 < b) × (b < 128)

-- the sum of what each byte counts for: 1 if it is short; its number
unfoldable pub sum_by : (ℕ → ℕ) → List ℕ → ℕ
sum_by f [] = 0
sum_by f (b ∷ bs) = f b + sum_by f bs

unfoldable pub shortness : ℕ → ℕ
shortness b = cond (ltb 0 b && ltb b 128) 1 0

abbrev pub as_is : ℕ → ℕ
as_is b = b

-- sixteen short counts from a place on, within so many runs, and their rows, within so many
pub record Group (s : List ℕ) (at runs rows sum : ℕ) : Type 0 where
  pub inside : at + 16 ≤ length s
  pub few : 16 ≤ runs
  pub short : Each Short (take 16 (drop at s))
  pub adds : sum ≡ sum_by as_is (take 16 (drop at s))
  pub fits : sum ≤ rows

-- short counts from a place on
pub record Passes (s : List ℕ) (from runs rows : ℕ) (p : Passed) : Type 0 where
  pub inside : p.runs ≤ length (drop from s)
  pub few : p.runs ≤ runs
  pub short : Each Short (take p.runs (drop from s))
  pub adds : p.rows ≡ sum_by as_is (take p.runs (drop from s))
  pub fits : p.rows ≤ rows
