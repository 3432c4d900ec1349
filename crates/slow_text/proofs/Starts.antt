-- The row that a first byte is of, by the rows that end below it and those that begin above it. Assumes nothing.
use Prim.Native.Nat.{ℕ, ◌≤◌, ◌<◌}
use native.Mathlib.Omega.{arith}
use mathlib.Core.Bool.{Bool, true, false, cond, ◌&&◌, and-eq-true_iff, and-false}
use mathlib.Core.List.{List, [], ◌∷◌, ◌++◌}
use mathlib.Core.Path.{◌≡◌, refl, sym, ap, ◌∙◌}
use lib.Dec.{leb}
use lib.ListN.{get_or, take, drop}
use borrow.Author.Tests.{leb-true, le-leb, lt-leb}
use Rattle.std.specs.Prelude.{Option}
use Rattle.utf8.specs.Utf8.{Form, form, from, forms, Due, due, never, within, start_in}
use Rattle.slow_text.specs.declared.Due.{Due as Record}
use Rattle.slow_text.specs.Due.{due_of, IsFew}

-- each of the rows ends at a number or below it; begins at a number or above it
abbrev end_by : ℕ → List Form → Bool
end_by h [] = true
end_by h (f ∷ fs) = leb f.first.high h && end_by h fs

abbrev begin_at : ℕ → List Form → Bool
begin_at l [] = true
begin_at l (f ∷ fs) = leb l f.first.low && begin_at l fs

module _ (b : ℕ) where
  above : (f : Form) → f.first.high < b → within f.first b ≡ false
  above f h = ap (λ (t : Bool). leb f.first.low b && t) (lt-leb b f.first.high h) ∙ and-false (leb f.first.low b)

  under : (f : Form) → b < f.first.low → within f.first b ≡ false
  under f h = ap (λ (t : Bool). t && leb b f.first.high) (lt-leb f.first.low b h)

  inside : (f : Form) → f.first.low ≤ b → b ≤ f.first.high → within f.first b ≡ true
  inside f h g = ap (λ (t : Bool). t && leb b f.first.high) (le-leb f.first.low b h) ∙ le-leb b f.first.high g

  past : (h : ℕ) (gs fs : List Form) → end_by h gs ≡ true → h < b → start_in (gs ++ fs) b ≡ start_in fs b
  past h [] fs e l = refl
  past h (g ∷ gs) fs e l =
      let p = (and-eq-true_iff (leb g.first.high h) (end_by h gs)).0 e in
      let k = leb-true g.first.high h p.0 in
      ap (λ (t : Bool). cond t (due g.behind) (start_in (gs ++ fs) b)) (above g (omega arith)) ∙ past h gs fs p.1 l

  -- a byte of no row
  before : (l : ℕ) (fs : List Form) → begin_at l fs ≡ true → b < l → start_in fs b ≡ never
  before l [] e h = refl
  before l (f ∷ fs) e h =
      let p = (and-eq-true_iff (leb l f.first.low) (begin_at l fs)).0 e in
      let k = leb-true l f.first.low p.0 in
      ap (λ (t : Bool). cond t (due f.behind) (start_in fs b)) (under f (omega arith)) ∙ before l fs p.1 h

  -- a byte of a row behind others
  in_row : (gs : List Form) (h : ℕ) (f : Form) (fs : List Form) → end_by h gs ≡ true → h < b → f.first.low ≤ b → b ≤ f.first.high
      → start_in (gs ++ (f ∷ fs)) b ≡ due f.behind
  in_row gs h f fs e l p q = past h gs (f ∷ fs) e l ∙ ap (λ (t : Bool). cond t (due f.behind) (start_in fs b)) (inside f p q)

-- what the code makes, for what it is to be
pub shown : (d : Option Record) {x y : Due} → (due_of d ≡ y) × IsFew d → x ≡ y → (due_of d ≡ x) × IsFew d
shown d e h = (e.0 ∙ sym h, e.1)

-- ---- each row of the table, and what is of none
abbrev row : ℕ → Form
row k = get_or forms k (form (from 0 0) [])

module _ (b : ℕ) where
  pub row-0 : b ≤ 0x7f → start_in forms b ≡ due []
  row-0 h = ap (λ (t : Bool). cond t (due []) (start_in (drop 1 forms) b)) (inside b (row 0) (omega arith) h)

  pub row-1 : 0xc2 ≤ b → b ≤ 0xdf → start_in forms b ≡ due (row 1).behind
  row-1 l h = in_row b (take 1 forms) 0x7f (row 1) (drop 2 forms) refl (omega arith) l h

  pub row-2 : 0xe0 ≤ b → b ≤ 0xe0 → start_in forms b ≡ due (row 2).behind
  row-2 l h = in_row b (take 2 forms) 0xdf (row 2) (drop 3 forms) refl (omega arith) l h

  pub row-3 : 0xe1 ≤ b → b ≤ 0xec → start_in forms b ≡ due (row 3).behind
  row-3 l h = in_row b (take 3 forms) 0xe0 (row 3) (drop 4 forms) refl (omega arith) l h

  pub row-4 : 0xed ≤ b → b ≤ 0xed → start_in forms b ≡ due (row 4).behind
  row-4 l h = in_row b (take 4 forms) 0xec (row 4) (drop 5 forms) refl (omega arith) l h

  pub row-5 : 0xee ≤ b → b ≤ 0xef → start_in forms b ≡ due (row 5).behind
  row-5 l h = in_row b (take 5 forms) 0xed (row 5) (drop 6 forms) refl (omega arith) l h

  pub row-6 : 0xf0 ≤ b → b ≤ 0xf0 → start_in forms b ≡ due (row 6).behind
  row-6 l h = in_row b (take 6 forms) 0xef (row 6) (drop 7 forms) refl (omega arith) l h

  pub row-7 : 0xf1 ≤ b → b ≤ 0xf3 → start_in forms b ≡ due (row 7).behind
  row-7 l h = in_row b (take 7 forms) 0xf0 (row 7) (drop 8 forms) refl (omega arith) l h

  pub row-8 : 0xf4 ≤ b → b ≤ 0xf4 → start_in forms b ≡ due (row 8).behind
  row-8 l h = in_row b (take 8 forms) 0xf3 (row 8) (drop 9 forms) refl (omega arith) l h

  pub between : 0x7f < b → b < 0xc2 → start_in forms b ≡ never
  between l h = past b 0x7f (take 1 forms) (drop 1 forms) refl l ∙ before b 0xc2 (drop 1 forms) refl h

  pub behind-all : 0xf4 < b → start_in forms b ≡ never
  behind-all l = past b 0xf4 forms [] refl l
