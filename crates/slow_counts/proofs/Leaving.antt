-- The loop of `run_of`: the rows of the runs from one on, of which as many are passed as are left. Assumes nothing.
use Rattle.std.specs.Prelude.{Option, None}
use Prim.Native.Nat.{ℕ, suc, ◌+◌, ◌-◌, ◌≤◌, ◌<◌}
use native.Mathlib.Numerals.{add-one}
use native.Mathlib.Omega.{arith}
use mathlib.Core.List.{List, [], ◌++◌}
use mathlib.Core.Path.{◌≡◌, sym, ap, subst, ◌∙◌}
use lib.ListN.{length, drop, get_or, replicate, length-append, length-replicate, get_or-replicate, get_or-append}
use lib.Seq.{drop-drop, get_or-append-add}
use Rattle.varint.specs.declared.Count.{Count}
use Rattle.varint.specs.Varint.{count_at, counted}
use Rattle.varint.proofs.Within.{at-within}
use Rattle.rle.specs.RunLength.{as_often, run_numbers}
use Rattle.rle.specs.Stepping.{spot}
use Rattle.rle.proofs.Steps.{steps-length}
use Rattle.rle.proofs.Whole.{whole-steps}
use Rattle.slow_counts.specs.Within.{Within}

-- ---- a row of some that lie in run i, and others behind them
module _ (v i : ℕ) (rest : List ℕ) (k : ℕ) where
  row_first : k < v → get_or (replicate v i ++ rest) k 0 ≡ i
  row_first h =
      let l : length (replicate v i) ≡ v = length-replicate v i in
      get_or-append (replicate v i) rest 0 k (omega arith) ∙ get_or-replicate v k i 0 h

  row-later : v ≤ k → get_or (replicate v i ++ rest) k 0 ≡ get_or rest (k - v) 0
  row-later h =
      let l : length (replicate v i) ≡ v = length-replicate v i in
      let m : k ≡ length (replicate v i) + (k - v) = omega arith in
      ap (λ (j : ℕ). get_or (replicate v i ++ rest) j 0) m ∙ get_or-append-add (replicate v i) rest (k - v) 0

  later-within : v ≤ k → k < length (replicate v i ++ rest) → k - v < length rest
  later-within h b = omega (arith, length-append (replicate v i) rest, length-replicate v i)

-- ---- the runs from one on, whose counts begin at a place: of their rows, as many as are left come before the one that is asked for
pub record Leaving (counts : List ℕ) (runs row left at run : ℕ) : Type 0 where
  pub same : get_or (run_numbers (runs - run) run (drop at counts)) left 0 ≡ get_or (run_numbers runs 0 counts) row 0
  pub inside : left < length (run_numbers (runs - run) run (drop at counts))
  pub within : at ≤ length counts

pub leaving-start : {counts : List ℕ} {runs row : ℕ} → Within runs counts row → Leaving counts runs row row 0 0
leaving-start {counts} {runs} {row} w =
    let m : runs - 0 ≡ runs = omega arith in
    let n : length (run_numbers runs 0 counts) ≡ w.rows = steps-length runs counts w.rows (spot 0 0 0) (whole-steps runs counts w.rows w.walks).1 in
    let h : row < length (run_numbers runs 0 counts) = omega (arith, w.inside) in
    record { same = rw m; inside = rw m h; within = omega arith }

module _ {counts : List ℕ} {runs row left at run : ℕ} (g : Leaving counts runs row left at run) where
  -- behind the last run there are no rows
  pub leaving-never : runs ≤ run → ⊥
  unfolding run_numbers
  leaving-never h =
      let z : runs - run ≡ 0 = omega arith in
      let l : left < length (run_numbers 0 run (drop at counts)) = rw z at g.inside in
      omega arith

  -- the rows of the runs behind this one, whose count has so many bytes
  abbrev behind : ℕ → List ℕ
  behind len = run_numbers (runs - (run + 1)) (run + 1) (drop (at + len) counts)

  module _ (h : run < runs) {r : Option Count} (e : r ≡ count_at counts at) where
    by_count : run_numbers (runs - run) run (drop at counts) ≡ as_often r run behind
    unfolding run_numbers count_at
    by_count = let m : runs - run ≡ suc (runs - (run + 1)) = omega arith in rw (m, e, ← add-one run) (simp drop-drop)

    pub leaving-bad : r ≡ None → ⊥
    unfolding as_often
    leaving-bad b =
        let l : left < length {A = ℕ} [] = rw (by_count, b) at g.inside in
        omega arith

    module _ {v len : ℕ} (b : r ≡ counted v len) where
      first_run : run_numbers (runs - run) run (drop at counts) ≡ replicate v run ++ behind len
      unfolding as_often
      first_run = by_count ∙ ap (λ (x : Option Count). as_often x run behind) b

      -- the row lies in this run
      pub leaving-here : left < v → (run ≡ get_or (run_numbers runs 0 counts) row 0) × (run < runs)
      leaving-here l = (sym (row_first v run (behind len) left l) ∙ sym (ap (λ (is : List ℕ). get_or is left 0) first_run) ∙ g.same, h)

      pub leaving-len : at + len ≤ length counts
      leaving-len = (at-within counts at v len (sym b ∙ e) g.within).1

      -- the row lies behind this run
      pub leaving-step : v ≤ left → Leaving counts runs row (left - v) (at + len) (run + 1)
      leaving-step l = record {
        same = sym (row-later v run (behind len) left l) ∙ sym (ap (λ (is : List ℕ). get_or is left 0) first_run) ∙ g.same;
        inside = later-within v run (behind len) left l (subst (λ (is : List ℕ). left < length is) first_run g.inside);
        within = leaving-len;
      }
