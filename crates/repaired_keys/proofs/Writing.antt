-- What is written of each run of a repaired column, one behind the other: what is still to be written, laid over what is there, is the answer. Assumes nothing.
use Prim.Native.Nat.{ℕ, suc, ◌+◌, ◌-◌, ◌≤◌}
use native.Mathlib.Omega.{arith}
use mathlib.Core.List.{List, [], ◌∷◌, ◌++◌, map}
use mathlib.Core.Path.{◌≡◌, refl, sym, ap, ◌∙◌}
use lib.ListN.{length, drop, set, length-append}
use lib.Seq.{sets, length-sets, drop-set-lt}
use Rattle.area.proofs.Laws.{sets-append}
use Rattle.encode.specs.declared.Kind.{Kind}
use Rattle.plain.specs.Plain.{joined}
use Rattle.rle.specs.RunLength.{Run, run, runs_of}
use Rattle.dict.specs.Dictionary.{entry_row}
use Rattle.source.specs.declared.ShownRun.{ShownRun}
use Rattle.repaired.specs.Repaired.{row_in, rows_repaired, rows_ahead, none_yet, Ahead}
use Rattle.repaired.proofs.Ahead.{all-ahead, ahead_none}
use Rattle.repaired.proofs.Merging.{FirstRun}

-- what is written before a place leaves what stands behind it
pub drop-sets : (xs d : List ℕ) (i from : ℕ) → i + length xs ≤ from → drop from (sets d i xs) ≡ drop from d
drop-sets [] d i from h = refl
drop-sets (x ∷ xs) d i from h = drop-sets xs (set d i x) (suc i) from (omega arith) ∙ drop-set-lt from d i x (omega arith)

-- f gives a run's bytes
module _ (f : Run → List ℕ) (k : Kind) (entries runs : ℕ) (counts keys items : List ℕ) (n : ℕ) (out₀ : List ℕ) (at : ℕ) where
  -- those of all runs, and of the ones ahead
  abbrev all : List ℕ
  all = joined f (runs_of (rows_repaired k entries runs counts keys items n))

  abbrev rest : ShownRun → ℕ → List ℕ
  rest x left = joined f (runs_of (rows_ahead k entries runs counts keys items x left))

  pub record Writing (out : List ℕ) (to left : ℕ) (x : ShownRun) : Type 0 where
    pub ahead : Ahead runs counts x left
    pub same : sets out to (rest x left) ≡ sets out₀ at all
    pub ends : to + length (rest x left) ≡ at + length all
    pub long : length out ≡ length out₀

  pub writing_start : Ahead runs counts none_yet n → {x : ShownRun} → x ≡ none_yet → Writing out₀ at n x
  writing_start a e =
      let q : rest none_yet n ≡ all = ap (λ (is : List ℕ). joined f (runs_of (map (row_in k entries keys items) is))) (all-ahead runs counts n) in
      rw e (record { ahead = a; same = ap (sets out₀ at) q; ends = ap (λ (l : List ℕ). at + length l) q; long = refl })

  module _ {out : List ℕ} {to left : ℕ} {x : ShownRun} (g : Writing out to left x) where
    -- what stands behind all of it stays
    pub writing-behind : {from : ℕ} → at + length all ≤ from → drop from out ≡ drop from out₀
    writing-behind {from} h =
        sym (drop-sets (rest x left) out to from (omega (arith, g.ends)))
        ∙ ap (drop from) g.same
        ∙ drop-sets all out₀ at from h

    pub writing-end : left ≤ 0 → out ≡ sets out₀ at all
    unfolding joined runs_of
    writing-end h =
        ap (λ (is : List ℕ). sets out to (joined f (runs_of (map (row_in k entries keys items) is)))) (sym (ahead_none g.ahead h))
        ∙ g.same

    -- one run more
    module _ {y : ShownRun} {slot m : ℕ} (told : FirstRun k entries runs counts keys items x left y slot m) where
      abbrev first : List ℕ
      first = f (run (entry_row k entries items slot) m)

      next : rest x left ≡ first ++ rest y (left - m)
      unfolding joined
      next = ap (joined f) told.5

      next-length : length (rest x left) ≡ length first + length (rest y (left - m))
      next-length = ap length next ∙ length-append first (rest y (left - m))

      pub writing-room : at + length all ≤ length out₀ → to + length first ≤ length out
      writing-room h = omega (arith, next-length, g.ends, g.long)

      pub writing_step : {to' : ℕ} {out' : List ℕ} → to' ≡ to + length first → out' ≡ sets out to first → Writing out' to' (left - m) y
      writing_step {to'} {out'} p q =
          let l : length out' ≡ length out = ap length q ∙ length-sets out to first in
          record {
            ahead = told.4;
            same = rw (p, q) (rw (next, sets-append first (rest y (left - m)) out to) at g.same);
            ends = omega (arith, next-length, g.ends);
            long = l ∙ g.long;
          }
