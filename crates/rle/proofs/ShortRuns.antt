-- Runs whose counts are a byte each, passed over in groups: the walk adds up their bytes, and rows lead to the run behind them. Assumes nothing.
use Rattle.std.specs.Prelude.{Option, Some, None}
use Prim.Native.Nat.{ℕ, suc, ◌+◌, ◌-◌, ◌*◌, ◌^◌, ◌≤◌, ◌<◌}
use native.Mathlib.Nat.{add-zero, zero-add, suc-add}
use native.Mathlib.Omega.{arith}
use mathlib.Core.List.{List, [], ◌∷◌, ◌++◌}
use mathlib.Core.Logic.{⊎_elim}
use mathlib.Core.Path.{◌≡◌, sym, ap, subst, ◌∙◌}
use lib.ListN.{length, take, drop, replicate, take-append-drop, length-drop}
use lib.Seq.{drop-drop, length-take-le}
use borrow.Author.Tests.{lt-ltb, ne_eqb}
use Rattle.varint.specs.Varint.{count_within, in_32_bits, count_of, count_at, counted}
use Rattle.plain.specs.Each.{Each}
use Rattle.shorts.specs.declared.Passed.{Passed}
use Rattle.shorts.specs.Shorts.{Short, sum_by, as_is, Passes}
use Rattle.rle.specs.RunLength.{plus, walked_past, walked}
use Rattle.rle.specs.declared.Spot.{Spot}
use Rattle.rle.specs.Stepping.{spot, steps_from}
use Rattle.rle.specs.Pieces.{reached, Goes, gone}
use Rattle.area.proofs.Laws.{lt-or-ge}
use Rattle.rle.proofs.Steps.{reached-before}
use Rattle.rle.proofs.RestOfRun.{Found, found-past}
use Rattle.rle.proofs.Walking.{plus-plus, plus-zero, Walking}
use Rattle.rle.proofs.Advancing.{Going}
use Rattle.rle.specs.declared.Gone.{Gone}

-- ---- a short byte is a count by itself
short-count : (b : ℕ) (s : List ℕ) → Short b → count_of (b ∷ s) ≡ counted b 1
unfolding count_of count_within in_32_bits
short-count b s h =
    let small : b < 2 ^ 32 = omega (arith, h.1) in
    simp (lt-ltb b 128 h.1, lt-ltb b (2 ^ 32) small)

-- such counts have a row each at least
pub rows-of-short : (bs : List ℕ) → Each Short bs → length bs ≤ sum_by as_is bs
unfolding sum_by
rows-of-short [] h = omega arith
rows-of-short (b ∷ bs) h = omega (arith, h.0.0, rows-of-short bs h.1)

-- and fewer than 128
rows-below : (bs : List ℕ) → Each Short bs → sum_by as_is bs ≤ 128 * length bs
unfolding sum_by
rows-below [] h = omega arith
rows-below (b ∷ bs) h = omega (arith, h.0.1, rows-below bs h.1)

-- ---- the walk
walk-shorts : (bs rest : List ℕ) (k : ℕ) → Each Short bs → walked (length bs + k) (bs ++ rest) ≡ plus (sum_by as_is bs) (walked k rest)
unfolding walked walked_past sum_by
walk-shorts [] rest k h = rw zero-add (sym (plus-zero (walked k rest)))
walk-shorts (b ∷ bs) rest k h = rw suc-add (first ∙ ap (plus b) (walk-shorts bs rest k h.1) ∙ plus-plus b (sum_by as_is bs) (walked k rest))
  where
    first : walked (suc (length bs + k)) (b ∷ (bs ++ rest)) ≡ plus b (walked (length bs + k) (bs ++ rest))
    first = rw (short-count b (bs ++ rest) h.0) (simp (ne_eqb b 0 (λ (z : b ≡ 0). omega (arith, h.0.0))))

module _ {s : List ℕ} {runs at total left rows : ℕ} (w : Walking s runs at total left) {p : Passed} (g : Passes s at left rows p) where
  abbrev bytes : List ℕ
  bytes = take p.runs (drop at s)

  abbrev behind : List ℕ
  behind = drop (at + p.runs) s

  in_two : drop at s ≡ bytes ++ behind
  in_two = sym (take-append-drop p.runs (drop at s)) ∙ ap (λ (l : List ℕ). bytes ++ l) (drop-drop p.runs at s)

  long : length bytes ≡ p.runs
  long = length-take-le p.runs (drop at s) g.inside

  walked-shorts : walked left (drop at s) ≡ plus p.rows (walked (left - p.runs) behind)
  walked-shorts =
      let count : left ≡ length bytes + (left - p.runs) = omega (arith, long, g.few) in
      ap (λ (l : List ℕ). walked left l) in_two
      ∙ ap (λ (n : ℕ). walked n (bytes ++ behind)) count
      ∙ walk-shorts bytes behind (left - p.runs) g.short
      ∙ ap (λ (n : ℕ). plus n (walked (left - p.runs) behind)) (sym g.adds)

  pub walking-shorts : Walking s runs (at + p.runs) (total + p.rows) (left - p.runs)
  walking-shorts = record {
    whole = w.whole ∙ ap (plus total) walked-shorts ∙ plus-plus total p.rows (walked (left - p.runs) behind);
    within = omega (arith, g.inside, length-drop at s, w.within);
    small = omega (arith, w.small, g.adds, rows-below bytes g.short, long);
  }

-- ---- rows passed over
module _ (runs : ℕ) (counts : List ℕ) where
  short-found : (b : ℕ) (rest : List ℕ) (run at : ℕ) → Short b → drop at counts ≡ b ∷ rest → run < runs → Found runs counts (spot run at 0) b 1
  unfolding count_at
  short-found b rest run at h e inside = record {
    count = b;
    inside = inside;
    is = sym (ap count_of e ∙ short-count b rest h);
    some = h.0;
    least = omega arith;
    rest = omega arith;
    small = omega (arith, h.1);
    within = omega (arith, length-drop at counts, ap length e);
  }

  pass-shorts : (bs rest : List ℕ) (run at left : ℕ) → Each Short bs → drop at counts ≡ bs ++ rest → run + length bs ≤ runs → sum_by as_is bs ≤ left
      → reached (steps_from runs counts left (spot run at 0))
      ≡ reached (steps_from runs counts (left - sum_by as_is bs) (spot (run + length bs) (at + length bs) 0))
  unfolding sum_by
  pass-shorts [] rest run at left h e r l =
      let z : left - 0 ≡ left = omega arith in
      rw (z, add-zero run, add-zero at)
  pass-shorts (b ∷ bs) rest run at left h e r l =
      let next : drop (at + 1) counts ≡ bs ++ rest = sym (drop-drop 1 at counts) ∙ ap (drop 1) e in
      let m : left - b - sum_by as_is bs ≡ left - (b + sum_by as_is bs) = omega arith in
      let p : run + 1 + length bs ≡ run + suc (length bs) = omega arith in
      let q : at + 1 + length bs ≡ at + suc (length bs) = omega arith in
      ap reached (found-past (short-found b (bs ++ rest) run at h.0 e (omega arith)) left (omega (arith, h.0.0)) (omega arith))
      ∙ reached-before (replicate b run) (steps_from runs counts (left - b) (spot (run + 1) (at + 1) 0))
      ∙ pass-shorts bs rest (run + 1) (at + 1) (left - b) h.1 next (omega arith) (omega arith)
      ∙ rw (m, p, q)

module _ {runs : ℕ} {counts : List ℕ} {n : ℕ} {s : Spot} {run at left : ℕ} (w : Going runs counts n s run at 0 left) (inside : run ≤ runs)
    {p : Passed} (g : Passes counts at (runs - run) left p) where
  pub going-shorts : Going runs counts n s (run + p.runs) (at + p.runs) 0 (left - p.rows)
  going-shorts =
      let bytes : List ℕ = take p.runs (drop at counts) in
      let long : length bytes ≡ p.runs = length-take-le p.runs (drop at counts) g.inside in
      record {
        whole = w.whole
            ∙ pass-shorts runs counts bytes (drop p.runs (drop at counts)) run at left g.short (sym (take-append-drop p.runs (drop at counts)))
            (omega (arith, long, g.few)) (omega (arith, g.adds, g.fits))
            ∙ rw (long, ← g.adds);
      }

-- ---- and then some runs one by one
module _ {runs : ℕ} {counts : List ℕ} {n : ℕ} {s : Spot} {run at left : ℕ} (w : Going runs counts n s run at 0 left) (below : run < runs)
    {p : Passed} (g : Passes counts at (runs - run) left p) where
  pub grouped : Going runs counts n s (run + p.runs) (at + p.runs) 0 (left - p.rows)
  grouped = going-shorts w (omega arith) g

  pub grouped-inside : run + p.runs ≤ runs
  grouped-inside = omega (arith, g.few)

  module _ {stop : ℕ} (le : stop ≤ runs) {r : Option Gone} (f : Goes counts stop (spot (run + p.runs) (at + p.runs) 0) (left - p.rows) r) where
    abbrev Gives : Option Gone → Type 0
    Gives x = Goes counts stop (spot (run + p.runs) (at + p.runs) 0) (left - p.rows) x

    pub part-stuck : r ≡ None → None ≡ reached (steps_from runs counts n s)
    part-stuck b = let x : Gives None = subst Gives b f in x.leads runs le ∙ sym grouped.whole

    module _ {t : Spot} {rows : ℕ} (b : r ≡ Some (gone t rows)) where
      goes : Gives (Some (gone t rows))
      goes = subst Gives b f

      pub part-there : rows ≡ 0 → Some t ≡ reached (steps_from runs counts n s)
      unfolding reached steps_from
      part-there z = sym (grouped.whole ∙ rw z at (goes.leads runs le))

      module _ (some : 0 < rows) where
        pub part-on : Going runs counts n s t.run t.at 0 rows
        part-on = rw (goes.onward.fresh some) at (there)
          where
            there : Going runs counts n s t.run t.at t.taken rows
            there = record { whole = grouped.whole ∙ goes.leads runs le }

        -- fewer runs are ahead, since the run to stop at is none of those passed
        pub part-less : (run + p.runs < runs → run + p.runs < stop) → runs - t.run < runs - run
        part-less behind = ⊎_elim
            (λ (l : 0 < p.runs). omega (arith, goes.onward.ahead))
            (λ (z : p.runs ≤ 0). omega (arith, goes.onward.stopped some, behind (omega arith)))
            (lt-or-ge 0 p.runs)
