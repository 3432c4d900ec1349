-- What holds at each turn of the walk for one run of rows that are the same. Assumes nothing.
use Prim.Native.Nat.{ℕ, ◌+◌, ◌-◌, ◌≤◌, ◌<◌, min}
use native.Mathlib.Omega.{arith}
use mathlib.Core.Bool.{Bool, true, false}
use mathlib.Core.List.{List, ◌∷◌, ◌++◌, map, append_assoc}
use mathlib.Core.Logic.{⊎_elim}
use mathlib.Core.Path.{◌≡◌, sym, ap, ◌∙◌}
use lib.ListN.{replicate, replicate-append-replicate}
use Rattle.limits.specs.Limits.{MOST_COUNT}
use Rattle.area.proofs.Laws.{lt-or-ge}
use Rattle.encode.specs.declared.Kind.{Kind}
use Rattle.plain.specs.Rows.{Row, same}
use Rattle.plain.proofs.Same.{same-equal}
use Rattle.rle.specs.RunLength.{run, runs_of}
use Rattle.rle.proofs.Folds.{map_rows}
use Rattle.dict.specs.Dictionary.{entry_row}
use Rattle.source.specs.declared.Source.{Source}
use Rattle.source.specs.declared.ShownRun.{ShownRun}
use Rattle.repaired.specs.Repaired.{slot_in, row_in, keys_by, runs_ahead, rows_ahead, Ahead}
use Rattle.repaired.proofs.Ahead.{alike, shown, Told, ahead_none, ahead-next, ahead-same, ahead-take, ahead-front}
use Rattle.repaired.proofs.Runs.{Ends, full, last, other, first_run}

-- the first of the rows ahead
first-ahead : (row : ℕ → Row) {runs : ℕ} {counts : List ℕ} {x : ShownRun} {left : ℕ} → Ahead runs counts x left → 0 < x.rows
    → map row (runs_ahead runs counts x left) ≡ row (x.slot - 1) ∷ map row (runs_ahead runs counts (shown x.slot (x.rows - 1) x.next) (left - 1))
first-ahead row f h = ap (map row) (ahead-front f 1 h)

module _ (k : Kind) (entries runs : ℕ) (counts keys items : List ℕ) (from : ShownRun) (left : ℕ) where
  abbrev row_of : ℕ → Row
  row_of = entry_row k entries items

  abbrev rows_left : ShownRun → ℕ → List Row
  rows_left = rows_ahead k entries runs counts keys items

  -- so many rows were taken, all of them that of an entry; those behind them lie ahead
  pub record Merging (x : ShownRun) (slot n : ℕ) : Type 0 where
    pub most : n ≤ left
    pub fits : n ≤ MOST_COUNT
    pub inside : slot ≤ entries
    pub ahead : Ahead runs counts x (left - n)
    pub whole : rows_left from left ≡ replicate n (row_of slot) ++ rows_left x (left - n)

  -- what is to be shown of them at the end
  abbrev pub FirstRun : ShownRun → ℕ → ℕ → Type 0
  FirstRun x slot n =
      (0 < n) × (n ≤ left) × (n ≤ MOST_COUNT) × (slot ≤ entries) × Ahead runs counts x (left - n)
      × (runs_of (rows_left from left) ≡ run (row_of slot) n ∷ runs_of (rows_left x (left - n)))

  pub merging_start : Ahead runs counts from left → Merging from 0 0
  merging_start f =
      let e : left - 0 ≡ left = omega arith in
      record { most = omega arith; fits = omega arith; inside = omega arith; ahead = rw e f; whole = rw e }

  module _ {x : ShownRun} {slot n : ℕ} (f : Merging x slot n) where
    -- the next run
    pub merging-next :
        x.rows ≤ 0 → 0 < left - n → {s : Source} → s ≡ keys_by runs → (marks : List ℕ) → {y : ShownRun} → Told s counts marks x.next (left - n) y
        → Merging y slot n
    merging-next used more by marks told = record {
      most = f.most;
      fits = f.fits;
      inside = f.inside;
      ahead = ahead-next f.ahead used more by marks told;
      whole = f.whole ∙ ap (λ (is : List ℕ). replicate n (row_of slot) ++ map (row_in k entries keys items) is) (ahead-same f.ahead used more by marks told);
    }

    -- the entry of the run that was taken last goes with the rows before: there are none, or it is the same
    pub record Joins (to : ℕ) : Type 0 where
      pub few : to ≤ entries
      pub kept : 0 < n → to ≡ slot
      pub row : row_of to ≡ row_in k entries keys items (x.slot - 1)

    module _ {seen : ℕ} (shows : seen ≡ slot_in entries keys (x.slot - 1)) where
      seen-row : row_of seen ≡ row_in k entries keys items (x.slot - 1)
      unfolding row_in
      seen-row = ap row_of shows

      pub joins-first : seen ≤ entries → n ≡ 0 → {to : ℕ} → to ≡ seen → Joins to
      joins-first h z e = record { few = omega arith; kept = λ l. absurd (omega arith); row = ap row_of e ∙ seen-row }

      module _ {t : Bool} (tells : t ≡ same (row_of slot) (row_of seen)) where
        pub joins-same : t ≡ true → {to : ℕ} → to ≡ slot → Joins to
        joins-same h e = record {
          few = omega (arith, f.inside);
          kept = λ l. e;
          row = ap row_of e ∙ same-equal (row_of slot) (row_of seen) (sym tells ∙ h) ∙ seen-row;
        }

        -- or it is another, and the run ends
        pub ends-before : t ≡ false → (n ≡ 0 → ⊥) → (x.rows ≡ 0 → ⊥) → FirstRun x slot n
        ends-before h z l =
            let some : 0 < n = omega arith in
            let here = first-ahead (row_in k entries keys items) f.ahead (omega arith) in
            let ends : Ends (row_of slot) n (rows_left x (left - n)) = rw here (other (ap (same (row_of slot)) (sym seen-row) ∙ sym tells ∙ h)) in
            (some, f.most, f.fits, f.inside, f.ahead, ap runs_of f.whole ∙ first_run some f.fits ends)

    -- some rows of it taken
    pub merging-take : {to : ℕ} → Joins to → (m : ℕ) → m ≤ x.rows → n + m ≤ left → n + m ≤ MOST_COUNT → Merging (shown x.slot (x.rows - m) x.next) to (n + m)
    merging-take {to} j m h few fits =
        let e : left - n - m ≡ left - (n + m) = omega arith in
        record {
          most = few;
          fits = fits;
          inside = j.few;
          ahead = rw e at (ahead-take f.ahead m h);
          whole = rw (← e) (f.whole ∙ ap (λ (l : List Row). replicate n (row_of slot) ++ l) front ∙ together);
        }
      where
        y : ShownRun
        y = shown x.slot (x.rows - m) x.next

        front : rows_left x (left - n) ≡ replicate m (row_of to) ++ rows_left y (left - n - m)
        front =
            ap (map (row_in k entries keys items)) (ahead-front f.ahead m h)
            ∙ map_rows (row_in k entries keys items) m (x.slot - 1) (runs_ahead runs counts y (left - n - m))
            ∙ ap (λ (r : Row). replicate m r ++ rows_left y (left - n - m)) (sym j.row)

        together : replicate n (row_of slot) ++ (replicate m (row_of to) ++ rows_left y (left - n - m)) ≡ replicate (n + m) (row_of to) ++ rows_left y (left - n - m)
        together =
            ap (λ (l : List Row). l ++ (replicate m (row_of to) ++ rows_left y (left - n - m))) (alike n (λ l. ap row_of (sym (j.kept l))))
            ∙ sym (append_assoc (replicate n (row_of to)) (replicate m (row_of to)) (rows_left y (left - n - m)))
            ∙ ap (λ (l : List Row). l ++ rows_left y (left - n - m)) (replicate-append-replicate n m (row_of to))

    -- no more rows fit into the run, or none is left
    pub merging-end : 0 < left → min left MOST_COUNT ≤ n → FirstRun x slot n
    merging-end more h = (omega arith, f.most, f.fits, f.inside, f.ahead, ap runs_of f.whole ∙ first_run (omega arith) f.fits ends)
      where
        ends : Ends (row_of slot) n (rows_left x (left - n))
        ends = ⊎_elim
            (λ (l : n < left). full (omega (arith, f.fits)))
            (λ (l : left ≤ n). let z = ahead_none f.ahead (omega arith) in rw z last)
            (lt-or-ge n left)

-- ---- the measure of the walk: a run was taken, and rows of it were merged
pub next-less : (p q left rows runs : ℕ) → rows ≤ 0 → q < left + runs → p + q < p + (left - rows + runs)
next-less p q left rows runs h l = omega arith

pub take_less : (left n m rows runs : ℕ) → 0 < m → m ≤ rows → rows ≤ left - n → left - (n + m) + (left - (n + m) - (rows - m) + runs) < left - n + (left - n - rows + runs)
take_less left n m rows runs some h f =
    let e : left - (n + m) - (rows - m) ≡ left - n - rows = omega arith in
    rw e (fewer (left - n - rows + runs))
  where
    fewer : (p : ℕ) → left - (n + m) + p < left - n + p
    fewer p = omega arith
