-- The runs of a list with one row more at its end: the row joins the last run, or is a run more. Assumes nothing.
use Prim.Native.Nat.{ℕ, ◌+◌}
use native.Mathlib.Omega.{arith}
use mathlib.Core.Bool.{Bool, true, false, cond, ◌&&◌, and_comm}
use mathlib.Core.List.{List, [], ◌∷◌, ◌++◌, append_assoc, append-nil}
use mathlib.Core.Path.{◌≡◌, refl, sym, ap, ◌∙◌}
use lib.Dec.{ltb}
use lib.IntN.{pos}
use lib.ListN.{length, length-append}
use borrow.Author.Tests.{lt-ltb}
use Rattle.limits.specs.Limits.{MOST_COUNT}
use Rattle.plain.specs.Rows.{Row, int, same}
use Rattle.rle.specs.RunLength.{Run, run, runs_from, runs_of}
use Rattle.encode.proofs.Bools.{both}
use Rattle.building_laws.proofs.Same.{same-sym, same-told}

-- ---- the last run; of no runs one of no rows, which is not a null's
unfoldable pub last_run : List Run → Run
last_run [] = run (int (pos 0)) 0
last_run (r ∷ []) = r
last_run (r ∷ s ∷ rs) = last_run (s ∷ rs)

pub last-run : (rs : List Run) (r : Run) → last_run (rs ++ (r ∷ [])) ≡ r
unfolding last_run
last-run [] r = refl
last-run (s ∷ []) r = refl
last-run (s ∷ t ∷ rs) r = last-run (t ∷ rs) r

-- whether a row joins it
unfoldable pub joins_last : List Run → Row → Bool
joins_last rs z = ltb 0 (length rs) && ltb (last_run rs).count MOST_COUNT && same z (last_run rs).row

-- ---- how runs grow
-- the last of them is of one row more, and that row is the run's
pub record Joins (z : Row) (rs rs' : List Run) : Type 0 where
  pub init : List Run
  pub last : Run
  pub before : rs ≡ init ++ (last ∷ [])
  pub after : rs' ≡ init ++ (run last.row (last.count + 1) ∷ [])
  pub alike : z ≡ last.row

-- rows that are coded by runs or not; with a row that joins or not
abbrev pub Grows : Bool → Bool → Row → List Run → List Run → Type 0
Grows true true z rs rs' = Joins z rs rs'
Grows true false z rs rs' = rs' ≡ rs ++ (run z 1 ∷ [])
Grows false joins z rs rs' = rs' ≡ rs

-- ---- rows behind others: all runs but the last are as they were
record Behind (r : Row) (n : ℕ) (xs : List Row) : Type 0 where
  init : List Run
  row : Row
  count : ℕ
  whole : (ys : List Row) → runs_from r n (xs ++ ys) ≡ init ++ runs_from row count ys

behind : (r : Row) (n : ℕ) (xs : List Row) → Behind r n xs
unfolding runs_from
behind r n [] = record { init = []; row = r; count = n; whole = λ ys. refl }
behind r n (x ∷ xs) = go (same r x && ltb n MOST_COUNT) refl (behind r (n + 1) xs) (behind x 1 xs)
  where
    go : (t : Bool) → (same r x && ltb n MOST_COUNT) ≡ t → Behind r (n + 1) xs → Behind x 1 xs → Behind r n (x ∷ xs)
    go true e b c = record { init = b.init; row = b.row; count = b.count; whole = λ ys. rw e (b.whole ys) }
    go false e b c = record {
      init = run r n ∷ c.init;
      row = c.row;
      count = c.count;
      whole = λ ys. rw e (ap (λ (l : List Run). run r n ∷ l) (c.whole ys));
    }

pub some_runs : (rs : List Run) (r : Run) → ltb 0 (length (rs ++ (r ∷ []))) ≡ true
some_runs rs r = let l = length-append rs (r ∷ []) in lt-ltb 0 (length (rs ++ (r ∷ []))) (omega arith)

pub joins-last : (rs : List Run) (r : Run) (z : Row) → joins_last (rs ++ (r ∷ [])) z ≡ (ltb r.count MOST_COUNT && same z r.row)
unfolding joins_last
joins-last rs r z = rw (some_runs rs r, last-run rs r)

pub runs_grow : (rows : List Row) (z : Row) → Grows true (joins_last (runs_of rows) z) z (runs_of rows) (runs_of (rows ++ (z ∷ [])))
unfolding runs_of runs_from joins_last
runs_grow [] z = refl
runs_grow (x ∷ xs) z = go (joins_last (runs_from x 1 xs) z) refl
  where
    b : Behind x 1 xs
    b = behind x 1 xs

    now : runs_from x 1 xs ≡ b.init ++ (run b.row b.count ∷ [])
    now = ap (runs_from x 1) (sym (append-nil xs)) ∙ b.whole []

    test : joins_last (runs_from x 1 xs) z ≡ (ltb b.count MOST_COUNT && same z b.row)
    test = ap (λ (l : List Run). joins_last l z) now ∙ joins-last b.init (run b.row b.count) z

    next : runs_from x 1 (xs ++ (z ∷ []))
        ≡ b.init ++ cond (ltb b.count MOST_COUNT && same z b.row) (run b.row (b.count + 1) ∷ []) (run b.row b.count ∷ run z 1 ∷ [])
    next =
        b.whole (z ∷ [])
        ∙ ap (λ (t : Bool). b.init ++ cond t (run b.row (b.count + 1) ∷ []) (run b.row b.count ∷ run z 1 ∷ []))
        (ap (λ (t : Bool). t && ltb b.count MOST_COUNT) (same-sym b.row z) ∙ and_comm (same z b.row) (ltb b.count MOST_COUNT))

    go : (t : Bool) → joins_last (runs_from x 1 xs) z ≡ t → Grows true t z (runs_from x 1 xs) (runs_from x 1 (xs ++ (z ∷ [])))
    go true e =
        let h : (ltb b.count MOST_COUNT && same z b.row) ≡ true = sym test ∙ e in
        let p = both (ltb b.count MOST_COUNT) (same z b.row) h in
        record {
          init = b.init;
          last = run b.row b.count;
          before = now;
          after = rw h at next;
          alike = same-told z b.row p.1;
        }
    go false e =
        let h : (ltb b.count MOST_COUNT && same z b.row) ≡ false = sym test ∙ e in
        rw h at next ∙ sym (ap (λ (l : List Run). l ++ (run z 1 ∷ [])) now ∙ append_assoc b.init (run b.row b.count ∷ []) (run z 1 ∷ []))
