-- The place of a row among entries, whether it is one of them, and the entries after more rows: those of the rows are those of their runs.
-- Assumes nothing.
use Prim.Native.Nat.{ℕ, zero, suc, ◌+◌, ◌≤◌, ◌<◌}
use native.Mathlib.Omega.{arith}
use mathlib.Core.Bool.{Bool, true, false, cond, ◌&&◌, ◌||◌, or-true, and-eq-true_iff}
use mathlib.Core.List.{List, [], ◌∷◌, ◌++◌, map}
use mathlib.Core.Path.{◌≡◌, refl, sym, ap, ◌∙◌}
use lib.Dec.{ltb, leb-suc-suc}
use lib.ListN.{length, get_or, replicate}
use borrow.Author.Tests.{lt-ltb}
use Rattle.limits.specs.Limits.{MOST_COUNT}
use Rattle.plain.specs.Rows.{Row, null, int, bytes, same}
use Rattle.plain.proofs.Same.{same-equal, same_self}
use Rattle.rle.specs.RunLength.{run, runs_from, runs_of}
use Rattle.dict.specs.Dictionary.{index_of, with_entry, entries_after, entries_of}

-- ---- the place of a row among the entries
pub index-row : (r : Row) (es : List Row) → index_of r es < length es → get_or es (index_of r es) null ≡ r
unfolding index_of
index-row r [] h = absurd (omega arith)
index-row r (e ∷ es) h = go (same r e) refl h (index-row r es)
  where
    go : (t : Bool) → same r e ≡ t → cond t 0 (suc (index_of r es)) < suc (length es)
        → (index_of r es < length es → get_or es (index_of r es) null ≡ r)
        → get_or (e ∷ es) (cond t 0 (suc (index_of r es))) null ≡ r
    go true q l ih = sym (same-equal r e q)
    go false q l ih = ih (omega arith)

pub index-most : (x : Row) (es : List Row) → index_of x es ≤ length es
unfolding index_of
index-most x [] = omega arith
index-most x (e ∷ es) = go (same x e) (index-most x es)
  where
    go : (t : Bool) → index_of x es ≤ length es → cond t 0 (suc (index_of x es)) ≤ suc (length es)
    go true h = omega arith
    go false h = omega arith

-- it is the first
pub index-first : (r : Row) (es : List Row) (k : ℕ) → k < length es → get_or es k null ≡ r → index_of r es ≤ k
unfolding index_of
index-first r [] k h q = absurd (omega arith)
index-first r (e ∷ es) zero h q = rw (ap (same r) q ∙ same_self r) (omega arith)
index-first r (e ∷ es) (suc k) h q = go (same r e) (index-first r es k (omega arith) q)
  where
    go : (t : Bool) → index_of r es ≤ k → cond t 0 (suc (index_of r es)) ≤ suc k
    go true l = omega arith
    go false l = omega arith

-- one that is there stays where it is
pub index_kept : (x : Row) (es fs : List Row) → index_of x es < length es → index_of x (es ++ fs) ≡ index_of x es
unfolding index_of
index_kept x [] fs h = absurd (omega arith)
index_kept x (e ∷ es) fs h = go (same x e) h (index_kept x es fs)
  where
    go : (t : Bool) → cond t 0 (suc (index_of x es)) < suc (length es) → (index_of x es < length es → index_of x (es ++ fs) ≡ index_of x es)
        → cond t 0 (suc (index_of x (es ++ fs))) ≡ cond t 0 (suc (index_of x es))
    go true l ih = refl
    go false l ih = ap suc (ih (omega arith))

-- one that is new comes last
pub index-new : (x : Row) (es : List Row) → index_of x es ≡ length es → index_of x (es ++ (x ∷ [])) ≡ length es
unfolding index_of
index-new x [] h = rw (same_self x)
index-new x (e ∷ es) h = go (same x e) h (index-new x es)
  where
    go : (t : Bool) → cond t 0 (suc (index_of x es)) ≡ suc (length es) → (index_of x es ≡ length es → index_of x (es ++ (x ∷ [])) ≡ length es)
        → cond t 0 (suc (index_of x (es ++ (x ∷ [])))) ≡ suc (length es)
    go true l ih = absurd (omega arith)
    go false l ih = ap suc (ih (omega arith))

-- ---- whether a row is one of them
abbrev pub among : Row → List Row → Bool
among r es = ltb (index_of r es) (length es)

one-before : (t s : Bool) (a b c d : ℕ) → ltb c d ≡ (ltb a b || s) → ltb (cond t 0 (suc c)) (suc d) ≡ (ltb (cond t 0 (suc a)) (suc b) || s)
one-before true s a b c d h = rw (lt-ltb 0 (suc d) (omega arith), lt-ltb 0 (suc b) (omega arith))
one-before false s a b c d h = rw (leb-suc-suc (suc c) d, leb-suc-suc (suc a) b) h

-- one more at the end
pub among-last : (r : Row) (es : List Row) (x : Row) → among r (es ++ (x ∷ [])) ≡ (among r es || same r x)
unfolding index_of
among-last r [] x = go (same r x)
  where
    go : (t : Bool) → ltb (cond t 0 1) 1 ≡ t
    go true = refl
    go false = refl
among-last r (e ∷ es) x =
    one-before (same r e) (same r x) (index_of r es) (length es) (index_of r (es ++ (x ∷ []))) (length (es ++ (x ∷ []))) (among-last r es x)

pub last-there : (r : Row) (es : List Row) → among r (es ++ (r ∷ [])) ≡ true
last-there r es = among-last r es r ∙ ap (λ (t : Bool). among r es || t) (same_self r) ∙ or-true (among r es)

-- ---- the entries after one more row
-- one that is there; one that is new
pub with-old : (es : List Row) (r : Row) → among r es ≡ true → with_entry es r ≡ es
unfolding with_entry
with-old es null h = refl
with-old es (int v) h = rw h
with-old es (bytes bs) h = rw h

pub with-new : (es : List Row) (r : Row) → (r ≡ null → ⊥) → among r es ≡ false → with_entry es r ≡ es ++ (r ∷ [])
unfolding with_entry
with-new es null z h = absurd (z refl)
with-new es (int v) z h = rw h
with-new es (bytes bs) z h = rw h

-- a row that isn't null is then there
pub own-there : (es : List Row) (r : Row) → (r ≡ null → ⊥) → among r (with_entry es r) ≡ true
own-there es r z = go (among r es) refl
  where
    go : (t : Bool) → among r es ≡ t → among r (with_entry es r) ≡ true
    go true h = rw (with-old es r h) h
    go false h = rw (with-new es r z h) (last-there r es)

-- the same row once more
pub with-again : (es : List Row) (r : Row) → with_entry (with_entry es r) r ≡ with_entry es r
unfolding with_entry
with-again es null = refl
with-again es (int v) = with-old (with_entry es (int v)) (int v) (own-there es (int v) (λ e. let z : ◌≡◌ {A = ℕ} 0 1 = cc in omega arith))
with-again es (bytes bs) = with-old (with_entry es (bytes bs)) (bytes bs) (own-there es (bytes bs) (λ e. let z : ◌≡◌ {A = ℕ} 0 1 = cc in omega arith))

-- ---- the entries after more rows
pub after_first : (es : List Row) (r : Row) (rows : List Row) → entries_after es (r ∷ rows) ≡ entries_after (with_entry es r) rows
unfolding entries_after
after_first es r rows = refl

pub after-append : (es rows more : List Row) → entries_after es (rows ++ more) ≡ entries_after (entries_after es rows) more
unfolding entries_after
after-append es [] more = refl
after-append es (r ∷ rows) more = after-append (with_entry es r) rows more

-- the same row some times
pub after-times : (es : List Row) (n : ℕ) (r : Row) → entries_after es (replicate (suc n) r) ≡ with_entry es r
unfolding entries_after
after-times es zero r = refl
after-times es (suc n) r = after-times (with_entry es r) n r ∙ with-again es r

-- ---- the entries of the rows are those of the rows of their runs
after-runs : (es : List Row) (r : Row) (n : ℕ) (rows : List Row) → entries_after es (map (λ x. x.row) (runs_from r n rows)) ≡ entries_after (with_entry es r) rows
unfolding entries_after runs_from
after-runs es r n [] = refl
after-runs es r n (x ∷ rows) = go (same r x && ltb n MOST_COUNT) refl (after-runs es r (n + 1) rows) (after-runs (with_entry es r) x 1 rows)
  where
    go : (t : Bool) → (same r x && ltb n MOST_COUNT) ≡ t
        → entries_after es (map (λ y. y.row) (runs_from r (n + 1) rows)) ≡ entries_after (with_entry es r) rows
        → entries_after (with_entry es r) (map (λ y. y.row) (runs_from x 1 rows)) ≡ entries_after (with_entry (with_entry es r) x) rows
        → entries_after es (map (λ y. y.row) (cond t (runs_from r (n + 1) rows) (run r n ∷ runs_from x 1 rows))) ≡ entries_after (with_entry (with_entry es r) x) rows
    go true h joins apart =
        let e : r ≡ x = same-equal r x ((and-eq-true_iff (same r x) (ltb n MOST_COUNT)).0 h).0 in
        joins ∙ ap (λ (l : List Row). entries_after l rows) (sym (with-again es r) ∙ ap (with_entry (with_entry es r)) e)
    go false h joins apart = apart

pub entries-runs : (rows : List Row) → entries_of rows ≡ entries_of (map (λ x. x.row) (runs_of rows))
unfolding entries_of entries_after runs_of
entries-runs [] = refl
entries-runs (r ∷ rows) = sym (after-runs [] r 1 rows)
