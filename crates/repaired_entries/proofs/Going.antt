-- The walk over the runs of a repaired column: which entries the runs before have shown, as the bitmaps say it, and which those ahead add. Assumes nothing.
use Prim.Native.Nat.{ℕ, zero, ◌-◌, ◌≤◌, ◌<◌}
use native.Mathlib.Omega.{arith}
use mathlib.Core.Bool.{Bool, true, false}
use mathlib.Core.List.{List, [], ◌∷◌, ◌++◌, map, append_assoc}
use mathlib.Core.Path.{◌≡◌, sym, ap, subst, ◌∙◌}
use lib.ListN.{length, replicate, length-replicate}
use Rattle.encode.specs.declared.Kind.{Kind}
use Rattle.plain.specs.Rows.{Row}
use Rattle.rle.specs.RunLength.{run, runs_of}
use Rattle.dict.specs.Dictionary.{with_entry, entry_row, entries_of}
use Rattle.dict.proofs.Entries.{entries-runs}
use Rattle.source.specs.declared.ShownRun.{ShownRun}
use Rattle.repaired.specs.Repaired.{row_in, rows_repaired, rows_ahead, none_yet, Entered, Ahead}
use Rattle.repaired.specs.declared.Repeated.{Repeated}
use Rattle.repaired.proofs.Ahead.{all-ahead, ahead_none}
use Rattle.used.specs.Used.{is_new, Shown}
use Rattle.used.proofs.Meeting.{null-stays, old-stays, new-joins}
use Rattle.used.proofs.Start.{shown-none}
use Rattle.repaired_entries.proofs.New.{new_entries, all_new, new_none, new-first}

module _ (k : Kind) (entries runs : ℕ) (counts keys items : List ℕ) (n : ℕ) where
  abbrev pub row_of : ℕ → Row
  row_of = entry_row k entries items

  -- all entries
  abbrev pub all : List Row
  all = entries_of (rows_repaired k entries runs counts keys items n)

  -- the rows of the runs ahead, and the entries that they add
  abbrev pub ahead : ShownRun → ℕ → List Row
  ahead x left = map (λ r. r.row) (runs_of (rows_ahead k entries runs counts keys items x left))

  abbrev pub fresh : List Row → ShownRun → ℕ → List Row
  fresh es x left = new_entries es (ahead x left)

  -- the entries used are `es`
  pub record Going (bits met : List ℕ) (x : ShownRun) (left : ℕ) (es : List Row) : Type 0 where
    pub shown : Shown k entries items bits met es
    pub sized : 8192 ≡ length bits
    pub sized-met : 8192 ≡ length met
    pub there : Ahead runs counts x left
    pub whole : all ≡ es ++ fresh es x left

  -- what `next_run` tells
  pub record Next (x : ShownRun) (left : ℕ) (r : Repeated) : Type 0 where
    pub some : 0 < r.rows
    pub most : r.rows ≤ left
    pub inside : r.slot ≤ entries
    pub there : Ahead runs counts r.rest (left - r.rows)
    pub first : runs_of (rows_ahead k entries runs counts keys items x left)
        ≡ run (row_of r.slot) r.rows ∷ runs_of (rows_ahead k entries runs counts keys items r.rest (left - r.rows))

  -- what `meet_known` tells of an entry
  abbrev pub Meets : List ℕ → List ℕ → ℕ → Bool → List ℕ → List ℕ → Type 0
  Meets bits met slot t bits' met' =
      ((es : List Row) → Shown k entries items bits met es → (t ≡ is_new es (row_of slot)) × Shown k entries items bits' met' (with_entry es (row_of slot)))
      × ((length bits' ≡ length bits) × (length met' ≡ length met))

  -- behind a run that adds no entry, and behind one that adds its own
  pub record Kept (x : ShownRun) (left : ℕ) (r : Repeated) (es : List Row) (bits met : List ℕ) : Type 0 where
    pub going : Going bits met r.rest (left - r.rows) es
    pub same : fresh es x left ≡ fresh es r.rest (left - r.rows)

  pub record Grown (x : ShownRun) (left : ℕ) (r : Repeated) (es : List Row) (bits met : List ℕ) : Type 0 where
    pub going : Going bits met r.rest (left - r.rows) (es ++ (row_of r.slot ∷ []))
    pub grown : fresh es x left ≡ row_of r.slot ∷ fresh (es ++ (row_of r.slot ∷ [])) r.rest (left - r.rows)

  pub all-fresh : all ≡ fresh [] none_yet n
  all-fresh =
      entries-runs (rows_repaired k entries runs counts keys items n)
      ∙ ap (λ (is : List ℕ). entries_of (map (λ r. r.row) (runs_of (map (row_in k entries keys items) is)))) (sym (all-ahead runs counts n))
      ∙ sym (all_new (ahead none_yet n))

  pub going_start : Entered k entries items → Ahead runs counts none_yet n → Going (replicate 8192 0) (replicate 8192 0) none_yet n []
  going_start g f = record {
    shown = shown-none k entries items 8192 8192 (omega (arith, g.few)) (omega (arith, g.few));
    sized = sym (length-replicate 8192 zero);
    sized-met = sym (length-replicate 8192 zero);
    there = f;
    whole = all-fresh;
  }

  module _ {bits met : List ℕ} {x : ShownRun} {left : ℕ} {es : List Row} (f : Going bits met x left es) where
    pub fresh-none : left ≤ 0 → fresh es x left ≡ []
    unfolding new_entries runs_of
    fresh-none h = let e = ahead_none f.there h in rw e

    -- the next run
    module _ {r : Repeated} (g : Next x left r) where
      abbrev behind : List Row
      behind = ahead r.rest (left - r.rows)

      abbrev es' : List Row
      es' = es ++ (row_of r.slot ∷ [])

      front : ahead x left ≡ row_of r.slot ∷ behind
      front = ap (map (λ z. z.row)) g.first

      -- nothing new
      kept : with_entry es (row_of r.slot) ≡ es → {bits' met' : List ℕ} → Shown k entries items bits' met' es → 8192 ≡ length bits' → 8192 ≡ length met'
          → Kept x left r es bits' met'
      kept e u s m =
          let same : fresh es x left ≡ new_entries es behind = ap (new_entries es) front ∙ new_none es (row_of r.slot) behind e in
          record {
            going = record { shown = u; sized = s; sized-met = m; there = g.there; whole = f.whole ∙ ap (λ (l : List Row). es ++ l) same };
            same = same;
          }

      -- nulls
      pub going-null : r.slot ≤ 0 → Kept x left r es bits met
      going-null h = kept (null-stays k entries items r.slot h es) f.shown f.sized f.sized-met

      -- rows of an entry
      module _ (some : 0 < r.slot) {t : Bool} {bits' met' : List ℕ} (m : Meets bits met r.slot t bits' met') where
        shown-now : {es'' : List Row} → with_entry es (row_of r.slot) ≡ es'' → Shown k entries items bits' met' es''
        shown-now e = subst (λ (l : List Row). Shown k entries items bits' met' l) e (m.0 es f.shown).1

        pub going-old : t ≡ false → Kept x left r es bits' met'
        going-old h =
            let e : with_entry es (row_of r.slot) ≡ es = old-stays es (row_of r.slot) (sym (m.0 es f.shown).0 ∙ h) in
            kept e (shown-now e) (f.sized ∙ sym m.1.0) (f.sized-met ∙ sym m.1.1)

        pub going-new : t ≡ true → Grown x left r es bits' met'
        going-new h =
            let j : with_entry es (row_of r.slot) ≡ es' = new-joins k entries items r.slot some es (sym (m.0 es f.shown).0 ∙ h) in
            let e : fresh es x left ≡ row_of r.slot ∷ new_entries es' behind = ap (new_entries es) front ∙ new-first es (row_of r.slot) behind j in
            record {
              going = record {
                shown = shown-now j;
                sized = f.sized ∙ sym m.1.0;
                sized-met = f.sized-met ∙ sym m.1.1;
                there = g.there;
                whole = f.whole ∙ ap (λ (l : List Row). es ++ l) e ∙ sym (append_assoc es (row_of r.slot ∷ []) (new_entries es' behind));
              };
              grown = e;
            }
