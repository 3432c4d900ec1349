-- `sizes_of`: the sizes of the runs that are behind, and the runs that are still to come. Assumes nothing.
use Prim.Native.Nat.{ℕ, zero, ◌+◌, ◌-◌, ◌≤◌, ◌<◌}
use native.Mathlib.Omega.{arith}
use mathlib.Core.Bool.{Bool, true, false}
use mathlib.Core.List.{List, [], ◌∷◌, ◌++◌, map}
use mathlib.Core.Path.{◌≡◌, refl, sym, ap, subst, ◌∙◌}
use lib.ListN.{length, replicate, length-append, length-replicate}
use Rattle.encode.specs.declared.Kind.{Kind}
use Rattle.varint.specs.Varint.{spelling}
use Rattle.plain.specs.Rows.{Row}
use Rattle.plain.specs.Plain.{joined, item_of}
use Rattle.rle.specs.RunLength.{Run, run, runs_of, counts_of}
use Rattle.dict.specs.Dictionary.{with_entry, entries_after, entries_of, dictionary_of, entry_row}
use Rattle.dict.proofs.Entries.{after_first, entries-runs}
use Rattle.source.specs.declared.ShownRun.{ShownRun}
use Rattle.repaired.specs.declared.Repeated.{Repeated}
use Rattle.repaired.specs.Repaired.{rows_repaired, rows_ahead, none_yet, row_in, Entered, Ahead}
use Rattle.repaired.proofs.Ahead.{all-ahead, ahead_none}
use Rattle.repaired.proofs.Merging.{FirstRun}
use Rattle.used.specs.Used.{is_new, Used, Shown}
use Rattle.used.proofs.Meeting.{null-stays, old-stays, new-joins}
use Rattle.used.proofs.Start.{shown-unmet}
use Rattle.repaired_laws.proofs.FewerEntries.{joined-last}
use Rattle.repaired_sizes.specs.declared.Sizes.{Sizes}
use Rattle.repaired_sizes.specs.Sizes.{sizes, sizes_of}
use Rattle.repaired_sizes.proofs.Growing.{after-longer, after_items}
use Rattle.repaired_sizes.proofs.Long.{AtMost, sizes-within}

-- the sizes of the runs behind, whose entries are es, where the runs `rest` of the rows are ahead
pub record Sized (k : Kind) (rows : List Row) (rest : List Run) (es : List Row) (s : Sizes) : Type 0 where
  pub runs : s.runs + length rest ≡ length (runs_of rows)
  pub counts : s.counts + length (counts_of rest) ≡ length (counts_of (runs_of rows))
  pub still : entries_of rows ≡ entries_after es (map (λ r. r.row) rest)
  pub entries : s.entries ≡ length es
  pub bytes : s.bytes ≡ length (joined (item_of k) es)

sized-none : (k : Kind) (rows : List Row) → Sized k rows (runs_of rows) [] (sizes 0 0 0 0)
unfolding entries_of joined
sized-none k rows = record { runs = omega arith; counts = omega arith; still = entries-runs rows; entries = refl; bytes = refl }

-- with a run of m rows
abbrev pub with_run : Sizes → ℕ → Sizes
with_run s m = sizes (s.runs + 1) (s.counts + length (spelling m)) s.entries s.bytes

-- with an entry whose item has so many bytes
abbrev pub with_item : Sizes → ℕ → Sizes
with_item s len = sizes s.runs s.counts (s.entries + 1) (s.bytes + len)

module _ {k : Kind} {rows : List Row} {rest : List Run} {es : List Row} {s : Sizes} (f : Sized k rows rest es s) where
  -- none is larger than the block
  sized-within : {m : ℕ} → length (dictionary_of k rows) ≤ m → AtMost m s
  unfolding sizes_of
  sized-within h =
      let w = sizes-within k rows in
      let more = map (λ (r : Run). r.row) rest in
      let e : length (entries_of rows) ≡ length (entries_after es more) = ap length f.still in
      let b : length (joined (item_of k) (entries_of rows)) ≡ length (joined (item_of k) (entries_after es more))
      = ap (λ (l : List Row). length (joined (item_of k) l)) f.still in (
        omega (arith, f.runs),
        omega (arith, f.counts),
        omega (arith, f.entries, after-longer es more),
        omega (arith, f.bytes, after_items (item_of k) es more),
      )

  sized-all : rest ≡ [] → (s ≡ sizes_of k rows) × (es ≡ entries_of rows)
  unfolding sizes_of counts_of joined entries_after
  sized-all z = go (subst (λ (l : List Run). Sized k rows l es s) z f)
    where
      go : Sized k rows [] es s → (s ≡ sizes_of k rows) × (es ≡ entries_of rows)
      go g =
          let a : s.runs ≡ length (runs_of rows) = omega (arith, g.runs) in
          let b : s.counts ≡ length (counts_of (runs_of rows)) = omega (arith, g.counts) in
          (rw (← a, ← b, g.still, ← g.entries, ← g.bytes), sym g.still)

-- ---- a run is taken
module _ {k : Kind} {rows : List Row} {r : Row} {m : ℕ} {rest : List Run} {es : List Row} {s : Sizes} (f : Sized k rows (run r m ∷ rest) es s) where
  many : s.runs + 1 + length rest ≡ length (runs_of rows)
  many = omega (arith, f.runs)

  spelled : s.counts + length (spelling m) + length (counts_of rest) ≡ length (counts_of (runs_of rows))
  unfolding counts_of joined
  spelled = omega (arith, f.counts, length-append (spelling m) (counts_of rest))

  still-more : {es' : List Row} → with_entry es r ≡ es' → entries_of rows ≡ entries_after es' (map (λ x. x.row) rest)
  still-more e =
      let more = map (λ (x : Run). x.row) rest in
      f.still ∙ after_first es r more ∙ ap (λ (l : List Row). entries_after l more) e

  -- of a row that is no new entry; of one that is
  sized-old : with_entry es r ≡ es → Sized k rows rest es (with_run s m)
  sized-old e = record { runs = many; counts = spelled; still = still-more e; entries = f.entries; bytes = f.bytes }

  sized_new : with_entry es r ≡ es ++ (r ∷ []) → {len : ℕ} → len ≡ length (item_of k r) → Sized k rows rest (es ++ (r ∷ [])) (with_item (with_run s m) len)
  sized_new e q = record {
    runs = many;
    counts = spelled;
    still = still-more e;
    entries = omega (arith, f.entries, length-append es (r ∷ []));
    bytes = omega (arith, f.bytes, q, joined-last (item_of k) es r);
  }

-- ---- the loop
module _ (k : Kind) (entries runs : ℕ) (counts keys items : List ℕ) (n : ℕ) (firsts₀ : List ℕ) where
  abbrev all : List Row
  all = rows_repaired k entries runs counts keys items n

  abbrev ahead_of : ShownRun → ℕ → List Run
  ahead_of x left = runs_of (rows_ahead k entries runs counts keys items x left)

  -- es are the entries of the runs behind: the first of their like are marked, and each that was met
  pub record Sizing (firsts met : List ℕ) (s : Sizes) (left : ℕ) (x : ShownRun) : Type 0 where
    pub ahead : Ahead runs counts x left
    pub es : List Row
    pub shown : Shown k entries items firsts met es
    pub sized : Sized k all (ahead_of x left) es s
    pub long : length firsts ≡ length firsts₀
    pub room : 8192 ≡ length met

  pub sizing-start : Entered k entries items → Ahead runs counts none_yet n → Used k entries items firsts₀ [] → {met : List ℕ} → met ≡ replicate 8192 0
      → {x : ShownRun} → x ≡ none_yet → Sizing firsts₀ met (sizes 0 0 0 0) n x
  sizing-start g a u p e = rw (p, e) (record {
    ahead = a;
    es = [];
    shown = shown-unmet u 8192 (omega (arith, g.few));
    sized = at_first;
    long = refl;
    room = sym (length-replicate 8192 zero);
  })
    where
      at_first : Sized k all (ahead_of none_yet n) [] (sizes 0 0 0 0)
      at_first = rw (all-ahead runs counts n) (sized-none k all)

  sizing-as : {firsts firsts' : List ℕ} → firsts ≡ firsts' → {s s' : Sizes} → s ≡ s' → {met met' : List ℕ} → met ≡ met'
      → {left : ℕ} {x : ShownRun} → Sizing firsts' met' s' left x → Sizing firsts met s left x
  sizing-as p q m f = rw (p, q, m) f

  module _ {firsts met : List ℕ} {s : Sizes} {left : ℕ} {x : ShownRun} (f : Sizing firsts met s left x) where
    pub sizing-within : {m : ℕ} → length (dictionary_of k all) ≤ m → AtMost m s
    sizing-within h = sized-within f.sized h

    pub sizing-end : left ≤ 0 → (s ≡ sizes_of k all) × Used k entries items firsts (entries_of all)
    unfolding runs_of
    sizing-end h =
        let e = sized-all f.sized (ap (λ (l : List ℕ). runs_of (map (row_in k entries keys items) l)) (ahead_none f.ahead h)) in
        (e.0, subst (λ (l : List Row). Used k entries items firsts l) e.1 f.shown.used)

    -- the next run is taken, and counted
    module _ (y : Repeated) (told : FirstRun k entries runs counts keys items x left y.rest y.slot y.rows) {t : Sizes} (counted : t ≡ with_run s y.rows) where
      abbrev row : Row
      row = entry_row k entries items y.slot

      -- after it
      abbrev On : List ℕ → List ℕ → Sizes → Type 0
      On firsts' met' s' = Sizing firsts' met' s' (left - y.rows) y.rest

      ahead-first : Sized k all (run row y.rows ∷ ahead_of y.rest (left - y.rows)) f.es s
      ahead-first = subst (λ (l : List Run). Sized k all l f.es s) told.5 f.sized

      -- room for an entry
      pub sizing-room : {m : ℕ} → length (dictionary_of k all) ≤ m → (t.entries ≤ m) × (t.bytes ≤ m)
      sizing-room h = let w = sizing-within h in rw counted (w.2, w.3)

      -- nulls
      pub sizing-null : y.slot ≤ 0 → {firsts'' : List ℕ} → firsts'' ≡ firsts → {s'' : Sizes} → s'' ≡ t → {met'' : List ℕ} → met'' ≡ met → On firsts'' met'' s''
      sizing-null h p q m =
          let e : with_entry f.es row ≡ f.es = null-stays k entries items y.slot h f.es in
          sizing-as p (q ∙ counted) m (record { ahead = told.4; es = f.es; shown = f.shown; sized = sized-old ahead-first e; long = f.long; room = f.room })

      -- an entry: `meet` told whether its row is new
      module _ (some : 0 < y.slot) {new : Bool} (firsts' met' : List ℕ)
          (shows : (es : List Row) → Shown k entries items firsts met es → (new ≡ is_new es row) × Shown k entries items firsts' met' (with_entry es row))
          (kept : length firsts' ≡ length firsts) (kept' : length met' ≡ length met) where
        now : {es : List Row} → with_entry f.es row ≡ es → {s' : Sizes} → Sized k all (ahead_of y.rest (left - y.rows)) es s' → On firsts' met' s'
        now {es} e z = record {
          ahead = told.4;
          es = es;
          shown = subst (λ (l : List Row). Shown k entries items firsts' met' l) e (shows f.es f.shown).1;
          sized = z;
          long = kept ∙ f.long;
          room = f.room ∙ sym kept';
        }

        is-new : new ≡ is_new f.es row
        is-new = (shows f.es f.shown).0

        -- it was shown before
        pub sizing-old : new ≡ false → {firsts'' : List ℕ} → firsts'' ≡ firsts' → {s'' : Sizes} → s'' ≡ t → {met'' : List ℕ} → met'' ≡ met' → On firsts'' met'' s''
        sizing-old h p q m =
            let e : with_entry f.es row ≡ f.es = old-stays f.es row (sym is-new ∙ h) in
            sizing-as p (q ∙ counted) m (now e (sized-old ahead-first e))

        -- it is new, and so counted
        pub sizing-new : new ≡ true → {len : ℕ} → len ≡ length (item_of k row) → {u : Sizes} → u ≡ with_item t len
            → {firsts'' : List ℕ} → firsts'' ≡ firsts' → {s'' : Sizes} → s'' ≡ u → {met'' : List ℕ} → met'' ≡ met' → On firsts'' met'' s''
        sizing-new h {len} item entered p q m =
            let e : with_entry f.es row ≡ f.es ++ (row ∷ []) = new-joins k entries items y.slot some f.es (sym is-new ∙ h) in
            sizing-as p (q ∙ entered ∙ ap (λ (v : Sizes). with_item v len) counted) m (now e (sized_new ahead-first e item))
