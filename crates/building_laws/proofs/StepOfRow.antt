-- What an append finds is what the list says, where the record counts the list and the areas hold it. Assumes nothing.
use Prim.Native.Nat.{ℕ, ◌-◌}
use native.Mathlib.Omega.{arith}
use mathlib.Core.Bool.{Bool, false, not, ◌&&◌, and-false}
use mathlib.Core.List.{List, [], ◌∷◌, ◌++◌, map, map-append}
use mathlib.Core.Logic.{◌⊎◌, inl, inr}
use mathlib.Core.Path.{◌≡◌, refl, sym, ap, subst, ◌∙◌}
use lib.Dec.{ltb}
use lib.IntN.{ℤ, pos}
use lib.ListN.{length, take, get_or, length-map, get_or-map}
use lib.Seq.{get_or_at, get_or-take}
use Rattle.limits.specs.Limits.{MOST_COUNT}
use Rattle.encode.specs.declared.Kind.{Kind}
use Rattle.plain.specs.Rows.{Row, null, int, bytes, int_in, same_int, same}
use Rattle.plain.specs.Plain.{joined, item_of}
use Rattle.nullable.specs.Nullable.{presence}
use Rattle.rle.specs.RunLength.{Run, runs_of}
use Rattle.dict.specs.Dictionary.{index_of, entries_of, null_key, entry_key, key_of}
use Rattle.format.specs.declared.Encoding.{Encoding}
use Rattle.format.specs.declared.Encoding.TheVariants.{Plain, Nullable, RunLength, RunLengthNullable, Dictionary}
use Rattle.format.specs.Sizes.{run_rows, keys_of, stored_entries}
use Rattle.std.specs.Prelude.{Some}
use Rattle.lookup.specs.Held.{Held, field_wrong, look_up}
use Rattle.needs.specs.declared.Counted.{Counted}
use Rattle.needs.specs.Needs.{keyed}
use Rattle.step.specs.Steps.{adds, run_open, row_before, joins_run, run_step, joins_key, entry_step, key_step, step_of}
use Rattle.append.specs.Appending.{Lent, held_in}
use Rattle.building_laws.specs.Built.{stored_rows, stored_runs}
use Rattle.building_laws.proofs.Lists.{length-snoc}
use Rattle.building_laws.proofs.Runs.{last_run, last-run, joins_last, joins-last, some_runs}
use Rattle.building_laws.proofs.Entries.{is_new, entries-present}
use Rattle.building_laws.proofs.OneRowMore.{joins_by, item_by, key_by}
use Rattle.building_laws.proofs.Records.{Recorded}
use Rattle.building_laws.proofs.AreasOfRows.{Holds}
use Rattle.building_laws.proofs.Finding.{Stored, field-right, item_back, look_up_lem}

-- ---- no runs, or some before the last
record Ended (rs : List Run) : Type 0 where
  init : List Run
  last : Run
  whole : rs ≡ init ++ (last ∷ [])

ended : (rs : List Run) → (rs ≡ []) ⊎ Ended rs
ended [] = inl refl
ended (r ∷ rs) = inr (go r rs (ended rs))
  where
    go : (r : Run) (rs : List Run) → (rs ≡ []) ⊎ Ended rs → Ended (r ∷ rs)
    go r rs (inl e) = record { init = []; last = r; whole = rw e }
    go r rs (inr g) = record { init = r ∷ g.init; last = g.last; whole = ap (λ (l : List Run). r ∷ l) g.whole }

-- ---- runs of rows
module _ (k : Kind) (h : Held) (r : Counted) where
  before-told : (xs : List Row) (y : Row) → Stored k (xs ++ (y ∷ [])) h → r.runs - 1 ≡ length xs → r.null ≡ 1 - presence y → row_before k r h ≡ y
  unfolding row_before presence
  before-told xs null g n z = rw z
  before-told xs (int v) g n z = rw (z, n) (item_back k xs (int v) [] h g refl)
  before-told xs (bytes bs) g n z = rw (z, n) (item_back k xs (bytes bs) [] h g refl)

  module _ (x : Row) where
    step-with : (rs : List Run) → (ltb 0 r.runs && field_wrong k r.runs r.bytes h (r.runs - 1)) ≡ false → joins_run k r h x ≡ joins_last rs x
        → run_step k r h x ≡ adds (not (joins_last rs x)) (joins_last rs x) (pos 0)
    unfolding run_step
    step-with rs p q = rw (p, q)

    -- there are none
    step-first : r.runs ≡ 0 → run_step k r h x ≡ adds (not (joins_last [] x)) (joins_last [] x) (pos 0)
    unfolding joins_run run_open joins_last
    step-first n = step-with [] (rw n) (rw n)

    -- there is a last one
    step-later : (init : List Run) (last : Run) → Stored k (map (λ y. y.row) (init ++ (last ∷ []))) h → r.runs ≡ length (init ++ (last ∷ []))
        → r.last ≡ last.count → r.null ≡ 1 - presence last.row → r.bytes ≡ length (joined (item_of k) (map (λ y. y.row) (init ++ (last ∷ []))))
        → run_step k r h x ≡ adds (not (joins_last (init ++ (last ∷ [])) x)) (joins_last (init ++ (last ∷ [])) x) (pos 0)
    unfolding joins_run run_open joins_last
    step-later init last g n c z b =
        let f : Run → Row = λ y. y.row in
        let rs : List Run = init ++ (last ∷ []) in
        let xs : List Row = map f init in
        let m : map f rs ≡ xs ++ (last.row ∷ []) = map-append f init (last ∷ []) in
        let g' : Stored k (xs ++ (last.row ∷ [])) h = subst (λ (l : List Row). Stored k l h) m g in
        let l : r.runs ≡ length (xs ++ (last.row ∷ [])) = n ∙ sym (length-map rs f) ∙ ap length m in
        let i : r.runs - 1 ≡ length xs = omega (arith, length-snoc xs last.row) in
        let b' : r.bytes ≡ length (joined (item_of k) (xs ++ (last.row ∷ []))) = b ∙ ap (λ (s : List Row). length (joined (item_of k) s)) m in
        let w : field_wrong k r.runs r.bytes h (r.runs - 1) ≡ false =
        ap (λ (j : ℕ). field_wrong k r.runs r.bytes h j) i
        ∙ ap (λ (j : ℕ). field_wrong k j r.bytes h (length xs)) l
        ∙ ap (λ (j : ℕ). field_wrong k (length (xs ++ (last.row ∷ []))) j h (length xs)) b'
        ∙ field-right k xs last.row [] h g' in
        step-with rs
        (ap (λ (t : Bool). ltb 0 r.runs && t) w ∙ and-false (ltb 0 r.runs))
        (rw (before-told xs last.row g' i z, n, c, last-run init last))

  pub run-told : (rs : List Run) (x : Row) → Stored k (map (λ y. y.row) rs) h → r.runs ≡ length rs → r.last ≡ (last_run rs).count
      → r.null ≡ 1 - presence (last_run rs).row → r.bytes ≡ length (joined (item_of k) (map (λ y. y.row) rs))
      → run_step k r h x ≡ adds (not (joins_last rs x)) (joins_last rs x) (pos 0)
  run-told rs x g n c z b = go (ended rs)
    where
      go : (rs ≡ []) ⊎ Ended rs → run_step k r h x ≡ adds (not (joins_last rs x)) (joins_last rs x) (pos 0)
      go (inl e) = rw e (step-first x (n ∙ ap length e))
      go (inr d) =
          let e = d.whole in
          let t = last-run d.init d.last in
          rw e
          (step-later x d.init d.last (subst (λ (l : List Run). Stored k (map (λ y. y.row) l) h) e g) (n ∙ ap length e)
          (c ∙ ap (λ (l : List Run). (last_run l).count) e ∙ ap (λ (y : Run). y.count) t)
          (z ∙ ap (λ (l : List Run). 1 - presence (last_run l).row) e ∙ ap (λ (y : Run). 1 - presence y.row) t)
          (b ∙ ap (λ (l : List Run). length (joined (item_of k) (map (λ y. y.row) l))) e))

-- ---- runs of keys
module _ (r : Counted) (keys : List ℤ) where
  last-key : (init : List Run) (last : Run) → map (λ y. y.row) (init ++ (last ∷ [])) ≡ map int (take (length (init ++ (last ∷ []))) keys)
      → last.row ≡ int (get_or keys (length init) (pos 0))
  last-key init last q =
      let f : Run → Row = λ y. y.row in
      let n : ℕ = length (init ++ (last ∷ [])) in
      let m = length-snoc init last in
      sym (get_or_at (map f init) last.row [] (int (pos 0)) (length init) (length-map init f))
      ∙ ap (λ (l : List Row). get_or l (length init) (int (pos 0))) (sym (map-append f init (last ∷ [])) ∙ q)
      ∙ get_or-map int (take n keys) (length init) (pos 0)
      ∙ ap int (get_or-take n keys (length init) (pos 0) (omega arith))

  joins-later : (init : List Run) (last : Run) (key : ℤ) → r.runs ≡ length (init ++ (last ∷ [])) → r.last ≡ last.count
      → map (λ y. y.row) (init ++ (last ∷ [])) ≡ map int (take (length (init ++ (last ∷ []))) keys)
      → joins_key r keys key ≡ joins_last (init ++ (last ∷ [])) (int key)
  unfolding joins_key run_open same
  joins-later init last key n c q =
      let m = length-snoc init last in
      let i : length (init ++ (last ∷ [])) - 1 ≡ length init = omega arith in
      let t : joins_key r keys key ≡ (ltb last.count MOST_COUNT && same_int key (get_or keys (length init) (pos 0))) = rw (n, c, i, some_runs init last) in
      t
      ∙ ap (λ (y : Row). ltb last.count MOST_COUNT && same (int key) y) (sym (last-key init last q))
      ∙ sym (joins-last init last (int key))

  pub key-told : (rs : List Run) (key : ℤ) → r.runs ≡ length rs → r.last ≡ (last_run rs).count → map (λ y. y.row) rs ≡ map int (take (length rs) keys)
      → joins_key r keys key ≡ joins_last rs (int key)
  unfolding joins_key run_open joins_last
  key-told rs key n c q = go (ended rs)
    where
      go : (rs ≡ []) ⊎ Ended rs → joins_key r keys key ≡ joins_last rs (int key)
      go (inl e) = rw (e, n ∙ ap length e)
      go (inr d) =
          let e = d.whole in
          let t = last-run d.init d.last in
          rw e
          (joins-later d.init d.last key (n ∙ ap length e) (c ∙ ap (λ (l : List Run). (last_run l).count) e ∙ ap (λ (y : Run). y.count) t)
          (subst (λ (l : List Run). map (λ y. y.row) l ≡ map int (take (length l) keys)) e q))

-- ---- every encoding
module _ (k : Kind) (rows : List Row) (r : Counted) (a : Lent) (x : Row) where
  -- what the areas hold of the items
  stored-in : (e : Encoding) → Holds k e rows a → Stored k (stored_rows e rows) (held_in a)
  stored-in e g = record { items = g.items; ends = g.ends; lens = g.lens; fit = g.fit }

  entry-told : Recorded k Dictionary rows r → Holds k Dictionary rows a → look_up k r.entries r.bytes (held_in a) x ≡ Some (index_of x (entries_of rows))
  unfolding stored_rows stored_entries
  entry-told h g = rw (h.entries, h.bytes) (look_up_lem k (held_in a) x (entries_of rows) (stored-in Dictionary g) (entries-present rows))

pub step-told : (k : Kind) (e : Encoding) (rows : List Row) (r : Counted) (a : Lent) (x : Row) → Recorded k e rows r → Holds k e rows a
    → step_of k e r (held_in a) a.keys x ≡ adds (item_by e rows x) (joins_by e rows x) (key_by e rows x)
unfolding step_of key_step entry_step item_by joins_by key_by keyed stored_rows stored_runs stored_entries run_rows is_new key_of int_in
step-told k Plain rows r a x h g = refl
step-told k Nullable rows r a x h g = refl
step-told k RunLength rows r a x h g = run-told k (held_in a) r (runs_of rows) x (stored-in k rows r a x RunLength g) h.runs h.last (h.null refl) h.bytes
step-told k RunLengthNullable rows r a x h g = run-told k (held_in a) r (runs_of rows) x (stored-in k rows r a x RunLengthNullable g) h.runs h.last (h.null refl) h.bytes
step-told k Dictionary rows r a null h g = rw (key-told r a.keys (runs_of (keys_of rows)) null_key h.runs h.last (g.keys refl))
step-told k Dictionary rows r a (int v) h g =
    rw (entry-told k rows r a (int v) h g, key-told r a.keys (runs_of (keys_of rows)) (entry_key (index_of (int v) (entries_of rows))) h.runs h.last (g.keys refl), h.entries)
step-told k Dictionary rows r a (bytes bs) h g =
    rw (entry-told k rows r a (bytes bs) h g, key-told r a.keys (runs_of (keys_of rows)) (entry_key (index_of (bytes bs) (entries_of rows))) h.runs h.last (g.keys refl), h.entries)
