-- The runs of the keys of some rows are the runs of the rows: keys tell rows apart exactly as they are. Assumes nothing.
use Prim.Native.Nat.{ℕ, suc, ◌+◌, ◌<◌}
use native.Mathlib.Omega.{arith}
use mathlib.Core.Bool.{Bool, true, false, cond, ◌&&◌}
use mathlib.Core.List.{List, [], ◌∷◌, map}
use mathlib.Core.Path.{◌≡◌, refl, sym, ap, ◌∙◌}
use lib.Dec.{ltb}
use lib.ListN.{length, get_or}
use Rattle.limits.specs.Limits.{MOST_COUNT}
use Rattle.plain.specs.Each.{Each}
use Rattle.plain.specs.Rows.{Row, null, int, bytes, same}
use Rattle.plain.proofs.Same.{same-equal, same_self}
use Rattle.rle.specs.RunLength.{Run, run, runs_from, runs_of}
use Rattle.dict.specs.Dictionary.{index_of, entries_of, key_of}
use Rattle.dict.proofs.Entries.{index-row}
use Rattle.block_laws.proofs.Entries.{Entered, all-entered, slot_of, slot-null, slot-int, slot-bytes}

-- ---- rows that are null or entries are told apart by their keys
module _ (es : List Row) where
  -- a key of a row that isn't null is not null's, and leads to the row
  same-entry : (a b : Row) → index_of a es < length es → index_of b es < length es → suc (index_of a es) ≡ suc (index_of b es) → a ≡ b
  same-entry a b h g e =
      let i : index_of a es ≡ index_of b es = omega arith in
      sym (index-row a es h) ∙ ap (λ (n : ℕ). get_or es n null) i ∙ index-row b es g

  same-slot : (a b : Row) → Entered es a → Entered es b → slot_of (key_of es a) ≡ slot_of (key_of es b) → a ≡ b
  same-slot null null h g e = refl
  same-slot null (int v) h g e = absurd (omega (arith, slot-null es, slot-int es v))
  same-slot null (bytes bs) h g e = absurd (omega (arith, slot-null es, slot-bytes es bs))
  same-slot (int u) null h g e = absurd (omega (arith, slot-null es, slot-int es u))
  same-slot (int u) (int v) h g e = same-entry (int u) (int v) h g (sym (slot-int es u) ∙ e ∙ slot-int es v)
  same-slot (int u) (bytes bs) h g e = same-entry (int u) (bytes bs) h g (sym (slot-int es u) ∙ e ∙ slot-bytes es bs)
  same-slot (bytes cs) null h g e = absurd (omega (arith, slot-null es, slot-bytes es cs))
  same-slot (bytes cs) (int v) h g e = same-entry (bytes cs) (int v) h g (sym (slot-bytes es cs) ∙ e ∙ slot-int es v)
  same-slot (bytes cs) (bytes bs) h g e = same-entry (bytes cs) (bytes bs) h g (sym (slot-bytes es cs) ∙ e ∙ slot-bytes es bs)

  pub same_key : (a b : Row) → Entered es a → Entered es b → same (key_of es a) (key_of es b) ≡ same a b
  same_key a b h g = go (same (key_of es a) (key_of es b)) (same a b) refl refl
    where
      go : (s t : Bool) → same (key_of es a) (key_of es b) ≡ s → same a b ≡ t → s ≡ t
      go true true p q = refl
      go false false p q = refl
      go true false p q =
          let e : a ≡ b = same-slot a b h g (ap slot_of (same-equal (key_of es a) (key_of es b) p)) in
          sym (same_self a) ∙ ap (same a) e ∙ q
      go false true p q =
          let e : a ≡ b = same-equal a b q in
          sym p ∙ ap (λ (x : Row). same (key_of es a) (key_of es x)) (sym e) ∙ same_self (key_of es a)

-- ---- a function that tells rows apart as they are, of each row of a run
module _ (P : Row → Type 0) (g : Row → Row) (apart : (a b : Row) → P a → P b → same (g a) (g b) ≡ same a b) where
  abbrev each : Run → Run
  each r = run (g r.row) r.count

  over-from : (r : Row) (n : ℕ) (xs : List Row) → P r → Each P xs → runs_from (g r) n (map g xs) ≡ map each (runs_from r n xs)
  unfolding runs_from
  over-from r n [] h k = refl
  over-from r n (x ∷ xs) h k = rw (apart r x h k.0) (go (same r x && ltb n MOST_COUNT) (over-from r (n + 1) xs h k.1) (over-from x 1 xs k.0 k.1))
    where
      go : (t : Bool) → runs_from (g r) (n + 1) (map g xs) ≡ map each (runs_from r (n + 1) xs) → runs_from (g x) 1 (map g xs) ≡ map each (runs_from x 1 xs)
          → cond t (runs_from (g r) (n + 1) (map g xs)) (run (g r) n ∷ runs_from (g x) 1 (map g xs)) ≡ map each (cond t (runs_from r (n + 1) xs) (run r n ∷ runs_from x 1 xs))
      go true p q = p
      go false p q = ap (λ (rs : List Run). run (g r) n ∷ rs) q

  over_runs : (rows : List Row) → Each P rows → runs_of (map g rows) ≡ map each (runs_of rows)
  unfolding runs_of
  over_runs [] k = refl
  over_runs (x ∷ xs) k = over-from x 1 xs k.0 k.1

-- For any rows.
pub key-runs :
    (rows : List Row) → runs_of (map (key_of (entries_of rows)) rows) ≡ map (λ r. run (key_of (entries_of rows) r.row) r.count) (runs_of rows)
key-runs rows = over_runs (Entered (entries_of rows)) (key_of (entries_of rows)) (same_key (entries_of rows)) rows (all-entered rows)
