-- An entry that a row shows: one that is new joins the rows shown before, and every item that was met reads as one of them still. Assumes nothing.
use Prim.Native.Nat.{ℕ, ◌-◌, ◌≤◌, ◌<◌}
use native.Mathlib.Omega.{arith}
use mathlib.Core.Path.{◌≡◌, refl, sym, ap, ◌∙◌}
use mathlib.Core.Bool.{Bool, true, false, cond, not, ◌||◌}
use mathlib.Core.List.{List, [], ◌∷◌, ◌++◌}
use lib.Dec.{eqb}
use lib.ListN.{length}
use borrow.Author.Tests.{eqb-true, not-true, not-false}
use Rattle.encode.specs.declared.Kind.{Kind}
use Rattle.plain.specs.Rows.{Row, null, same}
use Rattle.plain.specs.Plain.{plain_row}
use Rattle.nullable.specs.Nullable.{bit_at}
use Rattle.dict.specs.Dictionary.{index_of, with_entry, entry_row}
use Rattle.dict.proofs.Entries.{among, with-old, with-new, own-there}
use Rattle.used.specs.Used.{plain_rows, is_new, Met, Shown}
use Rattle.used.proofs.Finding.{entry_row_lem}
use Rattle.used.proofs.Marks.{some-row, among-with, used-new, used-after}

-- what `use_item` tells of the bitmap behind it
abbrev pub Marked : List ℕ → ℕ → List ℕ → Type 0
Marked bits i bits' = (length bits' ≡ length bits) × ((j : ℕ) → bit_at bits' j ≡ cond (eqb i j) 1 (bit_at bits j))

-- nulls add no row, and neither does a row that isn't new
pub null-stays : (k : Kind) (n : ℕ) (items : List ℕ) (slot : ℕ) → slot ≤ 0 → (es : List Row) → with_entry es (entry_row k n items slot) ≡ es
unfolding entry_row with_entry
null-stays k n items slot h es = let z : slot ≡ 0 = omega arith in rw z

pub old-stays : (es : List Row) (r : Row) → is_new es r ≡ false → with_entry es r ≡ es
unfolding is_new
old-stays es r h = with-old es r (not-false _ h)

module _ (k : Kind) (n : ℕ) (items : List ℕ) (slot : ℕ) (some : 0 < slot) where
  abbrev row : Row
  row = entry_row k n items slot

  some-entry : row ≡ null → ⊥
  some-entry e = some-row k n items (slot - 1) (sym (entry_row_lem k n items slot some) ∙ e)

  -- that of an entry that is new comes last
  pub new-joins : (es : List Row) → is_new es row ≡ true → with_entry es row ≡ es ++ (row ∷ [])
  unfolding is_new
  new-joins es h = with-new es row some-entry (not-true _ h)

  -- then it is there, and so are those that were
  row-there : (es : List Row) → is_new (with_entry es row) row ≡ false
  unfolding is_new
  row-there es = ap not (own-there es row some-entry)

  still-there : (es : List Row) (r : Row) → is_new es r ≡ false → is_new (with_entry es row) r ≡ false
  unfolding is_new
  still-there es r h = ap not (among-with r es row some-entry ∙ ap (λ (t : Bool). t || same r row) (not-false (among r es) h))

  -- ---- the items that were met, and this one
  module _ {met : List ℕ} {es : List Row} (f : Met k n items met es) where
    pub met-still : Met k n items met (with_entry es row)
    met-still = record { long = f.long; there = λ j h b. still-there es (plain_row k n items j) (f.there j h b) }

    pub met-more : {met' : List ℕ} → Marked met (slot - 1) met' → Met k n items met' (with_entry es row)
    met-more m = record { long = omega (arith, m.0, f.long); there = λ j h b. go j h (eqb (slot - 1) j) refl (sym (m.1 j) ∙ b) }
      where
        go : (j : ℕ) → j < n → (t : Bool) → eqb (slot - 1) j ≡ t → cond t 1 (bit_at met j) ≡ 1 → is_new (with_entry es row) (plain_row k n items j) ≡ false
        go j h true q b = rw (← eqb-true (slot - 1) j q, ← entry_row_lem k n items slot some) (row-there es)
        go j h false q b = still-there es (plain_row k n items j) (f.there j h b)

  module _ (inside : slot ≤ n) {bits met : List ℕ} {es : List Row} (f : Shown k n items bits met es) where
    -- one that was met is not new
    pub shown-met : not (eqb (bit_at met (slot - 1)) 1) ≡ false → {met' : List ℕ} → Marked met (slot - 1) met'
        → (false ≡ is_new es row) × Shown k n items bits met' (with_entry es row)
    shown-met h m =
        let o : is_new es row ≡ false = rw (entry_row_lem k n items slot some) (f.those-met.there (slot - 1) (omega arith) (eqb-true _ 1 (not-false _ h))) in
        (sym o, record { used = rw (old-stays es row o) f.used; those-met = met-more f.those-met m })

    -- of every other the first of its like says whether it is, and is marked
    pub shown-named : {name : ℕ} → name ≡ index_of row (plain_rows k n items) → {t : Bool} → t ≡ not (eqb (bit_at bits name) 1)
        → {bits' : List ℕ} → Marked bits name bits' → {met' : List ℕ} → Met k n items met' (with_entry es row)
        → (t ≡ is_new es row) × Shown k n items bits' met' (with_entry es row)
    shown-named e h m g = (
      h ∙ used-new k n items slot some inside f.used e,
      record { used = used-after k n items slot some inside f.used e _ m.0 m.1; those-met = g },
    )
