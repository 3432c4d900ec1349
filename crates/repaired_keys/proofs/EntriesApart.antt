-- No two of the entries of some rows read the same: a row comes last among them, and only if it isn't there yet. Assumes nothing.
use Prim.Native.Nat.{ℕ, ◌<◌}
use native.Mathlib.Omega.{arith}
use mathlib.Core.Bool.{Bool, true, false, cond}
use mathlib.Core.List.{List, [], ◌∷◌, ◌++◌}
use mathlib.Core.Path.{◌≡◌, refl, ap, ◌∙◌}
use lib.Dec.{ltb}
use lib.ListN.{length, get_or, length-append, get_or-append}
use lib.Seq.{get_or_at}
use borrow.Author.Tests.{ltb-true, ltb-false}
use Rattle.plain.specs.Rows.{Row, null, int, bytes}
use Rattle.dict.specs.Dictionary.{index_of, with_entry, entries_after, entries_of}
use Rattle.dict.proofs.Entries.{index-most, index_kept, index-new, among}
use Rattle.repaired_keys.specs.Keys.{Apart}

-- ---- one more at the end, which is new
module _ (es : List Row) (x : Row) (apart : Apart es) where
  abbrev more : List Row
  more = es ++ (x ∷ [])

  -- those before it stay the first of their like
  old-first : (i : ℕ) → i < length es → index_of (get_or more i null) more ≡ i
  old-first i l =
      ap (λ (r : Row). index_of r more) (get_or-append es (x ∷ []) null i l)
      ∙ index_kept (get_or es i null) es (x ∷ []) (omega (arith, apart i l))
      ∙ apart i l

  new-first : among x es ≡ false → (i : ℕ) → length es ≡ i → index_of (get_or more i null) more ≡ i
  new-first new i e =
      let last : index_of x es ≡ length es = omega (arith, ltb-false (index_of x es) (length es) new, index-most x es) in
      ap (λ (r : Row). index_of r more) (get_or_at es x [] null i e) ∙ index-new x es last ∙ e

  apart-last : among x es ≡ false → Apart more
  apart-last new i h = go (ltb i (length es)) refl
    where
      go : (t : Bool) → ltb i (length es) ≡ t → index_of (get_or more i null) more ≡ i
      go true q = old-first i (ltb-true i (length es) q)
      go false q = new-first new i (omega (arith, ltb-false i (length es) q, length-append es (x ∷ [])))

  apart-added : Apart (cond (among x es) es more)
  apart-added = go (among x es) refl
    where
      go : (t : Bool) → among x es ≡ t → Apart (cond t es more)
      go true q = apart
      go false q = apart-last q

-- ---- after more rows
apart-with : (es : List Row) (r : Row) → Apart es → Apart (with_entry es r)
unfolding with_entry
apart-with es null h = h
apart-with es (int v) h = apart-added es (int v) h
apart-with es (bytes bs) h = apart-added es (bytes bs) h

apart-after : (es rows : List Row) → Apart es → Apart (entries_after es rows)
unfolding entries_after
apart-after es [] h = h
apart-after es (r ∷ rows) h = apart-after (with_entry es r) rows (apart-with es r h)

pub entries-apart : (rows : List Row) → Apart (entries_of rows)
unfolding entries_of
entries-apart rows = apart-after [] rows (λ i h. absurd (omega arith))
