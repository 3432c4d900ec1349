-- What rows add to entries that are there: each that is new once, in order of first use. Null adds none. Assumes nothing.
use mathlib.Core.Bool.{Bool, true, false, cond}
use mathlib.Core.List.{List, [], ◌∷◌, ◌++◌, append-nil, append_assoc}
use mathlib.Core.Path.{◌≡◌, refl, sym, ap, ◌∙◌}
use lib.ListN.{length, drop}
use lib.Seq.{drop-append_seam}
use Rattle.plain.specs.Rows.{Row, null, int, bytes}
use Rattle.dict.specs.Dictionary.{with_entry, entries_after, entries_of}
use Rattle.dict.proofs.Entries.{among}

-- ---- one row
unfoldable pub added : List Row → Row → List Row
added es null = []
added es (int v) = cond (among (int v) es) [] (int v ∷ [])
added es (bytes bs) = cond (among (bytes bs) es) [] (bytes bs ∷ [])

one_more : (t : Bool) (es : List Row) (r : Row) → cond t es (es ++ (r ∷ [])) ≡ es ++ cond t [] (r ∷ [])
one_more true es r = sym (append-nil es)
one_more false es r = refl

with-added : (es : List Row) (r : Row) → with_entry es r ≡ es ++ added es r
unfolding added with_entry
with-added es null = sym (append-nil es)
with-added es (int v) = one_more (among (int v) es) es (int v)
with-added es (bytes bs) = one_more (among (bytes bs) es) es (bytes bs)

-- it is what stands behind the entries once the row is there
added-by : (es : List Row) (r : Row) (xs : List Row) → with_entry es r ≡ es ++ xs → added es r ≡ xs
added-by es r xs e = sym (drop-append_seam es (added es r)) ∙ ap (drop (length es)) (sym (with-added es r) ∙ e) ∙ drop-append_seam es xs

-- ---- rows
unfoldable pub new_entries : List Row → List Row → List Row
new_entries es [] = []
new_entries es (r ∷ rows) = added es r ++ new_entries (with_entry es r) rows

after-new : (es rows : List Row) → entries_after es rows ≡ es ++ new_entries es rows
unfolding entries_after new_entries
after-new es [] = sym (append-nil es)
after-new es (r ∷ rows) =
    after-new (with_entry es r) rows
    ∙ ap (λ (l : List Row). l ++ new_entries (with_entry es r) rows) (with-added es r)
    ∙ append_assoc es (added es r) (new_entries (with_entry es r) rows)

-- where no entries are there, they add all of theirs
pub all_new : (rows : List Row) → new_entries [] rows ≡ entries_of rows
unfolding entries_of
all_new rows = sym (after-new [] rows)

-- the first row adds none; it joins them
module _ (es : List Row) (r : Row) (rows : List Row) where
  pub new_none : with_entry es r ≡ es → new_entries es (r ∷ rows) ≡ new_entries es rows
  unfolding new_entries
  new_none e = rw (added-by es r [] (e ∙ sym (append-nil es)), e)

  pub new-first : with_entry es r ≡ es ++ (r ∷ []) → new_entries es (r ∷ rows) ≡ r ∷ new_entries (es ++ (r ∷ [])) rows
  unfolding new_entries
  new-first e = rw (added-by es r (r ∷ []) e, e)
