-- Every prefix of a list within the limits is within them, since no count and no length falls with a row more. So a list is accepted exactly if it is
-- accepted row by row. Assumes nothing.
use Prim.Native.Nat.{◌-◌}
use mathlib.Core.Bool.{Bool, true, false, not, ◌&&◌, and-false}
use mathlib.Core.List.{List, [], ◌∷◌, ◌++◌, append_assoc, append-nil}
use mathlib.Core.Path.{◌≡◌, refl, sym, ap, ◌∙◌}
use lib.ListN.{length}
use borrow.Author.Tests.{not-false}
use Rattle.encode.specs.declared.Kind.{Kind}
use Rattle.plain.specs.Rows.{Row, fits}
use Rattle.plain.specs.Plain.{joined, item_of}
use Rattle.nullable.specs.Nullable.{presence}
use Rattle.rle.specs.RunLength.{counts_of}
use Rattle.format.specs.declared.Encoding.{Encoding}
use Rattle.format.specs.Sizes.{stored_entries, within_limits, all_fit, accepted}
use Rattle.format.proofs.Within.{none_within}
use Rattle.needs.specs.declared.Counted.{Counted}
use Rattle.copies.proofs.Growing.{grown-no-less, within-before}
use Rattle.building_laws.specs.Built.{stored_rows, stored_runs, accepted_after}
use Rattle.building_laws.proofs.Same.{never}
use Rattle.building_laws.proofs.Runs.{last_run}
use Rattle.building_laws.proofs.OneRowMore.{joins_by, item_by}
use Rattle.building_laws.proofs.Records.{Recorded, next_by, recorded-next, past-limits}

-- ---- a list within the limits is so without its last row
module _ (k : Kind) (e : Encoding) where
  -- the numbers of the list
  counted_in : List Row → Counted
  counted_in xs = record {
    rows = length xs;
    runs = length (stored_runs e xs);
    entries = stored_entries e xs;
    bytes = length (joined (item_of k) (stored_rows e xs));
    last = (last_run (stored_runs e xs)).count;
    null = 1 - presence (last_run (stored_runs e xs)).row;
    counts = length (counts_of (stored_runs e xs));
  }

  recorded : (xs : List Row) → Recorded k e xs (counted_in xs)
  unfolding counted_in
  recorded xs = record { rows = refl; runs = refl; entries = refl; bytes = refl; last = refl; null = λ u. refl; counts = refl }

  without-last : (rows : List Row) (x : Row) → within_limits k e (rows ++ (x ∷ [])) ≡ true → within_limits k e rows ≡ true
  without-last rows x w =
      let r : Counted = counted_in rows in
      let g = recorded rows in
      let grows = grown-no-less e r (presence x) (length (item_of k x)) (item_by e rows x) (joins_by e rows x) in
      let past = past-limits k (rows ++ (x ∷ [])) (next_by k e rows x r) e (recorded-next k e rows x r g) ∙ ap not w in
      not-false (within_limits k e rows) (sym (past-limits k rows r e g) ∙ within-before k e r (next_by k e rows x r) grows past)

  -- Every prefix of a list within the limits is within them, whether its rows fit or not.
  pub prefix-within : (xs ys : List Row) → within_limits k e (xs ++ ys) ≡ true → within_limits k e xs ≡ true
  prefix-within xs [] h = rw (append-nil xs) at h
  prefix-within xs (y ∷ ys) h = without-last xs y (prefix-within (xs ++ (y ∷ [])) ys (rw (append_assoc xs (y ∷ []) ys) h))

  past-stays : (xs ys : List Row) → within_limits k e xs ≡ false → within_limits k e (xs ++ ys) ≡ false
  past-stays xs ys h = go (within_limits k e (xs ++ ys)) refl
    where
      go : (t : Bool) → within_limits k e (xs ++ ys) ≡ t → t ≡ false
      go true p = never (sym h ∙ prefix-within xs ys p)
      go false p = refl

  -- ---- row by row, from a prefix within the limits on
  from-within : (done rows : List Row) → within_limits k e done ≡ true → accepted_after k e done rows ≡ (all_fit k rows && within_limits k e (done ++ rows))
  unfolding accepted_after all_fit
  from-within done [] w = rw (append-nil done, w)
  from-within done (r ∷ rows) w = go (fits k r) (within_limits k e (done ++ (r ∷ []))) refl refl (from-within (done ++ (r ∷ [])) rows)
    where
      go : (f t : Bool) → fits k r ≡ f → within_limits k e (done ++ (r ∷ [])) ≡ t
          → (within_limits k e (done ++ (r ∷ [])) ≡ true → accepted_after k e (done ++ (r ∷ [])) rows ≡ (all_fit k rows && within_limits k e (done ++ (r ∷ []) ++ rows)))
          → (fits k r && within_limits k e (done ++ (r ∷ [])) && accepted_after k e (done ++ (r ∷ [])) rows)
          ≡ (fits k r && all_fit k rows && within_limits k e (done ++ (r ∷ rows)))
      go false t p q ih = simp p
      go true true p q ih = rw (p, q, ← append_assoc done (r ∷ []) rows) (ih q)
      go true false p q ih =
          let z : within_limits k e (done ++ (r ∷ rows)) ≡ false = rw (append_assoc done (r ∷ []) rows) at (past-stays (done ++ (r ∷ [])) rows q) in
          rw (p, q, z) (sym (and-false (all_fit k rows)))

  -- A list whose rows fit is accepted row by row exactly if the whole of it is within the limits.
  pub row-by-row : (rows : List Row) → accepted_after k e [] rows ≡ accepted k e rows
  unfolding accepted
  row-by-row rows = from-within [] rows (none_within k e)
