-- One row n times on a builder that agrees with its areas: the numbers then count the rows with n of it behind, whatever the room; the answer; and where there
-- is room within the limits, the builder and the areas then agree with those rows. Assumes nothing.
use Prim.Native.Nat.{ℕ, zero, suc}
use mathlib.Core.Bool.{true, cond, not}
use mathlib.Core.List.{List, [], ◌∷◌, ◌++◌, append_assoc, append-nil}
use mathlib.Core.Path.{◌≡◌, sym, subst}
use lib.IntN.{ℤ}
use lib.ListN.{replicate}
use Rattle.limits.specs.Refusals.{ITEM, LIMIT, ROOM}
use Rattle.encode.specs.declared.Kind.{Kind}
use Rattle.plain.specs.Rows.{Row, fits}
use Rattle.format.specs.declared.Encoding.{Encoding}
use Rattle.format.specs.Sizes.{within_limits}
use Rattle.needs.specs.declared.Counted.{Counted}
use Rattle.needs.specs.Needs.{too_short}
use Rattle.step.specs.Counting.{next_of}
use Rattle.append.specs.Appending.{Lent, room_of, added_to, added_with}
use Rattle.copies.specs.Copies.{Stage, stage, one_more, times_more, times, added_times_by, added_times}
use Rattle.builder.specs.declared.Builder.{Builder}
use Rattle.builder.specs.Building.{counting, append_with, appended_times_in, appended_times}
use Rattle.building_laws.specs.Built.{Given, row_in, Enough}
use Rattle.building_laws.proofs.OneRowMore.{joins_by, item_by, key_by, enough-before}
use Rattle.building_laws.proofs.Records.{Recorded, next_by, recorded-next, past-limits}
use Rattle.building_laws.proofs.Prefixes.{prefix-within}
use Rattle.building_laws.proofs.AreasOfRows.{written_by, Kept, kept_same, kept_then, kept-enough, kept_next}
use Rattle.building_laws.proofs.RowAgain.{same-key-again, once-more-told}
use Rattle.building_laws.proofs.StepOfRow.{step-told}
use Rattle.building_laws.proofs.BuilderOfRows.{Stands, agreed, stands-next}
use Rattle.any_building_laws.proofs.Carrying.{Agrees}

-- ---- the numbers and the areas with a row behind a list, counted in and written: once, and n times
abbrev next_stage : Kind → Encoding → List Row → Row → Stage → Stage
next_stage k e rows x s = stage (next_by k e rows x s.counted) (written_by k e rows x s.counted s.areas)

abbrev pub copies_by : Kind → Encoding → List Row → ℕ → Row → Counted → Lent → Stage
copies_by k e rows n x r a = times k e x (item_by e rows x) (joins_by e rows x) (key_by e rows x) n (stage r a)

-- what holds of numbers that count a list, and stays so with the row once more, holds with n of it
module _ (k : Kind) (e : Encoding) (x : Row) (P : List Row → Stage → Type 0) (counts : (xs : List Row) (s : Stage) → P xs s → Recorded k e xs s.counted)
    (one_more_lem : (xs : List Row) (s : Stage) → P xs s → P (xs ++ (x ∷ [])) (next_stage k e xs x s)) where
  behind-itself : (n : ℕ) (xs : List Row) (s : Stage) → P (xs ++ (x ∷ [])) s → P (xs ++ (x ∷ []) ++ replicate n x) (times_more k e x (key_by e xs x) n s)
  unfolding times_more
  behind-itself zero xs s h = subst (λ (l : List Row). P l s) (sym (append-nil (xs ++ (x ∷ [])))) h
  behind-itself (suc n) xs s h =
      let ys : List Row = xs ++ (x ∷ []) in
      rw (once-more-told k e xs x s (counts ys s h), ← append_assoc ys (x ∷ []) (replicate n x))
      (subst (λ (key : ℤ). P (ys ++ (x ∷ []) ++ replicate n x) (times_more k e x key n (next_stage k e ys x s))) (same-key-again e xs x)
      (behind-itself n ys (next_stage k e ys x s) (one_more_lem ys s h)))

  n-times : (n : ℕ) (rows : List Row) (r : Counted) (a : Lent) → P rows (stage r a) → P (rows ++ replicate n x) (copies_by k e rows n x r a)
  unfolding times one_more
  n-times zero rows r a h = subst (λ (l : List Row). P l (stage r a)) (sym (append-nil rows)) h
  n-times (suc n) rows r a h =
      subst (λ (l : List Row). P l (copies_by k e rows (suc n) x r a)) (append_assoc rows (x ∷ []) (replicate n x))
      (behind-itself n rows (next_stage k e rows x (stage r a)) (one_more_lem rows (stage r a) h))

-- The numbers count the rows with n of the row behind, whatever the areas hold and however long they are.
pub copies-recorded : (k : Kind) (e : Encoding) (rows : List Row) (n : ℕ) (x : Row) (r : Counted) (a : Lent) → Recorded k e rows r
    → Recorded k e (rows ++ replicate n x) (copies_by k e rows n x r a).counted
copies-recorded k e rows n x =
    n-times k e x (λ xs s. Recorded k e xs s.counted) (λ xs s h. h) (λ xs s h. recorded-next k e xs x s.counted h) n rows

-- ---- on a builder that agrees with its areas
module _ (k : Kind) (e : Encoding) (target key : ℕ) (rows : List Row) (r : Builder) (a : Lent) (g : Agrees k e target key rows r a) (x : Row) where
  -- a stage on the way: its numbers count a list; and where there was room for that list, within the limits, its areas are as long as at the start and stand
  -- as the list left them
  record Reaches (xs : List Row) (s : Stage) : Type 0 where
    recorded : Recorded k e xs s.counted
    stands : fits k x ≡ true → Enough k e xs a → within_limits k e xs ≡ true → Stands k e target key xs (counting r s.counted) s.areas × Kept a s.areas

  next-stands : (xs : List Row) (s : Stage) → Reaches xs s → fits k x ≡ true → Enough k e (xs ++ (x ∷ [])) a → within_limits k e (xs ++ (x ∷ [])) ≡ true
      → let t = next_stage k e xs x s in Stands k e target key (xs ++ (x ∷ [])) (counting r t.counted) t.areas × Kept a t.areas
  next-stands xs s h f room w =
      let b = h.stands f (enough-before k e xs x a room) (prefix-within k e xs (x ∷ []) w) in
      let there = kept-enough k e (xs ++ (x ∷ [])) a s.areas b.1 room in (
        stands-next k e target key xs (counting r s.counted) s.areas b.0 x there f w,
        kept_then a s.areas (next_stage k e xs x s).areas b.1 (kept_next k e xs x s.counted s.areas h.recorded there),
      )

  reached : (n : ℕ) → Reaches (rows ++ replicate n x) (copies_by k e rows n x r.counted a)
  reached n =
      n-times k e x Reaches (λ xs s h. h.recorded)
      (λ xs s h. record { recorded = recorded-next k e xs x s.counted h.recorded; stands = next-stands xs s h }) n rows r.counted a
      (record { recorded = g.stands.recorded; stands = λ f room w. (g.stands, kept_same a) })

  module _ (n : ℕ) where
    abbrev copies : Stage
    copies = copies_by k e rows n x r.counted a

    -- the answer, into areas that are long enough for the rows so far
    pub copies-by-needs :
        added_times k e r.counted a n x
        ≡ cond (not (fits k x)) (added_to (next_of ITEM r.counted) a)
        (cond (not (within_limits k e (rows ++ replicate n x))) (added_to (next_of LIMIT r.counted) a)
        (cond (too_short k e copies.counted (room_of a)) (added_to (next_of ROOM r.counted) a)
        (added_to (next_of 0 copies.counted) copies.areas)))
    unfolding added_times added_times_by added_with
    copies-by-needs =
        rw (
          agreed k e target key rows r a g.stands g.enough,
          step-told k e rows r.counted a x g.stands.recorded g.stands.holds,
          past-limits k (rows ++ replicate n x) copies.counted e (reached n).recorded,
        )

    -- after it, if there was room for all within the limits
    pub copies-agree : fits k x ≡ true → Enough k e (rows ++ replicate n x) a → within_limits k e (rows ++ replicate n x) ≡ true
        → Agrees k e target key (rows ++ replicate n x) (counting r copies.counted) copies.areas
    copies-agree f room w =
        let h = (reached n).stands f room w in
        record { stands = h.0; enough = kept-enough k e (rows ++ replicate n x) a copies.areas h.1 room }

-- of a row as it is given
pub times-given : (k : Kind) (e : Encoding) (target key : ℕ) (rows : List Row) (r : Builder) (a : Lent) → Stands k e target key rows r a → (n : ℕ) (v : Given)
    → appended_times r a n v.present v.value v.text ≡ append_with r (added_times k e r.counted a n (row_in k v))
unfolding appended_times appended_times_in row_in
times-given k e target key rows r a g n v = rw g.column
