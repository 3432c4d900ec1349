-- Answers to one row appended n times: once is an append; 0 times changes nothing; a refusal gives back what it was given; what an answer of 0 shows.
-- Assumes nothing.
use Prim.Native.Nat.{ℕ, suc}
use native.Mathlib.Omega.{arith}
use mathlib.Core.Bool.{Bool, true, false, cond}
use mathlib.Core.Logic.{◌⊎◌, inl, inr}
use mathlib.Core.Path.{◌≡◌, refl, sym, ap, ◌∙◌}
use lib.IntN.{ℤ}
use borrow.Author.Tests.{le-ltb}
use Rattle.std.specs.Prelude.{Option, Some, None}
use Rattle.limits.specs.Limits.{MOST_BYTES}
use Rattle.limits.specs.Refusals.{ITEM, DISAGREE}
use Rattle.encode.specs.declared.Kind.{Kind}
use Rattle.encode.proofs.Bools.{or-none}
use Rattle.plain.specs.Rows.{Row, fits}
use Rattle.format.specs.declared.Encoding.{Encoding}
use Rattle.needs.specs.declared.Counted.{Counted}
use Rattle.needs.specs.Needs.{finished_bytes, past_limits, too_short, disagree}
use Rattle.needs.proofs.Wrong.{right, agree}
use Rattle.step.specs.declared.Step.{Step}
use Rattle.step.specs.Steps.{step_of}
use Rattle.step.specs.Counting.{next_of}
use Rattle.append.specs.Appending.{Lent, room_of, held_in, Added, added_to, added_with, added_by, added}
use Rattle.append.specs.Asking.{Found}
use Rattle.copies.specs.Copies.{Stage, stage, one_more, times_more, times, added_times_by, added_times}

-- ---- once
module _ (k : Kind) (e : Encoding) (r : Counted) (a : Lent) (row : Row) where
  once_by : (s : Option Step) → added_times_by k e r a 1 row s ≡ added_by k e r a row s
  unfolding added_times_by added_by times times_more one_more
  once_by None = refl
  once_by (Some s) = refl

  pub once : added_times k e r a 1 row ≡ added k e r a row
  unfolding added_times added
  once = ap (cond (disagree k e r (room_of a)) (added_to (next_of DISAGREE r) a)) (once_by (step_of k e r (held_in a) a.keys row))

  pub single : {n : ℕ} → n ≡ 1 → {z : Added} → z ≡ added k e r a row → z ≡ added_times k e r a n row
  single o q = q ∙ sym (ap (λ (n : ℕ). added_times k e r a n row) o ∙ once)

-- ---- numbers and areas that agree are within the limits and have room
module _ (k : Kind) (e : Encoding) (r : Counted) (a : Lent) (h : disagree k e r (room_of a) ≡ false) where
  pub within-limits : past_limits k e r ≡ false
  unfolding past_limits
  within-limits =
      let g = right k e r (agree k e r (room_of a) h).right in
      or-none g.past (le-ltb MOST_BYTES (finished_bytes k e r) g.finished)

  pub with-room : too_short k e r (room_of a) ≡ false
  with-room = (agree k e r (room_of a) h).long

-- ---- what an answer of 0 shows: what was found for the first row, and that all n rows are within the limits and have room
pub record Accepts (k : Kind) (e : Encoding) (r : Counted) (a : Lent) (n : ℕ) (row : Row) : Type 0 where
  pub item : Bool
  pub joins : Bool
  pub key : ℤ
  pub found : Found k e r a row item joins key
  pub within : past_limits k e (times k e row item joins key n (stage r a)).counted ≡ false
  pub room : too_short k e (times k e row item joins key n (stage r a)).counted (room_of a) ≡ false

module _ (k : Kind) (e : Encoding) (r : Counted) (a : Lent) where
  -- a refusal, with what was given
  abbrev Refuses : Added → Type 0
  Refuses x = (n : ℕ) × (x ≡ added_to (next_of (suc n) r) a)

  refused-not-0 : {A : Type 0} {x : Added} → Refuses x → x.answer.number ≡ 0 → A
  refused-not-0 g h = absurd (omega (arith, sym (ap (λ (y : Added). y.answer.number) g.1) ∙ h))

  -- the numbers with the rows counted in are within the limits and have room, or the answer is 3 or 4
  pub with-done : (next : Counted) (after : Lent) → past_limits k e next ≡ false → too_short k e next (room_of a) ≡ false
      → added_with k e r a next after ≡ added_to (next_of 0 next) after
  unfolding added_with
  with-done next after p s = rw (p, s)

  with-told : (next : Counted) (after : Lent)
      → Refuses (added_with k e r a next after) ⊎ ((past_limits k e next ≡ false) × (too_short k e next (room_of a) ≡ false))
  unfolding added_with
  with-told next after = go (past_limits k e next) (too_short k e next (room_of a)) refl refl
    where
      go : (x y : Bool) → past_limits k e next ≡ x → too_short k e next (room_of a) ≡ y
          → Refuses (added_with k e r a next after) ⊎ ((past_limits k e next ≡ false) × (too_short k e next (room_of a) ≡ false))
      go true y p q = inl (2, rw p)
      go false true p q = inl (3, rw (p, q))
      go false false p q = inr (p, q)

  pub with-within : (next : Counted) (after : Lent) → (added_with k e r a next after).answer.number ≡ 0
      → (past_limits k e next ≡ false) × (too_short k e next (room_of a) ≡ false)
  with-within next after h = go (with-told next after)
    where
      go : Refuses (added_with k e r a next after) ⊎ ((past_limits k e next ≡ false) × (too_short k e next (room_of a) ≡ false))
          → (past_limits k e next ≡ false) × (too_short k e next (room_of a) ≡ false)
      go (inl x) = refused-not-0 x h
      go (inr x) = x

  -- a refusal, or what an answer of 0 shows
  module _ (n : ℕ) (row : Row) where
    abbrev Told : Added → Type 0
    Told x = Refuses x ⊎ Accepts k e r a n row

    found-told : {item joins : Bool} {key : ℤ} → Found k e r a row item joins key
        → Told (added_with k e r a (times k e row item joins key n (stage r a)).counted (times k e row item joins key n (stage r a)).areas)
    found-told {item} {joins} {key} f = go (with-told g.counted g.areas)
      where
        g : Stage
        g = times k e row item joins key n (stage r a)

        go : Refuses (added_with k e r a g.counted g.areas) ⊎ ((past_limits k e g.counted ≡ false) × (too_short k e g.counted (room_of a) ≡ false))
            → Told (added_with k e r a g.counted g.areas)
        go (inl x) = inl x
        go (inr x) = inr (record { item = item; joins = joins; key = key; found = f; within = x.0; room = x.1 })

    times-told : Told (added_times k e r a n row)
    unfolding added_times added_times_by
    times-told = go (disagree k e r (room_of a)) (step_of k e r (held_in a) a.keys row) (fits k row) refl refl refl
      where
        go : (d : Bool) (s : Option Step) (f : Bool) → disagree k e r (room_of a) ≡ d → step_of k e r (held_in a) a.keys row ≡ s → fits k row ≡ f
            → Told (added_times k e r a n row)
        go true s f p q t = inl (8, rw p)
        go false None f p q t = inl (8, rw (p, q))
        go false (Some s) false p q t = inl (1, rw (p, q, t))
        go false (Some s) true p q t = rw (p, q, t) (found-told (record { agrees = p; step = sym q; fit = t }))

    pub accepts : (added_times k e r a n row).answer.number ≡ 0 → Accepts k e r a n row
    accepts h = go times-told
      where
        go : Told (added_times k e r a n row) → Accepts k e r a n row
        go (inl x) = refused-not-0 x h
        go (inr x) = x

    -- what is found for the first row decides the answer
    pub found-answer : {item joins : Bool} {key : ℤ} → Found k e r a row item joins key
        → added_times k e r a n row
        ≡ added_with k e r a (times k e row item joins key n (stage r a)).counted (times k e row item joins key n (stage r a)).areas
    unfolding added_times added_times_by
    found-answer f = rw (f.agrees, ← f.step, f.fit)

    pub accepted : (g : Accepts k e r a n row) → let t = times k e row g.item g.joins g.key n (stage r a) in
        added_times k e r a n row ≡ added_to (next_of 0 t.counted) t.areas
    accepted g =
        let t = times k e row g.item g.joins g.key n (stage r a) in
        found-answer g.found ∙ with-done t.counted t.areas g.within g.room

    -- ---- a refusal gives back the numbers and the areas that it was given
    pub copies-refused-keep : ((added_times k e r a n row).answer.number ≡ 0 → ⊥)
        → ((added_times k e r a n row).answer.counted ≡ r) × ((added_times k e r a n row).areas ≡ a)
    copies-refused-keep h = go times-told
      where
        go : Told (added_times k e r a n row) → ((added_times k e r a n row).answer.counted ≡ r) × ((added_times k e r a n row).areas ≡ a)
        go (inl x) = (ap (λ (y : Added). y.answer.counted) x.1, ap (λ (y : Added). y.areas) x.1)
        go (inr x) = absurd (h (ap (λ (y : Added). y.answer.number) (accepted x)))

  -- ---- 0 times: 9 or 2 as for one row, and else nothing changes
  module _ (row : Row) where
    pub found_none : {item joins : Bool} {key : ℤ} → Found k e r a row item joins key → added_times k e r a 0 row ≡ added_to (next_of 0 r) a
    unfolding times
    found_none f = found-answer 0 row f ∙ with-done r a (within-limits k e r a f.agrees) (with-room k e r a f.agrees)

    abbrev NoneOf : Added → Type 0
    NoneOf x = (x ≡ added_to (next_of 0 r) a) ⊎ ((x ≡ added_to (next_of DISAGREE r) a) ⊎ ((x ≡ added_to (next_of ITEM r) a) × (fits k row ≡ false)))

    pub none-appended : (added_times k e r a 0 row ≡ added_to (next_of 0 r) a)
        ⊎ ((added_times k e r a 0 row ≡ added_to (next_of DISAGREE r) a)
        ⊎ ((added_times k e r a 0 row ≡ added_to (next_of ITEM r) a) × (fits k row ≡ false)))
    unfolding added_times added_times_by
    none-appended = go (disagree k e r (room_of a)) (step_of k e r (held_in a) a.keys row) (fits k row) refl refl refl
      where
        go : (d : Bool) (s : Option Step) (f : Bool) → disagree k e r (room_of a) ≡ d → step_of k e r (held_in a) a.keys row ≡ s → fits k row ≡ f
            → NoneOf (added_times k e r a 0 row)
        go true s f p q t = inr (inl (rw p))
        go false None f p q t = inr (inl (rw (p, q)))
        go false (Some s) false p q t = inr (inr (rw (p, q, t), t))
        go false (Some s) true p q t = inl (found_none (record { agrees = p; step = sym q; fit = t }))
