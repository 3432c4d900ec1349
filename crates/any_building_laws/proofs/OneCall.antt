-- One call on a builder that agrees with its areas: what is answered, and that the builder and the areas then agree with the rows accepted. Assumes
-- nothing.
use Prim.Native.Nat.{ℕ}
use mathlib.Core.Bool.{Bool, true, false, cond, not}
use mathlib.Core.List.{List, ◌++◌}
use mathlib.Core.Path.{◌≡◌, refl, sym, ap, ◌∙◌}
use lib.Dec.{eqb, ltb}
use lib.ListN.{length, replicate}
use Rattle.limits.specs.Refusals.{ITEM, LIMIT, ROOM}
use Rattle.encode.specs.declared.Kind.{Kind}
use Rattle.plain.specs.Rows.{Row, fits}
use Rattle.format.specs.declared.Encoding.{Encoding}
use Rattle.format.specs.Blocks.{block_of}
use Rattle.format.specs.Sizes.{within_limits}
use Rattle.needs.specs.declared.Counted.{Counted}
use Rattle.needs.specs.Needs.{too_short}
use Rattle.step.specs.Counting.{next_of}
use Rattle.append.specs.Appending.{Lent, room_of, added_to}
use Rattle.builder.specs.declared.Builder.{Builder}
use Rattle.builder.specs.Building.{counting, Append, append_of, append_with, appended_times}
use Rattle.building_laws.specs.Built.{Given, row_in, finish_due}
use Rattle.building_laws.proofs.Built.{finish-told, finish-due, estimate-told, asked-told}
use Rattle.any_building_laws.specs.BuilderCalls.{Ask, append, finish, estimate, should_finish_before, appends, finish_answer, answer_to}
use Rattle.any_building_laws.specs.BuilderCalls.{after, block_due, need_of, below, append_number, due, accepted_by}
use Rattle.any_building_laws.proofs.Room.{short-exactly, enough-told}
use Rattle.any_building_laws.proofs.Carrying.{Agrees}
use Rattle.any_building_laws.proofs.Unchanged.{finish-stays, estimate-stays, asked-stays}
use Rattle.any_building_laws.proofs.Copies.{copies_by, copies-recorded, copies-by-needs, copies-agree, times-given}

-- ---- the cases of an append, over plain variables
with-told : (f w s : Bool) (r : Builder) (a : Lent) (c : Counted) (b : Lent)
    → let d = r.counted in
    append_with r
    (cond (not f) (added_to (next_of ITEM d) a) (cond (not w) (added_to (next_of LIMIT d) a) (cond s (added_to (next_of ROOM d) a) (added_to (next_of 0 c) b))))
    ≡ cond (not f) (append_of ITEM r a) (cond (not w) (append_of LIMIT r a) (cond s (append_of ROOM r a) (append_of 0 (counting r c) b)))
with-told false w s r a c b = refl
with-told true false s r a c b = refl
with-told true true true r a c b = refl
with-told true true false r a c b = refl

in-this-order : (f w s : Bool) (r : Builder) (a : Lent) (o : Builder) (b : Lent)
    → (cond (not f) (append_of ITEM r a) (cond (not w) (append_of LIMIT r a) (cond s (append_of ROOM r a) (append_of 0 o b)))).answer.number
    ≡ cond (not f) ITEM (cond (not w) LIMIT (cond s ROOM 0))
in-this-order false w s r a o b = refl
in-this-order true false s r a o b = refl
in-this-order true true true r a o b = refl
in-this-order true true false r a o b = refl

-- ---- finish: the answer without the builder handed back
block-due : (r : Builder) (block out : List ℕ) → finish_answer (finish_due r block out) ≡ block_due block out
unfolding finish_answer finish_due block_due
block-due r block out = go (ltb (length out) (length block)) refl
  where
    go : (t : Bool) → ltb (length out) (length block) ≡ t → finish_answer (finish_due r block out) ≡ block_due block out
    go true h = rw h
    go false h = rw h

module _ (k : Kind) (e : Encoding) (target key : ℕ) (rows : List Row) (r : Builder) (a : Lent) where
  pub record Told (q : Ask) : Type 0 where
    pub answer : answer_to r a q ≡ due k e target key rows a q
    pub next : Agrees k e target key (accepted_by k e rows a q) (after r a q).builder (after r a q).areas

  module _ (g : Agrees k e target key rows r a) where
    -- ---- an append of n equal rows
    module _ (n : ℕ) (v : Given) where
      abbrev x : Row
      x = row_in k v

      abbrev more : List Row
      more = rows ++ replicate n x

      abbrev called : Append
      called = appended_times r a n v.present v.value v.text

      abbrev counted : Counted
      counted = (copies_by k e rows n x r.counted a).counted

      abbrev written : Lent
      written = (copies_by k e rows n x r.counted a).areas

      -- 2, 3, 4 or 0, tested in this order; a refusal hands back what was given
      pub append-any :
          called
          ≡ cond (not (fits k x)) (append_of ITEM r a)
          (cond (not (within_limits k e more)) (append_of LIMIT r a)
          (cond (below (need_of k e more) (room_of a)) (append_of ROOM r a)
          (append_of 0 (counting r counted) written)))
      append-any =
          times-given k e target key rows r a g.stands n v
          ∙ ap (append_with r) (copies-by-needs k e target key rows r a g x n)
          ∙ with-told (fits k x) (within_limits k e more) (too_short k e counted (room_of a)) r a counted written
          ∙ rw (short-exactly k e more counted a (copies-recorded k e rows n x r.counted a g.stands.recorded))

      append-number : called.answer.number ≡ append_number k e rows n x (room_of a)
      unfolding append_number
      append-number = rw append-any (in-this-order (fits k x) (within_limits k e more) (below (need_of k e more) (room_of a)) r a (counting r counted) written)

      -- a refused append leaves all as it was, and the rows of an accepted one are counted and written
      number_of : {m : ℕ} {s : Builder} {b : Lent} → called ≡ append_of m s b → append_number k e rows n x (room_of a) ≡ m
      number_of p = sym append-number ∙ ap (λ (o : Append). o.answer.number) p

      refused : (m : ℕ) → eqb m 0 ≡ false → called ≡ append_of m r a → Told (append n v)
      unfolding answer_to due after accepted_by
      refused m z p = record { answer = ap appends append-number; next = rw (p, number_of p, z) g }

      taken : (s : Builder) (b : Lent) → called ≡ append_of 0 s b → Agrees k e target key more s b → Told (append n v)
      unfolding answer_to due after accepted_by
      taken s b p h = record { answer = ap appends append-number; next = rw (p, number_of p) h }

      append-answered : Told (append n v)
      append-answered = go (fits k x) (within_limits k e more) (below (need_of k e more) (room_of a)) refl refl refl
        where
          go : (f w s : Bool) → fits k x ≡ f → within_limits k e more ≡ w → below (need_of k e more) (room_of a) ≡ s → Told (append n v)
          go false w s p q z = refused ITEM refl (append-any ∙ rw p)
          go true false s p q z = refused LIMIT refl (append-any ∙ rw (p, q))
          go true true true p q z = refused ROOM refl (append-any ∙ rw (p, q, z))
          go true true false p q z = taken (counting r counted) written (append-any ∙ rw (p, q, z)) (copies-agree k e target key rows r a g x n p (enough-told k e more a z) q)

    -- ---- any call
    pub one-call : (q : Ask) → Told q
    unfolding answer_to due accepted_by
    one-call (append n v) = append-answered n v
    one-call (finish out) = record {
      answer = ap finish_answer (finish-told k e target key rows r a g.stands g.enough out ∙ finish-due r (block_of k e rows) out) ∙ block-due r (block_of k e rows) out;
      next = rw (finish-stays r a out) g;
    }
    one-call estimate = record { answer = rw (estimate-told k e target key rows r a g.stands); next = rw (estimate-stays r a) g }
    one-call (should_finish_before v) = record { answer = rw (asked-told k e target key rows r a g.stands v); next = rw (asked-stays r a v) g }
