-- An append that is refused as 4 is tried again on longer areas, and is then done: so a builder begins with no memory, and lengthens it when it is told to.
-- Assumes nothing.
use Prim.Native.Nat.{ℕ}
use native.Mathlib.Omega.{arith}
use mathlib.Core.Bool.{Bool, true, false}
use mathlib.Core.List.{List, [], ◌∷◌, ◌++◌}
use mathlib.Core.Logic.{◌⊎◌, inl, inr, ⊎_elim}
use mathlib.Core.Path.{◌≡◌, refl, sym, ap, ◌∙◌}
use lib.ListN.{length, replicate}
use Rattle.limits.specs.Refusals.{ROOM}
use Rattle.encode.specs.declared.Kind.{Kind}
use Rattle.plain.specs.Rows.{Row, fits}
use Rattle.plain.specs.Plain.{item_of}
use Rattle.format.specs.declared.Encoding.{Encoding}
use Rattle.format.specs.Blocks.{column_of, column}
use Rattle.format.specs.Sizes.{within_limits}
use Rattle.needs.specs.declared.Room.{Room}
use Rattle.append.specs.Appending.{Lent, room_of}
use Rattle.builder.specs.declared.Builder.{Builder}
use Rattle.std.specs.Prelude.{Ok, Some}
use Rattle.builder.specs.Building.{created}
use Rattle.building_laws.specs.Built.{Given, row_in}
use Rattle.any_building_laws.specs.BuilderCalls.{append, Call, appends, number_in, answer_to, after, answers, Carried, need_of, below, append_number, due}
use Rattle.any_building_laws.specs.BuilderCalls.{accepted_in, after_all, longer, SlotsFor, no_areas, tried_twice}
use Rattle.any_building_laws.proofs.Carrying.{Agrees, agrees-carried}
use Rattle.any_building_laws.proofs.RoomForCopies.{slots-are-enough}
use Rattle.any_building_laws.proofs.Unchanged.{refused-call-changes-nothing}
use Rattle.any_building_laws.proofs.OneCall.{one-call}
use Rattle.any_building_laws.proofs.AnyCalls.{agrees-after-any-calls}
use Rattle.any_building_laws.proofs.Lengthening.{longer-carries}

-- ---- the number of an append, on some areas and on others
module _ (k : Kind) (e : Encoding) (rows : List Row) (n : ℕ) (x : Row) where
  abbrev more : List Row
  more = rows ++ replicate n x

  -- a row that fits, and n times stays within the limits, is refused only for the areas
  done-or-short : fits k x ≡ true → within_limits k e more ≡ true → (m : Room) → (append_number k e rows n x m ≡ 0) ⊎ (append_number k e rows n x m ≡ ROOM)
  unfolding append_number
  done-or-short f w m = go (below (need_of k e more) m) refl
    where
      go : (t : Bool) → below (need_of k e more) m ≡ t → (append_number k e rows n x m ≡ 0) ⊎ (append_number k e rows n x m ≡ ROOM)
      go true h = inr (rw (f, w, h))
      go false h = inl (rw (f, w, h))

  -- one that is refused for the areas is done with others that are long enough
  short-then-done : (m m' : Room) → append_number k e rows n x m ≡ ROOM → below (need_of k e more) m' ≡ false → append_number k e rows n x m' ≡ 0
  unfolding append_number
  short-then-done m m' p q = go (fits k x) (within_limits k e more) refl refl
    where
      go : (f w : Bool) → fits k x ≡ f → within_limits k e more ≡ w → append_number k e rows n x m' ≡ 0
      go false w u v = absurd (omega (arith, rw u at p))
      go true false u v = absurd (omega (arith, rw (u, v) at p))
      go true true u v = rw (u, v, q)

-- ---- a builder that agrees with its areas
number_of : (m n : ℕ) → appends m ≡ appends n → m ≡ n
number_of m n p = cc

module _ (k : Kind) (e : Encoding) (target key : ℕ) (rows : List Row) (r : Builder) (n : ℕ) (v : Given) where
  number-told : (a : Lent) → Agrees k e target key rows r a → answer_to r a (append n v) ≡ appends (append_number k e rows n (row_in k v) (room_of a))
  unfolding due
  number-told a g = (one-call k e target key rows r a g (append n v)).answer

  twice-told : (a more : Lent) → Agrees k e target key rows r a → answer_to r a (append n v) ≡ appends ROOM
      → below (need_of k e (rows ++ replicate n (row_in k v))) (room_of (longer a more)) ≡ false → answers r (tried_twice n v a more) ≡ appends ROOM ∷ appends 0 ∷ []
  unfolding answers number_in
  twice-told a more g p q =
      let s : append_number k e rows n (row_in k v) (room_of a) ≡ ROOM = number_of _ _ (sym (number-told a g) ∙ p) in
      let kept : after r a (append n v) ≡ record { builder = r; areas = a } = refused-call-changes-nothing r a (append n v) (rw p (λ z. omega arith)) in
      let h = agrees-carried k e target key rows r a (longer a more) g (longer-carries k e rows r.counted a more g.stands.recorded g.enough) in
      rw (p, kept, number-told (longer a more) h, short-then-done k e rows n (row_in k v) (room_of a) (room_of (longer a more)) s q)

-- ---- from the creation on
module _ (kind encoding width target key : ℕ) (k : Kind) (e : Encoding) (column : column_of kind encoding width ≡ Some (column k e))
    (r : Builder) (new : created kind encoding width target key ≡ Ok r) where
  module _ (cs : List Call) (carried : Carried k e r cs) (a : Lent) (n : ℕ) (v : Given) (more : Lent) where
    there : Agrees k e target key (accepted_in k e [] cs) (after_all r a cs).builder (after_all r a cs).areas
    there = agrees-after-any-calls kind encoding width target key k e column r new cs carried a

    -- After any calls, an append that is refused as 4 is done when it is tried again on the areas lengthened, if they are long enough then.
    pub tried-again :
        answer_to (after_all r a cs).builder (after_all r a cs).areas (append n v) ≡ appends ROOM
        → below (need_of k e (accepted_in k e [] cs ++ replicate n (row_in k v))) (room_of (longer (after_all r a cs).areas more)) ≡ false
        → answers (after_all r a cs).builder (tried_twice n v (after_all r a cs).areas more) ≡ appends ROOM ∷ appends 0 ∷ []
    tried-again = twice-told k e target key (accepted_in k e [] cs) (after_all r a cs).builder n v (after_all r a cs).areas more there

    -- So a row that fits, and n times stays within the limits, is appended n times at once, or the second time.
    pub done-at-last : fits k (row_in k v) ≡ true → within_limits k e (accepted_in k e [] cs ++ replicate n (row_in k v)) ≡ true
        → below (need_of k e (accepted_in k e [] cs ++ replicate n (row_in k v))) (room_of (longer (after_all r a cs).areas more)) ≡ false
        → (answer_to (after_all r a cs).builder (after_all r a cs).areas (append n v) ≡ appends 0)
        ⊎ (answers (after_all r a cs).builder (tried_twice n v (after_all r a cs).areas more) ≡ appends ROOM ∷ appends 0 ∷ [])
    done-at-last f w room =
        let told = number-told k e target key (accepted_in k e [] cs) (after_all r a cs).builder n v (after_all r a cs).areas there in
        ⊎_elim (λ z. inl (told ∙ ap appends z)) (λ z. inr (tried-again (told ∙ ap appends z) room))
        (done-or-short k e (accepted_in k e [] cs) n (row_in k v) f w (room_of (after_all r a cs).areas))

    -- Slots for so many more than the record counts as n equal rows come to at most, and the item bytes of as many, are long enough.
    pub slots-for-copies-after-any-calls : (lent : Lent) → SlotsFor k e (after_all r a cs).builder.counted n (length (item_of k (row_in k v))) lent
        → below (need_of k e (accepted_in k e [] cs ++ replicate n (row_in k v))) (room_of lent) ≡ false
    slots-for-copies-after-any-calls lent =
        slots-are-enough k e (accepted_in k e [] cs) n (row_in k v) (after_all r a cs).builder.counted lent there.stands.recorded

  -- From a creation with no memory at all: the first row that fits, and n times stays within the limits.
  pub from-no-memory : (n : ℕ) (v : Given) (more : Lent) → fits k (row_in k v) ≡ true → within_limits k e (replicate n (row_in k v)) ≡ true
      → below (need_of k e (replicate n (row_in k v))) (room_of (longer no_areas more)) ≡ false
      → (answer_to r no_areas (append n v) ≡ appends 0) ⊎ (answers r (tried_twice n v no_areas more) ≡ appends ROOM ∷ appends 0 ∷ [])
  unfolding accepted_in after_all
  from-no-memory n v more = done-at-last [] tt no_areas n v more
