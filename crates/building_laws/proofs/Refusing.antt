-- For every record and all memory: a refused append, of one row or of n equal ones, or finish leaves what it was given as it was; finish, estimate and should_finish hand the record back
-- as it was, refused or not. Assumes nothing.
use Rattle.std.specs.Prelude.{Option, Some, None}
use Prim.Native.Nat.{ℕ}
use mathlib.Core.Bool.{Bool, true, false, cond}
use mathlib.Core.List.{List}
use mathlib.Core.Path.{◌≡◌, refl, ap}
use lib.Dec.{ltb}
use lib.IntN.{ℤ}
use lib.ListN.{length}
use Rattle.limits.specs.Refusals.{ROOM, DISAGREE}
use Rattle.plain.specs.Rows.{row_of}
use Rattle.format.specs.declared.Column.{Column}
use Rattle.format.specs.Blocks.{column_of}
use Rattle.builder.specs.declared.Builder.{Builder}
use Rattle.needs.specs.Needs.{disagree, record_wrong}
use Rattle.sizes.specs.Sizes.{size_by, full_by}
use Rattle.append.specs.Appending.{Lent, room_of}
use Rattle.append.proofs.Refusals.{added-keeps}
use Rattle.copies_laws.proofs.Answers.{copies-refused-keep}
use Rattle.builder.specs.Building.{counting, appended_in, appended, appended_times_in, appended_times}
use Rattle.builder.specs.Finishing.{Finish, finish_of, held_block, finished_with, finished_in, finished}
use Rattle.builder.specs.Finishing.{estimated_as, estimated_in, estimated, asked_as, asked_in, asked}

-- ---- append
in-keeps :
    (r : Builder) (a : Lent) (c : Option Column) (present : Bool) (v : ℤ) (bs : List ℕ) → ((appended_in c r a present v bs).answer.number ≡ 0 → ⊥)
    → ((appended_in c r a present v bs).answer.builder ≡ r) × ((appended_in c r a present v bs).areas ≡ a)
unfolding appended_in
in-keeps r a None present v bs h = (refl, refl)
in-keeps r a (Some c) present v bs h = let g = added-keeps r.counted a c.kind c.encoding (row_of c.kind present v bs) h in (ap (counting r) g.0, g.1)

pub refused-append :
    (r : Builder) (a : Lent) (present : Bool) (v : ℤ) (bs : List ℕ) → ((appended r a present v bs).answer.number ≡ 0 → ⊥)
    → ((appended r a present v bs).answer.builder ≡ r) × ((appended r a present v bs).areas ≡ a)
unfolding appended
refused-append r a present v bs = in-keeps r a (column_of r.kind r.encoding r.width) present v bs

-- of n equal rows
times-keep :
    (r : Builder) (a : Lent) (n : ℕ) (c : Option Column) (present : Bool) (v : ℤ) (bs : List ℕ) → ((appended_times_in c r a n present v bs).answer.number ≡ 0 → ⊥)
    → ((appended_times_in c r a n present v bs).answer.builder ≡ r) × ((appended_times_in c r a n present v bs).areas ≡ a)
unfolding appended_times_in
times-keep r a n None present v bs h = (refl, refl)
times-keep r a n (Some c) present v bs h =
    let g = copies-refused-keep c.kind c.encoding r.counted a n (row_of c.kind present v bs) h in
    (ap (counting r) g.0, g.1)

pub refused-append-times :
    (r : Builder) (a : Lent) (n : ℕ) (present : Bool) (v : ℤ) (bs : List ℕ) → ((appended_times r a n present v bs).answer.number ≡ 0 → ⊥)
    → ((appended_times r a n present v bs).answer.builder ≡ r) × ((appended_times r a n present v bs).areas ≡ a)
unfolding appended_times
refused-append-times r a n present v bs = times-keep r a n (column_of r.kind r.encoding r.width) present v bs

-- ---- finish
module _ (r : Builder) (out : List ℕ) where
  -- a refusal is its number alone; refused or not, the record comes back
  abbrev Leaves : Finish → Type 0
  Leaves x = ((x.answer.number ≡ 0 → ⊥) → x ≡ finish_of x.answer.number 0 r out) × (x.answer.builder ≡ r)

  one_of : (b : Bool) (x y : Finish) → Leaves x → Leaves y → Leaves (cond b x y)
  one_of true x y f g = f
  one_of false x y f g = g

  nothing : (n : ℕ) → Leaves (finish_of n 0 r out)
  nothing n = (λ h. refl, refl)

  with-leaves : (block : List ℕ) → Leaves (finished_with r block out)
  unfolding finished_with
  with-leaves block = one_of (ltb (length out) (length block)) _ _ (nothing ROOM) (λ h. absurd (h refl), refl)

  in-leaves : (c : Option Column) (a : Lent) → Leaves (finished_in c r a out)
  unfolding finished_in
  in-leaves None a = nothing DISAGREE
  in-leaves (Some c) a = one_of (disagree c.kind c.encoding r.counted (room_of a)) _ _ (nothing DISAGREE) (with-leaves (held_block c.kind c.encoding r.counted a))

  leaves : (a : Lent) → Leaves (finished r a out)
  unfolding finished
  leaves a = in-leaves (column_of r.kind r.encoding r.width) a

  pub refused-finish : (a : Lent) → ((finished r a out).answer.number ≡ 0 → ⊥) → finished r a out ≡ finish_of (finished r a out).answer.number 0 r out
  refused-finish a = (leaves a).0

  pub finish-hands-back : (a : Lent) → (finished r a out).answer.builder ≡ r
  finish-hands-back a = (leaves a).1

-- ---- estimate and should_finish
module _ (r : Builder) where
  estimate-by : (c : Option Column) → (estimated_in c r).builder ≡ r
  unfolding estimated_in
  estimate-by None = refl
  estimate-by (Some c) = go (record_wrong c.kind c.encoding r.counted)
    where
      go : (b : Bool) → (cond b (estimated_as DISAGREE 0 r) (estimated_as 0 (size_by c.kind c.encoding r.counted) r)).builder ≡ r
      go true = refl
      go false = refl

  pub estimate-hands-back : (estimated r).builder ≡ r
  unfolding estimated
  estimate-hands-back = estimate-by (column_of r.kind r.encoding r.width)

  module _ (present : Bool) (len : ℕ) where
    asked_by : (c : Option Column) → (asked_in c r present len).builder ≡ r
    unfolding asked_in
    asked_by None = refl
    asked_by (Some c) = go (record_wrong c.kind c.encoding r.counted)
      where
        go : (b : Bool) → (cond b (asked_as DISAGREE false r) (asked_as 0 (full_by c.kind c.encoding r.counted r.target r.keytarget present len) r)).builder ≡ r
        go true = refl
        go false = refl

    pub should-finish-hands-back : (asked r present len).builder ≡ r
    unfolding asked
    should-finish-hands-back = asked_by (column_of r.kind r.encoding r.width)
