-- What finish ought to answer and to write, as one who only has the answer and the room finds it. Assumes nothing.
use Prim.Native.Nat.{ℕ, ◌≤◌, ◌<◌}
use native.Mathlib.Omega.{arith}
use mathlib.Core.Bool.{Bool, true, false}
use mathlib.Core.List.{List}
use mathlib.Core.Path.{◌≡◌, refl}
use lib.Dec.{ltb}
use lib.ListN.{length, drop}
use lib.Seq.{take-append_seam, drop-append_seam}
use borrow.Author.Tests.{lt-ltb, le-ltb, ltb-false}
use Rattle.limits.specs.Refusals.{ROOM}
use Rattle.builder.specs.declared.Builder.{Builder}
use Rattle.building_laws.specs.Built.{finish_due}
use Rattle.whole_way_laws.specs.WholeWay.{written}

module _ (r : Builder) (block out : List ℕ) where
  -- the number is 0 exactly if the room holds the block
  pub done-if-held : length block ≤ length out → (finish_due r block out).answer.number ≡ 0
  unfolding finish_due
  done-if-held h = rw (le-ltb (length out) (length block) h)

  pub short-if-not : length out < length block → (finish_due r block out).answer.number ≡ ROOM
  unfolding finish_due
  short-if-not h = rw (lt-ltb (length out) (length block) h)

  pub held-if-done : (finish_due r block out).answer.number ≡ 0 → length block ≤ length out
  unfolding finish_due
  held-if-done z = go (ltb (length out) (length block)) refl
    where
      go : (t : Bool) → ltb (length out) (length block) ≡ t → length block ≤ length out
      go true h = absurd (omega (arith, rw h at z))
      go false h = ltb-false (length out) (length block) h

  -- then its length is answered, and the block is written
  pub block_written : (finish_due r block out).answer.number ≡ 0
      → ((finish_due r block out).answer.len ≡ length block) × (written (finish_due r block out) ≡ block)
  unfolding finish_due written
  block_written z = rw (le-ltb (length out) (length block) (held-if-done z)) (refl, take-append_seam block (drop (length block) out))

  -- behind the length answered the room stays, whatever the number is
  pub behind-stays : drop (finish_due r block out).answer.len (finish_due r block out).out ≡ drop (finish_due r block out).answer.len out
  unfolding finish_due
  behind-stays = go (ltb (length out) (length block)) refl
    where
      go : (t : Bool) → ltb (length out) (length block) ≡ t
          → drop (finish_due r block out).answer.len (finish_due r block out).out ≡ drop (finish_due r block out).answer.len out
      go true h = rw h
      go false h = rw h (drop-append_seam block (drop (length block) out))
