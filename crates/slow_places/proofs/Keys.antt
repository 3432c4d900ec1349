-- A row of a dictionary: the entry that the key of its run names. Assumes nothing.
use Prim.Native.Nat.{ℕ, ◌+◌, ◌-◌, ◌*◌, ◌≤◌, ◌<◌}
use native.Mathlib.Nat.{zero-add}
use native.Mathlib.Omega.{arith}
use mathlib.Core.Bool.{true}
use mathlib.Core.List.{List}
use mathlib.Core.Path.{◌≡◌}
use lib.ListN.{length, take, drop, length-drop}
use lib.Seq.{take_all}
use Rattle.std.specs.Prelude.{Option}
use Rattle.limits.specs.Limits.{MOST_BYTES}
use Rattle.encode.specs.Bytes.{number_of}
use Rattle.encode.specs.declared.Kind.{Kind}
use Rattle.plain.specs.Plain.{plain_number, least_bytes}
use Rattle.plain.proofs.Numbers.{plain-least}
use Rattle.rle.specs.RunLength.{runs_in, counts_length}
use Rattle.dict.specs.Dictionary.{i32, key_length, entries_in, key_part, entries_part, slot_at}
use Rattle.dict.proofs.Parts.{length-key-part}
use Rattle.dict.proofs.Slots.{known_at}
use Rattle.format.specs.declared.Encoding.TheVariants.{Dictionary}
use Rattle.format.specs.Opening.{rules_of, head_of, row_at, counts_in, places_of, rows_of}
use Rattle.format.proofs.Sound.{SoundKeys, dictionary-sound}
use Rattle.slow_numbers.specs.Numbers.{order_by}
use Rattle.slow_plain.specs.Items.{slot_of}
use Rattle.slow_places.specs.Places.{Shows}
use Rattle.slow_places.specs.Inner.{Told, Has, items_of, Counted, run_at}
use Rattle.slow_places.proofs.Items.{place}
use Rattle.slow_places.proofs.Runs.{some_runs, counted, row_of_run}

-- ---- the numbers at the head, and the block of the keys, as they are read
module _ (b : List ℕ) {u : ℕ} where
  pub keys-read : u ≡ number_of (order_by true) (take 8 b) → u ≡ key_length b
  unfolding key_length order_by
  keys-read e = e

  pub entries-read : u ≡ number_of (order_by true) (take 4 (drop 8 b)) → u ≡ entries_in b
  unfolding entries_in order_by
  entries-read e = e

  part-read : u ≡ key_length b → take (12 + u - 12) (drop 12 b) ≡ key_part (key_length b) b
  unfolding key_part
  part-read e = let m : 12 + u - 12 ≡ key_length b = omega arith in rw m

-- ---- a sound block
abbrev key_block : List ℕ → List ℕ
key_block b = key_part (key_length b) b

module _ (k : Kind) (n : ℕ) (b : List ℕ) (z : rules_of k Dictionary n b ≡ 0) (row : ℕ) (l : row < n) where
  sound : SoundKeys k n b (runs_in (key_block b)) (counts_length (key_block b)) (key_length b) (entries_in b)
  unfolding rules_of
  sound = dictionary-sound k n b z

  key-room : 12 + key_length b ≤ length b
  key-room = sound.parts.head-room

  key-counted : length b ≤ MOST_BYTES → Counted (key_block b) row
  key-counted h =
      let m = key-room in
      counted (plain_number i32) sound.parts.key-runs l (omega (arith, length-key-part (key_length b) b m))

  keys-long : 4 * runs_in (key_block b) ≤ length (items_of (key_block b))
  unfolding least_bytes
  keys-long =
      let s = some_runs (plain_number i32) sound.parts.key-runs l in
      omega (arith, plain-least i32 (runs_in (key_block b)) (items_of (key_block b)) s.inside)

  entry-shows : run_at (key_block b) row < runs_in (key_block b)
      → {item : Option ℕ} → slot_of item ≡ slot_at (items_of (key_block b)) (run_at (key_block b) row)
      → Shows k Dictionary n b row (place (12 + key_length b) (length b) (entries_in b) item)
  unfolding rows_of row_at places_of counts_in head_of entries_part
  entry-shows j {item} q =
      let at = 12 + key_length b in
      let m = sound.parts.few in
      let a : take (length b - at) (drop at b) ≡ drop at b = take_all (length b - at) (drop at b) (omega (arith, length-drop at b)) in
      record {
        ordered = key-room;
        inside = omega arith;
        few = omega arith;
        sound = rw a sound.parts.entries-inside;
        slot = rw q (rw zero-add at (known_at (entries_in b) (items_of (key_block b)) (runs_in (key_block b)) 0 (run_at (key_block b) row) sound.all_known j));
        shown = rw (a, q) (row_of_run (plain_number i32) sound.parts.key-runs l (row_at k Dictionary n (head_of Dictionary b) b));
      }

-- ---- what the code found
module _ {b : List ℕ} {row : ℕ} (h : Has Dictionary b row) where
  pub has_room : 12 + key_length b ≤ length b
  has_room = key-room h.opened.kind h.rows b h.opened.sound row h.inside

  -- u is the length of the block of the keys
  module _ {u : ℕ} (e : u ≡ key_length b) where
    abbrev part : List ℕ
    part = take (12 + u - 12) (drop 12 b)

    pub has-keys : Counted part row × (4 * runs_in part ≤ length (items_of part))
    has-keys =
        let o = h.opened in
        rw (part-read b e)
        (key-counted o.kind h.rows b o.sound row h.inside o.short, keys-long o.kind h.rows b o.sound row h.inside)

    pub key-told :
        {entries : ℕ} (item : Option ℕ) → entries ≡ entries_in b → slot_of item ≡ slot_at (items_of part) (run_at part row) → run_at part row < runs_in part
        → (n : ℕ) → row < n → Told Dictionary n b row (place (12 + u) (length b) entries item)
    key-told item f g j n l k z = rw (f, e) (entry-shows k n b z row l (rw (part-read b e) at j) {item = item} (rw (part-read b e) at g))
