-- The numbers at the head of a dictionary block that meets all rules but 15 contradict nothing. Assumes nothing.
use Prim.Native.Nat.{ℕ, ◌+◌, ◌*◌, ◌≤◌}
use native.Mathlib.Omega.{arith}
use mathlib.Core.Bool.{Bool, true, false, not, ◌&&◌}
use mathlib.Core.List.{List}
use mathlib.Core.Logic.{⊎_elim}
use mathlib.Core.Path.{◌≡◌, refl}
use lib.ListN.{length, length-drop}
use borrow.Author.Tests.{le-ltb, eq-eqb}
use Rattle.limits.specs.Limits.{MOST_ROWS, MOST_ITEMS, MOST_ENTRIES, MOST_BYTES}
use Rattle.encode.specs.declared.Primitive.TheVariants.{I32}
use Rattle.encode.specs.declared.Kind.{Kind}
use Rattle.encode.proofs.Bools.{or-none}
use Rattle.plain.specs.Plain.{least_bytes, plain_number}
use Rattle.plain.proofs.Numbers.{fixed_plain, plain-least}
use Rattle.rle.specs.RunLength.{inner_part}
use Rattle.dict.specs.Dictionary.{i32, key_part, entries_part, dictionary_rules}
use Rattle.dict.proofs.Parts.{length-key-part, length-entries-part}
use Rattle.format.specs.declared.Encoding.TheVariants.{Dictionary}
use Rattle.format.specs.declared.Head.{Head}
use Rattle.format.specs.Opening.{head_of, most_rows}
use Rattle.format.proofs.Sound.{NoRuns, SomeRuns, SoundParts, parts-sound}
use Rattle.anatomy.specs.Tests.{no_runs, runs_outside, part_outside, runs_wrong, head_wrong}
use Rattle.anatomy.specs.Parts.{Right}

module _ (k : Kind) (n : ℕ) (b : List ℕ) (h : Head) (s : SoundParts k n b h.runs h.counts h.keys h.entries) where
  head-right : head_wrong Dictionary h 0 ≡ false
  unfolding head_wrong runs_wrong
  head-right =
      simp (
        le-ltb MOST_ITEMS h.runs s.key-runs.many,
        le-ltb h.runs 0 (omega arith),
        le-ltb MOST_ENTRIES h.entries s.few,
      )

  entries-inside : 12 + h.keys + least_bytes k h.entries ≤ length b
  entries-inside =
      omega (arith, plain-least k h.entries (entries_part h.keys b) s.entries-inside, length-entries-part h.keys b, s.head-room)

  -- no runs and no counts, or a key block with room for them
  keys-inside : runs_outside h.keys h (4 * h.runs) ≡ false
  unfolding runs_outside no_runs inner_part
  keys-inside = ⊎_elim
      (λ (z : NoRuns n (key_part h.keys b) h.runs h.counts). simp (eq-eqb h.runs 0 z.no-runs, eq-eqb h.counts 0 z.no-counts))
      (λ (z : SomeRuns (plain_number i32) (key_part h.keys b) h.runs h.counts).
      let items = fixed_plain I32 h.runs (inner_part h.counts (key_part h.keys b)) z.inside in
      let behind = length-drop (8 + h.counts) (key_part h.keys b) in
      let room = z.room in
      let l : 8 + h.counts + 4 * h.runs ≤ h.keys = omega (arith, length-key-part h.keys b s.head-room) in
      rw (le-ltb h.keys (8 + h.counts + 4 * h.runs) l) (never (no_runs h)))
      s.key-runs.either
    where
      never : (t : Bool) → (not t && false) ≡ false
      never true = refl
      never false = refl

  parts-right : part_outside k Dictionary n (length b) h ≡ false
  unfolding part_outside
  parts-right = or-none (le-ltb (length b) (12 + h.keys + least_bytes k h.entries) entries-inside) keys-inside

module _ (k : Kind) (n : ℕ) (b : List ℕ) where
  pub numbers-right : length b ≤ MOST_BYTES → n ≤ MOST_ROWS → dictionary_rules 0 k n b ≡ 0 → Right k Dictionary n (length b) (head_of Dictionary b) 0
  unfolding most_rows
  numbers-right size rows rules =
      let s = parts-sound k n b rules in
      record { size = size; rows = rows; head = head-right k n b (head_of Dictionary b) s; parts = parts-right k n b (head_of Dictionary b) s }
