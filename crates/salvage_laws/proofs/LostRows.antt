-- 02 (xii): which rows are lost. A row is in a range exactly if the key of its run names no entry; the ranges ascend, and between two of them lies a row
-- that isn't lost; only rows that are lost change; of a sound block none is. Assumes nothing.
use Rattle.std.specs.Prelude.{Some}
use Prim.Native.Nat.{ℕ, zero, suc, ◌≤◌, ◌<◌}
use native.Mathlib.Nat.{zero-add}
use native.Mathlib.Omega.{arith}
use mathlib.Core.Bool.{Bool, false}
use mathlib.Core.List.{List, [], ◌∷◌, map}
use mathlib.Core.Logic.{⊎_elim}
use mathlib.Core.Path.{◌≡◌, refl, sym, ◌∙◌}
use lib.ListN.{length, get_or, length-map, get_or-map, get_or-eq_default}
use borrow.Author.Tests.{le-ltb}
use Rattle.encode.specs.declared.Kind.{Kind}
use Rattle.encode.proofs.Bools.{clash}
use Rattle.area.proofs.Laws.{lt-or-ge}
use Rattle.plain.specs.Each.{Each}
use Rattle.plain.specs.Rows.{null}
use Rattle.plain.proofs.Each.{each_more}
use Rattle.rle.specs.Stepping.{spot}
use Rattle.rle.proofs.Steps.{Below, steps-below}
use Rattle.rle.proofs.Whole.{whole-steps}
use Rattle.dict.proofs.Slots.{known_at}
use Rattle.format.specs.declared.Encoding.TheVariants.{Dictionary}
use Rattle.format.specs.declared.Head.{Head}
use Rattle.format.specs.Opening.{column_number, head_of, row_at, counts_in, places_of, rows_of}
use Rattle.format.proofs.Sound.{SoundKeys, column-sound, keys-sound}
use Rattle.ranges.specs.Exactly.{Has, ApartFrom}
use Rattle.ranges.proofs.Exactly.{in-a-range-exactly, ranges_apart, none-marked}
use Rattle.block_laws.proofs.Lists.{map_each}
use Rattle.damaged.specs.Damaged.{rules_but_15, is_lost, repaired_at, repaired_rows, lost_ranges}
use Rattle.salvage_laws.specs.Words.{LostExactly, OnlyLostChange, SoundStays}
use Rattle.salvage_laws.proofs.ShownSlots.{runs_of_rows, shown_at}
use Rattle.salvage_laws.proofs.Salvaged.{rows-many}
use Rattle.format.specs.Blocks.{column}

-- what a function gives at a place that is there
map_at : {B : Type 0} (f : ℕ → B) (is : List ℕ) (i : ℕ) (d : B) → i < length is → get_or (map f is) i d ≡ f (get_or is i 0)
map_at f [] i d l = absurd (omega arith)
map_at f (x ∷ is) zero d l = refl
map_at f (x ∷ is) (suc i) d l = map_at f is i d (omega arith)

-- ---- the ranges of the lost rows
-- They ascend, each as long as it can be.
pub lost-apart : (n : ℕ) (b : List ℕ) → ApartFrom 0 (lost_ranges n b)
unfolding lost_ranges
lost-apart n b = ranges_apart (map (is_lost (head_of Dictionary b) b) (runs_of_rows n b))

module _ (k : Kind) (n : ℕ) (b : List ℕ) (sound : rules_but_15 (Some (column k Dictionary)) n b ≡ 0) where
  runs-many : length (runs_of_rows n b) ≡ n
  unfolding repaired_rows
  runs-many = sym (length-map (runs_of_rows n b) (shown_at k n b)) ∙ rows-many k n b sound

  -- A row is in one of them exactly if the key of its run names no entry.
  pub lost-exactly : LostExactly n b
  unfolding lost_ranges
  lost-exactly i l =
      let lost : ℕ → Bool = is_lost (head_of Dictionary b) b in
      rw (← map_at lost (runs_of_rows n b) i false (omega (arith, runs-many))) (in-a-range-exactly (map lost (runs_of_rows n b)) i)

  -- None of them passes the rows.
  pub lost-within : (i : ℕ) → Has (lost_ranges n b) i → i < n
  unfolding lost_ranges
  lost-within i h = ⊎_elim (λ (l : i < n). l) past (lt-or-ge i n)
    where
      past : n ≤ i → i < n
      past l =
          let marks : List Bool = map (is_lost (head_of Dictionary b) b) (runs_of_rows n b) in
          let short : length marks ≤ i = omega (arith, runs-many, length-map (runs_of_rows n b) (is_lost (head_of Dictionary b) b)) in
          clash (sym ((in-a-range-exactly marks i).1 h) ∙ get_or-eq_default marks false short)

  -- A lost row becomes null, and any other stays.
  pub only-lost-change : OnlyLostChange k n b
  unfolding repaired_rows repaired_at
  only-lost-change i l =
      let row = map_at (shown_at k n b) (runs_of_rows n b) i null (omega (arith, runs-many)) in
      (λ e. row ∙ rw e, λ e. row ∙ rw e)

-- ---- a sound block
module _ (k : Kind) (n : ℕ) (b : List ℕ) (opens : column_number (Some (column k Dictionary)) n b ≡ 0) where
  abbrev h : Head
  h = head_of Dictionary b

  keys : SoundKeys k n b h.runs h.counts h.keys h.entries
  keys = keys-sound k n b (column-sound k Dictionary n b opens).rules

  not-lost : (i : ℕ) → i < h.runs → is_lost h b i ≡ false
  unfolding is_lost
  not-lost i l = le-ltb _ _ (rw zero-add at (known_at h.entries _ h.runs 0 i keys.all_known l))

  each-not-lost : (is : List ℕ) → Below h.runs is → Each (λ (i : ℕ). is_lost h b i ≡ false) is
  each-not-lost [] l = tt
  each-not-lost (i ∷ is) l = (not-lost i l.0, each-not-lost is l.1)

  none-lost : Each (λ (i : ℕ). is_lost h b i ≡ false) (runs_of_rows n b)
  unfolding places_of counts_in
  none-lost = each-not-lost (runs_of_rows n b) (steps-below h.runs _ n (spot 0 0 0) (whole-steps h.runs _ n keys.parts.key-runs.sum).1)

  -- A sound block has no lost rows, and its rows stay.
  pub sound-unchanged : SoundStays k n b
  unfolding lost_ranges repaired_rows rows_of repaired_at
  sound-unchanged =
      let never : ℕ → Bool = λ i. false in
      let marks : map (is_lost h b) (runs_of_rows n b) ≡ map never (runs_of_rows n b) = map_each (is_lost h b) never (runs_of_rows n b) none-lost in (
        (none-marked (map (is_lost h b) (runs_of_rows n b))).1 (λ i. rw marks (get_or-map never (runs_of_rows n b) i 0)),
        map_each (shown_at k n b) (row_at k Dictionary n h b) (runs_of_rows n b)
            (each_more (λ (i : ℕ). is_lost h b i ≡ false) (λ (i : ℕ). shown_at k n b i ≡ row_at k Dictionary n h b i) (runs_of_rows n b) (λ i e. rw e) none-lost),
      )
