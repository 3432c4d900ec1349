-- Rows of char that are an item each, with no marks: their texts are those of the items, and none can be wrong. Assumes nothing.
use Prim.Native.Nat.{ℕ, ◌+◌, ◌*◌, ◌^◌, ◌≤◌, ◌<◌}
use native.Mathlib.Omega.{arith}
use mathlib.Core.Path.{◌≡◌, sym, ap, ◌∙◌, fun_ext}
use mathlib.Core.List.{List, map}
use lib.ListN.{length, replicate}
use lib.Seq.{sets}
use Rattle.plain.specs.Rows.{bytes_in}
use Rattle.plain.specs.Plain.{places, joined, ends_from, char_at, plain_row, least_bytes, ends_good}
use Rattle.rle.specs.declared.Spot.{Spot}
use Rattle.rle.specs.Stepping.{spot}
use Rattle.dict.specs.Dictionary.{entry_row}
use Rattle.source.specs.Rows.{shown_by, row_by, text_by, sum_of, capped}
use Rattle.source.proofs.Folds.{length-joined}
use Rattle.source.proofs.AtPlace.{sizes}
use Rattle.weigh.proofs.Weights.{capped_small}
use Rattle.anatomy.specs.declared.Parts.{Parts}
use Rattle.anatomy.specs.Parts.{marks_in, items_in}
use Rattle.part_rows.specs.PartRows.{places_in, size_in, text_in, flags_given, ends_given, bytes_given, weight_given, Serves}
use Rattle.item_rows.specs.Alone.{Alone}
use Rattle.part_rows.proofs.Places.{Read, writes}
use Rattle.part_rows.proofs.FlagRows.{bare-flags, alone-runs}
use Rattle.item_rows.proofs.ItemRows.{all_there, all_read}

module _ (p : Parts) (from : Spot) (b : List ℕ) (n : ℕ) (s : Serves p from b n) (w : ℕ) (a : Alone p.source w) where
  same : char_at w (items_in p b) ≡ text_in p b
  unfolding text_by row_by shown_by entry_row plain_row bytes_in
  same = fun_ext (λ i. rw (a.kind, a.bare))

  runs : places_in p from b n ≡ places n from.run
  runs = alone-runs p from b n a.coded

  pub chars-there : from.run * w + n * w ≤ length (items_in p b)
  unfolding least_bytes
  chars-there = all_there p from b n s a.coded w (rw a.kind)

  pub chars-read : Read p from b n (places n from.run) (spot (from.run + n) from.at from.taken)
  unfolding ends_good
  chars-read = all_read p from b n s a.coded (λ j. rw a.kind)

  -- what the items' texts come to, and what is written of them
  pub chars-sum : length (joined (char_at w (items_in p b)) (places n from.run)) ≡ weight_given p from b n
  chars-sum =
      ap (λ (f : ℕ → List ℕ). length (joined f (places n from.run))) same
      ∙ length-joined (text_in p b) (size_in p b) (sizes p.source (marks_in p b) (items_in p b)) (places n from.run)
      ∙ ap (sum_of (size_in p b)) (sym runs)

  pub chars-most : {m : ℕ} → length (joined (char_at w (items_in p b)) (places n from.run)) ≤ m → weight_given p from b n ≤ m
  chars-most h = let e = chars-sum in omega arith

  pub chars-fit : {m : ℕ} → weight_given p from b n ≤ m → length (joined (char_at w (items_in p b)) (places n from.run)) ≤ m
  chars-fit h = let e = chars-sum in omega arith

  pub chars-flags : (fs : List ℕ) {fs' : List ℕ} → fs' ≡ sets fs 0 (replicate n 1) → fs' ≡ sets fs 0 (flags_given p from b n)
  chars-flags fs h =
      let w = writes p from b n n chars-read.steps chars-read.right (omega arith) in
      h ∙ ap (sets fs 0) (bare-flags p from b n a.bare w.fine)

  pub chars-ends : (es : List ℕ) {es' : List ℕ} → es' ≡ sets es 0 (ends_from 0 (map (char_at w (items_in p b)) (places n from.run))) → es' ≡ sets es 0 (ends_given p from b n)
  chars-ends es h = rw (runs, ← same) h

  pub chars-joined : (bs : List ℕ) {bs' : List ℕ} → bs' ≡ sets bs 0 (joined (char_at w (items_in p b)) (places n from.run)) → bs' ≡ sets bs 0 (bytes_given p from b n)
  chars-joined bs h = rw (runs, ← same) h

  -- so few bytes are no more than the cap
  pub chars-weight : {total : ℕ} → total ≡ weight_given p from b n → total < 2 ^ 32 → total ≡ capped (sum_of (size_in p b) (places n from.run))
  chars-weight {total} e h =
      let t : total ≡ sum_of (size_in p b) (places n from.run) = e ∙ ap (sum_of (size_in p b)) runs in
      t ∙ sym (capped_small _ (omega arith))
