-- What is read of a file at a place is what its entry has there. Assumes nothing.
use Prim.Native.Nat.{ℕ, ◌+◌, ◌≤◌}
use native.Mathlib.Omega.{arith}
use mathlib.Core.Path.{◌≡◌, sym, ap, ◌∙◌}
use mathlib.Core.List.{List}
use lib.ListN.{length, take, drop}
use lib.Seq.{take-take, drop-drop}
use Rattle.encode.specs.Bytes.{high-first, number_of, in_eight}
use Rattle.plain.proofs.Items.{take-item}
use Rattle.anatomy.proofs.PartsOfLists.{take-drop}
use Rattle.descriptor.specs.declared.Descriptor.{Descriptor}
use Rattle.descriptor.specs.Descriptor.{descriptor_of}
use Rattle.sheet.specs.Sheet.{directory_end, entry_at, descriptor_in, offset_in, length_in}

-- an item that was read whole, taken for anything
pub read_as :
    {A : Type 0} (g : List ℕ → A) (w at : ℕ) (f : List ℕ) → at + w ≤ length f → {item : List ℕ} {r : A}
    → item ≡ in_eight (take w (drop at f)) → r ≡ g (take w item) → r ≡ g (take w (drop at f))
read_as g w at f h p q = q ∙ ap (λ (l : List ℕ). g (take w l)) p ∙ ap g (take-item w at f h)

-- w bytes at i of the i + m bytes at a place
pub part_of : (w i m at : ℕ) (f : List ℕ) → w ≤ m → take w (drop i (take (i + m) (drop at f))) ≡ take w (drop (at + i) f)
part_of w i m at f h =
    ap (take w) (sym (take-drop m i (drop at f))) ∙ take-take w m (drop i (drop at f)) h ∙ ap (take w) (drop-drop i at f)

module _ (f : List ℕ) (j : ℕ) where
  pub descriptor-read : {d : Descriptor} → d ≡ descriptor_of (take 8 (drop (directory_end j) f)) → d ≡ descriptor_in (entry_at j f)
  descriptor-read q = q ∙ ap descriptor_of (sym (take-take 8 16 (drop (directory_end j) f) (omega arith)))

  pub offset_read : {n : ℕ} → n ≡ number_of high-first (take 4 (drop (directory_end j + 8) f)) → n ≡ offset_in (entry_at j f)
  offset_read q = q ∙ ap (number_of high-first) (sym (part_of 4 8 8 (directory_end j) f (omega arith)))

  pub length-read : {n : ℕ} → n ≡ number_of high-first (take 4 (drop (directory_end j + 12) f)) → n ≡ length_in (entry_at j f)
  length-read q = q ∙ ap (number_of high-first) (sym (part_of 4 12 4 (directory_end j) f (omega arith)))
