-- The numbers at the head of a dictionary block, from what is read of its first twelve bytes. Assumes nothing.
use Prim.Native.Nat.{ℕ, ◌≤◌}
use native.Mathlib.Omega.{arith}
use mathlib.Core.Path.{◌≡◌, ap, ◌∙◌}
use mathlib.Core.List.{List}
use lib.ListN.{length, take, drop}
use Rattle.encode.specs.Bytes.{number_of, high-first, in_eight}
use Rattle.plain.proofs.Items.{take-item}
use Rattle.dict.specs.Dictionary.{key_length, entries_in}

module _ (b : List ℕ) (h : 12 ≤ length b) where
  pub key-length :
      {item : List ℕ} {r : ℕ} → item ≡ in_eight (take 8 (drop 0 b)) → r ≡ number_of high-first (take 8 item) → r ≡ key_length b
  unfolding key_length
  key-length p q = q ∙ ap (λ (l : List ℕ). number_of high-first (take 8 l)) p ∙ ap (number_of high-first) (take-item 8 0 b (omega arith))

  pub entries-number :
      {item : List ℕ} {r : ℕ} → item ≡ in_eight (take 4 (drop 8 b)) → r ≡ number_of high-first (take 4 item) → r ≡ entries_in b
  unfolding entries_in
  entries-number p q = q ∙ ap (λ (l : List ℕ). number_of high-first (take 4 l)) p ∙ ap (number_of high-first) (take-item 4 8 b (omega arith))
