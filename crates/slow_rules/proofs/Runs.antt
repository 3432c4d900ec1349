-- The number that a run-length block's rules give, by what the code read and tested, over any inner rules. Assumes nothing.
use Rattle.std.specs.Prelude.{Err}
use Prim.Native.Nat.{ℕ, ◌+◌, ◌-◌, ◌≤◌}
use native.Mathlib.Omega.{arith}
use mathlib.Core.Bool.{not}
use mathlib.Core.List.{List, [], ◌∷◌}
use mathlib.Core.Path.{◌≡◌, sym, ap, ◌∙◌}
use lib.Dec.{eqb}
use lib.ListN.{length, take, drop}
use borrow.Author.Tests.{le-ltb, eq-eqb, ne_eqb}
use Rattle.encode.specs.Bytes.{number}
use Rattle.limits.specs.Limits.{MOST_ITEMS}
use Rattle.limits.specs.Refusals.{SUM}
use Rattle.plain.specs.Rules.{◌if◌, first_of}
use Rattle.rle.specs.RunLength.{runs_in, counts_length, counts_part, inner_part, walked, walk_number, run_length_number}
use Rattle.rle.specs.Pieces.{head_found, number_by}
use Rattle.rle.proofs.Opening.{head-number}
use Rattle.format.proofs.Answers.{first_one, broken-first, kept-first}
use Rattle.format.proofs.RunBlocks.{rest_of}

module _ (inner : ℕ → List ℕ → ℕ) (n : ℕ) (b : List ℕ) where
  pub no_block : {r : ℕ} → length b ≡ 0 → r ≡ SUM if not (eqb n 0) → r ≡ run_length_number inner n b
  unfolding run_length_number
  no_block h e = e ∙ simp (eq-eqb (length b) 0 h)

  -- a head that is refused gives its number
  pub head-refused : {e : ℕ} → Err e ≡ head_found n b → e ≡ run_length_number inner n b
  unfolding number_by
  head-refused q = ap (number_by inner b) q ∙ sym (head-number inner n b)

  -- the rules up to the room of the counts are kept
  module _ (h0 : length b ≡ 0 → ⊥) (h1 : 8 ≤ length b) {runs : ℕ} (e1 : runs ≡ number (take 4 (drop 0 b))) (h2 : runs ≤ MOST_ITEMS)
      (h3 : runs ≡ 0 → ⊥) {counts : ℕ} (e2 : counts ≡ number (take 4 (drop 4 b))) (h4 : 8 + counts ≤ length b) where
    -- what is left: the walk over the counts in their part of the block, then the inner rules
    abbrev rest : ℕ → ℕ
    rest walk = first_of (walk ∷ inner runs (drop (8 + counts) b) ∷ [])

    number_is : run_length_number inner n b ≡ rest (walk_number n (walked runs (take (8 + counts - 8) (drop 8 b))))
    unfolding run_length_number runs_in counts_length counts_part inner_part first_of
    number_is =
        let m : 8 + counts - 8 ≡ counts = omega arith in
        rw (m, ← e1, ← e2)
        (simp (ne_eqb (length b) 0 h0, le-ltb (length b) 8 h1, le-ltb MOST_ITEMS runs h2, ne_eqb runs 0 h3, le-ltb (length b) (8 + counts) h4))

    module _ {w : ℕ} (p : w ≡ walk_number n (walked runs (take (8 + counts - 8) (drop 8 b)))) where
      walk_is : run_length_number inner n b ≡ rest w
      walk_is = number_is ∙ ap rest (sym p)

      pub counts-wrong : (w ≡ 0 → ⊥) → w ≡ run_length_number inner n b
      counts-wrong z = sym (walk_is ∙ broken-first w (inner runs (drop (8 + counts) b) ∷ []) z)

      pub then-inner : w ≡ 0 → {r : ℕ} → r ≡ inner runs (take (length b - (8 + counts)) (drop (8 + counts) b)) → r ≡ run_length_number inner n b
      then-inner z {r} i =
          let x : ℕ = inner runs (drop (8 + counts) b) in
          (rw rest_of at i) ∙ sym (walk_is ∙ kept-first (x ∷ []) z ∙ first_one x)
