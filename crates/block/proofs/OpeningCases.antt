-- Which case of opened the tests of open lead to. Assumes nothing.
use Prim.Native.Nat.{ℕ, zero, suc, ◌≤◌, ◌<◌}
use native.Mathlib.Omega.{arith}
use mathlib.Core.Path.{◌≡◌, refl, sym, ap, ◌∙◌}
use mathlib.Core.List.{List}
use lib.ListN.{length}
use borrow.Author.Tests.{lt-ltb, le-ltb}
use Rattle.std.specs.Prelude.{Ok, Err, Option, Some, None}
use Rattle.limits.specs.Limits.{MOST_BYTES}
use Rattle.limits.specs.Refusals.{COLUMN, LIMIT}
use Rattle.encode.specs.declared.Kind.{Kind}
use Rattle.plain.specs.Rules.{first_of}
use Rattle.format.specs.declared.Encoding.{Encoding}
use Rattle.format.specs.declared.Column.{Column}
use Rattle.format.specs.Blocks.{column, column_of}
use Rattle.format.specs.declared.Head.{Head}
use Rattle.format.specs.Opening.{head_of, most_rows, rules_of, column_number, open_number}
use Rattle.format.specs.Found.{found_by}
use Rattle.format.proofs.Answers.{first_one, found-sound, found-refused}
use Rattle.block.specs.declared.Reader.{Reader}
use Rattle.block.specs.Reading.{reader_at, head_in, opened_by, opened}

-- ---- the answer that a number gives
refused-by : (i : ℕ) (r : Reader) → 0 < i → Err i ≡ opened_by i r
unfolding opened_by
refused-by zero r h = absurd (omega arith)
refused-by (suc i) r h = refl

module _ (kind encoding width n : ℕ) (b : List ℕ) {x : Option Column} (named : x ≡ column_of kind encoding width) where
  pub open_unknown : x ≡ None → Err COLUMN ≡ opened kind encoding width n b
  unfolding opened opened_by open_number column_number
  open_unknown q = rw (← named, q)

  module _ {k : Kind} {e : Encoding} (q : x ≡ Some (column k e)) where
    pub open-long : MOST_BYTES < length b → Err LIMIT ≡ opened kind encoding width n b
    unfolding opened opened_by open_number column_number first_of
    open-long h = rw (← named, q) (simp (lt-ltb MOST_BYTES (length b) h))

    module _ (short : length b ≤ MOST_BYTES) {m : ℕ} (most : m ≡ most_rows e) where
      pub open-rows : m < n → Err LIMIT ≡ opened kind encoding width n b
      unfolding opened opened_by open_number column_number first_of
      open-rows h = rw (← named, q, ← most) (simp (le-ltb MOST_BYTES (length b) short, lt-ltb m n h))

      module _ (few : n ≤ m) where
        -- what is left are the rules of the encoding
        number_is : open_number kind encoding width n b ≡ rules_of k e n b
        unfolding open_number column_number first_of
        number_is =
            rw (← named, q, ← most) (simp (le-ltb MOST_BYTES (length b) short, le-ltb m n few) (first_one (rules_of k e n b)))

        by-rules : opened_by (rules_of k e n b) (reader_at kind encoding width n (length b) (head_of e b)) ≡ opened kind encoding width n b
        unfolding opened head_in
        by-rules = rw (number_is, ← named, q)

        -- what the check of a block answers
        pub open-refused : {i : ℕ} → Err i ≡ found_by (rules_of k e n b) (head_of e b) → Err i ≡ opened kind encoding width n b
        open-refused {i} s =
            let f = found-refused (rules_of k e n b) (head_of e b) s in
            refused-by i (reader_at kind encoding width n (length b) (head_of e b)) f.1
            ∙ ap (λ (j : ℕ). opened_by j (reader_at kind encoding width n (length b) (head_of e b))) (sym f.0)
            ∙ by-rules

        pub open-sound :
            {h : Head} {r : Reader} → Ok h ≡ found_by (rules_of k e n b) (head_of e b) → r ≡ reader_at kind encoding width n (length b) h
            → Ok r ≡ opened kind encoding width n b
        unfolding opened_by
        open-sound s q =
            let f = found-sound (rules_of k e n b) (head_of e b) s in
            rw (q, f.1)
            (ap (λ (j : ℕ). opened_by j (reader_at kind encoding width n (length b) (head_of e b))) (sym f.0) ∙ by-rules)
