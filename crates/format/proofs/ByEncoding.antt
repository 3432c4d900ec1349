-- A column's rules on each way through `check`. Assumes nothing.
use Prim.Native.Nat.{ℕ, ◌≤◌}
use mathlib.Core.Bool.{true, false}
use mathlib.Core.List.{List}
use mathlib.Core.Path.{◌≡◌, sym, subst}
use Rattle.limits.specs.Limits.{MOST_ITEMS}
use Rattle.encode.specs.declared.Kind.{Kind}
use Rattle.plain.specs.Plain.{plain_number}
use Rattle.nullable.specs.Nullable.{nullable_number}
use Rattle.rle.specs.RunLength.{run_length_number}
use Rattle.dict.specs.Dictionary.{dictionary_number}
use Rattle.format.specs.declared.Encoding.{Encoding}
use Rattle.format.specs.declared.Encoding.TheVariants.{Plain, Nullable, RunLength, RunLengthNullable, Dictionary}
use Rattle.std.specs.Prelude.{Result}
use Rattle.format.specs.declared.Head.{Head}
use Rattle.format.specs.Opening.{most_rows, rules_of, head, head_of}
use Rattle.format.specs.Found.{found_by, inner_number, runs_head, keys_asked, dictionary_asked}

module _ (k : Kind) {e : Encoding} (n : ℕ) (b : List ℕ) {r : Result Head ℕ} where
  -- an answer for the encoding that a match found
  same : (f : Encoding) → e ≡ f → r ≡ found_by (rules_of k f n b) (head_of f b) → r ≡ found_by (rules_of k e n b) (head_of e b)
  same f q p = subst (λ (x : Encoding). r ≡ found_by (rules_of k x n b) (head_of x b)) (sym q) p

  pub plain-found : e ≡ Plain → {x : ℕ} → x ≡ plain_number k n b → r ≡ found_by x (head 0 0 0 0) → r ≡ found_by (rules_of k e n b) (head_of e b)
  unfolding rules_of head_of
  plain-found q h p = same Plain q (rw h at p)

  pub nullable-found :
      e ≡ Nullable → {x : ℕ} → x ≡ nullable_number k n b → r ≡ found_by x (head 0 0 0 0) → r ≡ found_by (rules_of k e n b) (head_of e b)
  unfolding rules_of head_of
  nullable-found q h p = same Nullable q (rw h at p)

  pub run-length-found :
      e ≡ RunLength → r ≡ found_by (run_length_number (inner_number false k) n b) (runs_head b) → r ≡ found_by (rules_of k e n b) (head_of e b)
  unfolding rules_of head_of inner_number runs_head
  run-length-found q p = same RunLength q p

  pub run-length-nullable-found :
      e ≡ RunLengthNullable → r ≡ found_by (run_length_number (inner_number true k) n b) (runs_head b) → r ≡ found_by (rules_of k e n b) (head_of e b)
  unfolding rules_of head_of inner_number runs_head
  run-length-nullable-found q p = same RunLengthNullable q p

  pub dictionary-found :
      e ≡ Dictionary → r ≡ found_by (dictionary_asked true k n b) (head_of Dictionary b) → r ≡ found_by (rules_of k e n b) (head_of e b)
  unfolding rules_of dictionary_number dictionary_asked keys_asked
  dictionary-found q p = same Dictionary q p

-- ---- where every row is a stored item, rows have the limit of items
pub plain_rows : {e : Encoding} {n : ℕ} → e ≡ Plain → n ≤ most_rows e → n ≤ MOST_ITEMS
unfolding most_rows
plain_rows {e} {n} q h = subst (λ (x : Encoding). n ≤ most_rows x) q h

pub nullable-rows : {e : Encoding} {n : ℕ} → e ≡ Nullable → n ≤ most_rows e → n ≤ MOST_ITEMS
unfolding most_rows
nullable-rows {e} {n} q h = subst (λ (x : Encoding). n ≤ most_rows x) q h
