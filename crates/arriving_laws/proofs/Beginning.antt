-- Before the first byte: what is owed is the number that opening gives, and the stage fits the bytes to come. Assumes nothing.
use Rattle.std.specs.Prelude.{Some}
use Prim.Native.Nat.{ℕ}
use native.Mathlib.Nat.{add-zero}
use native.Mathlib.Omega.{arith}
use mathlib.Core.Bool.{Bool, true, false, cond}
use mathlib.Core.List.{List, [], ◌∷◌}
use mathlib.Core.Path.{◌≡◌, refl, sym, ap, ◌∙◌}
use lib.Dec.{ltb}
use lib.ListN.{length}
use lib.Seq.{take-length}
use borrow.Author.Tests.{ltb-false}
use Rattle.limits.specs.Limits.{MOST_BYTES}
use Rattle.limits.specs.Refusals.{LIMIT, CUT}
use Rattle.encode.specs.declared.Kind.{Kind}
use Rattle.plain.specs.Rules.{◌if◌, first_of}
use Rattle.plain.specs.Plain.{plain_number}
use Rattle.dict.specs.Dictionary.{dictionary_rules, dictionary_number}
use Rattle.format.specs.declared.Encoding.{Encoding}
use Rattle.format.specs.declared.Encoding.TheVariants.{Plain, Nullable, RunLength, RunLengthNullable, Dictionary}
use Rattle.format.specs.Opening.{most_rows, rules_of, column_number}
use Rattle.format.proofs.Answers.{first_one}
use Rattle.arriving.specs.Stages.{Done, KeyLength}
use Rattle.arriving.specs.Arriving.{trailed, began_by, began}
use Rattle.arriving_laws.specs.Owed.{trailed_by, runs_owed, owed_by, tail_of, coded, Fits, Checked}
use Rattle.arriving_laws.proofs.Plains.{plain-owed, plain_fits, nullable-owed, nullable-fits}
use Rattle.arriving_laws.proofs.Heads.{runs-owed, runs-fits}
use Rattle.format.specs.Blocks.{column}

-- ---- by the encoding
begun-owed : (k : Kind) (e : Encoding) (n : ℕ) (b : List ℕ) → Checked k → owed_by k e n (began_by k e n (length b)) [] b ≡ rules_of k e n b
unfolding began_by rules_of runs_owed tail_of trailed trailed_by coded owed_by dictionary_number dictionary_rules first_of
begun-owed k Plain n b c = plain-owed k Plain n 0 n (length b) b c (omega arith) ∙ ap (plain_number k n) (take-length b)
begun-owed k Nullable n b c = nullable-owed k Nullable n n b c refl
begun-owed k RunLength n b c = runs-owed k RunLength n c (length b) 0 b refl (omega arith) (λ d. refl)
begun-owed k RunLengthNullable n b c = runs-owed k RunLengthNullable n c (length b) 0 b refl (omega arith) (λ d. refl)
begun-owed k Dictionary n b c = go (ltb (length b) 12) refl
  where
    go : (t : Bool) → ltb (length b) 12 ≡ t → owed_by k Dictionary n (cond t (Done CUT) KeyLength) [] b ≡ dictionary_number k n b
    go true h = rw h
    go false h = refl

begun-fits : (k : Kind) (e : Encoding) (n m : ℕ) → Checked k → Fits k e (began_by k e n m) [] m
unfolding began_by Fits tail_of trailed coded
begun-fits k Plain n m c = rw add-zero at (plain_fits k Plain 0 n m c)
begun-fits k Nullable n m c = nullable-fits k Nullable n m c refl
begun-fits k RunLength n m c = runs-fits k RunLength n c m 0 m refl (omega arith) (λ d. refl)
begun-fits k RunLengthNullable n m c = runs-fits k RunLengthNullable n c m 0 m refl (omega arith) (λ d. refl)
begun-fits k Dictionary n m c = go (ltb m 12) refl
  where
    go : (t : Bool) → ltb m 12 ≡ t → Fits k Dictionary (cond t (Done CUT) KeyLength) [] m
    go true h = refl
    go false h = let l = ltb-false m 12 h in (refl, omega arith, omega arith)

-- ---- with the limits before
pub began-owed : (k : Kind) (e : Encoding) (n : ℕ) (b : List ℕ) → Checked k → owed_by k e n (began k e n (length b)) [] b ≡ column_number (Some (column k e)) n b
unfolding began column_number owed_by first_of
began-owed k e n b c = go (ltb MOST_BYTES (length b)) (ltb (most_rows e) n)
  where
    go : (t u : Bool)
        → owed_by k e n (cond t (Done LIMIT) (cond u (Done LIMIT) (began_by k e n (length b)))) [] b ≡ first_of (LIMIT if t ∷ LIMIT if u ∷ rules_of k e n b ∷ [])
    go true u = refl
    go false true = refl
    go false false = begun-owed k e n b c ∙ sym (first_one (rules_of k e n b))

pub began-fits : (k : Kind) (e : Encoding) (n m : ℕ) → Checked k → Fits k e (began k e n m) [] m
unfolding began Fits
began-fits k e n m c = go (ltb MOST_BYTES m) (ltb (most_rows e) n)
  where
    go : (t u : Bool) → Fits k e (cond t (Done LIMIT) (cond u (Done LIMIT) (began_by k e n m))) [] m
    go true u = refl
    go false true = refl
    go false false = begun-fits k e n m c
