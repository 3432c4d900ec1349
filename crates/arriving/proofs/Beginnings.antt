-- The stage before the first byte, of a run-length block and behind its counts, on each way through the code. Assumes nothing.
use Prim.Native.Nat.{ℕ, ◌*◌, ◌≤◌, ◌<◌}
use mathlib.Core.Bool.{Bool, cond}
use mathlib.Core.List.{[], ◌∷◌}
use mathlib.Core.Path.{◌≡◌, refl, sym, ap, subst, ◌∙◌}
use borrow.Author.Tests.{lt-ltb, le-ltb, eq-eqb, ne_eqb}
use types.Run.{OneOf, miss}
use denote.Enum.Declared.{tag_of}
use Rattle.limits.specs.Limits.{MOST_BYTES}
use Rattle.limits.specs.Refusals.{LIMIT, CUT, LENGTH, SUM}
use Rattle.encode.specs.declared.Kind.{Kind}
use Rattle.format.specs.declared.Encoding.{Encoding}
use Rattle.format.specs.declared.Encoding.TheVariants.{Plain, Nullable, RunLength, RunLengthNullable, Dictionary}
use Rattle.format.specs.Opening.{most_rows}
use Rattle.format.specs.contracts.Encoding.{the_type}
use Rattle.arriving.specs.Stages.{Stage, Done, KeyLength, RunHead}
use Rattle.arriving.specs.Arriving.{plain_from, nullable_from, no_runs, runs_from, keys_from, inner_from, began_by, began}

-- ---- a run-length block of no bytes
module _ (k : Kind) (entries rest : ℕ) where
  pub then-entries : {e : Encoding} {r : Stage} → e ≡ Dictionary → r ≡ plain_from k e 0 entries rest → r ≡ no_runs k e entries rest
  unfolding no_runs
  then-entries {e} {r} q = subst (λ (x : Encoding). r ≡ plain_from k x 0 entries rest → r ≡ no_runs k x entries rest) (sym q) (λ h. h)

  pub no-entries : (e : Encoding) → OneOf (0 ∷ 1 ∷ 2 ∷ 3 ∷ []) (tag_of the_type e) → Done 0 ≡ no_runs k e entries rest
  unfolding no_runs
  no-entries Plain h = refl
  no-entries Nullable h = refl
  no-entries RunLength h = refl
  no-entries RunLengthNullable h = refl
  no-entries Dictionary h = absurd (miss (0 ∷ 1 ∷ 2 ∷ 3 ∷ []) 4 tt h)

-- ---- ... of some
module _ (k : Kind) (e : Encoding) (n size entries rest : ℕ) where
  pub no_rows : size ≡ 0 → n ≡ 0 → {r : Stage} → r ≡ no_runs k e entries rest → r ≡ runs_from k e n size entries rest
  unfolding runs_from
  no_rows s z h = h ∙ simp (eq-eqb size 0 s, eq-eqb n 0 z)

  pub lost-rows : size ≡ 0 → (n ≡ 0 → ⊥) → Done SUM ≡ runs_from k e n size entries rest
  unfolding runs_from
  lost-rows s z = simp (eq-eqb size 0 s, ne_eqb n 0 z)

  module _ (s : size ≡ 0 → ⊥) where
    pub no-head : size < 8 → Done CUT ≡ runs_from k e n size entries rest
    unfolding runs_from
    no-head l = simp (ne_eqb size 0 s, lt-ltb size 8 l)

    pub then-head : 8 ≤ size → RunHead size entries ≡ runs_from k e n size entries rest
    unfolding runs_from
    then-head l = simp (ne_eqb size 0 s, le-ltb size 8 l)

-- ---- behind the counts
module _ (k : Kind) (runs inner entries rest : ℕ) where
  pub no_inner : (e : Encoding) → OneOf (0 ∷ 1 ∷ []) (tag_of the_type e) → Done 0 ≡ inner_from k e runs inner entries rest
  unfolding inner_from
  no_inner Plain h = refl
  no_inner Nullable h = refl
  no_inner RunLength h = absurd (miss (0 ∷ 1 ∷ []) 2 tt h)
  no_inner RunLengthNullable h = absurd (miss (0 ∷ 1 ∷ []) 3 tt h)
  no_inner Dictionary h = absurd (miss (0 ∷ 1 ∷ []) 4 tt h)

  module _ {e : Encoding} where
    pub inner-plain : {r : Stage} → e ≡ RunLength → r ≡ plain_from k e 0 runs inner → r ≡ inner_from k e runs inner entries rest
    unfolding inner_from
    inner-plain {r} q = subst (λ (x : Encoding). r ≡ plain_from k x 0 runs inner → r ≡ inner_from k x runs inner entries rest) (sym q) (λ h. h)

    pub inner-nullable : {r : Stage} → e ≡ RunLengthNullable → r ≡ nullable_from k e runs inner → r ≡ inner_from k e runs inner entries rest
    unfolding inner_from
    inner-nullable {r} q = subst (λ (x : Encoding). r ≡ nullable_from k x runs inner → r ≡ inner_from k x runs inner entries rest) (sym q) (λ h. h)

    module _ (q : e ≡ Dictionary) where
      named : inner_from k Dictionary runs inner entries rest ≡ inner_from k e runs inner entries rest
      named = ap (λ (x : Encoding). inner_from k x runs inner entries rest) (sym q)

      pub keys-wrong : (inner ≡ 4 * runs → ⊥) → Done LENGTH ≡ inner_from k e runs inner entries rest
      unfolding inner_from
      keys-wrong z = ap (λ (t : Bool). cond t (keys_from k runs entries rest) (Done LENGTH)) (sym (ne_eqb inner (4 * runs) z)) ∙ named

      pub keys-right : {r : Stage} → inner ≡ 4 * runs → r ≡ keys_from k runs entries rest → r ≡ inner_from k e runs inner entries rest
      unfolding inner_from
      keys-right z h = h ∙ ap (λ (t : Bool). cond t (keys_from k runs entries rest) (Done LENGTH)) (sym (eq-eqb inner (4 * runs) z)) ∙ named

-- ---- before the first byte
module _ (k : Kind) (n total : ℕ) where
  pub begins-runs : (e : Encoding) → OneOf (2 ∷ 3 ∷ []) (tag_of the_type e) → {r : Stage} → r ≡ runs_from k e n total 0 total → r ≡ began_by k e n total
  unfolding began_by
  begins-runs Plain h p = absurd (miss (2 ∷ 3 ∷ []) 0 tt h)
  begins-runs Nullable h p = absurd (miss (2 ∷ 3 ∷ []) 1 tt h)
  begins-runs RunLength h p = p
  begins-runs RunLengthNullable h p = p
  begins-runs Dictionary h p = absurd (miss (2 ∷ 3 ∷ []) 4 tt h)

  module _ {e : Encoding} where
    pub begins-plain : {r : Stage} → e ≡ Plain → r ≡ plain_from k e 0 n total → r ≡ began_by k e n total
    unfolding began_by
    begins-plain {r} q = subst (λ (x : Encoding). r ≡ plain_from k x 0 n total → r ≡ began_by k x n total) (sym q) (λ h. h)

    pub begins-nullable : {r : Stage} → e ≡ Nullable → r ≡ nullable_from k e n total → r ≡ began_by k e n total
    unfolding began_by
    begins-nullable {r} q = subst (λ (x : Encoding). r ≡ nullable_from k x n total → r ≡ began_by k x n total) (sym q) (λ h. h)

    module _ (q : e ≡ Dictionary) where
      as-dictionary : began_by k Dictionary n total ≡ began_by k e n total
      as-dictionary = ap (λ (x : Encoding). began_by k x n total) (sym q)

      pub no_lengths : total < 12 → Done CUT ≡ began_by k e n total
      unfolding began_by
      no_lengths l = ap (λ (t : Bool). cond t (Done CUT) KeyLength) (sym (lt-ltb total 12 l)) ∙ as-dictionary

      pub then-length : 12 ≤ total → KeyLength ≡ began_by k e n total
      unfolding began_by
      then-length l = ap (λ (t : Bool). cond t (Done CUT) KeyLength) (sym (le-ltb total 12 l)) ∙ as-dictionary

-- ---- the limits
module _ (k : Kind) (e : Encoding) (n total : ℕ) where
  pub too_long : MOST_BYTES < total → Done LIMIT ≡ began k e n total
  unfolding began
  too_long h = simp (lt-ltb MOST_BYTES total h)

  module _ (size : total ≤ MOST_BYTES) {m : ℕ} (most : m ≡ most_rows e) where
    pub too_many : m < n → Done LIMIT ≡ began k e n total
    unfolding began
    too_many h = rw (← most) (simp (le-ltb MOST_BYTES total size, lt-ltb m n h))

    pub within : n ≤ m → {r : Stage} → r ≡ began_by k e n total → r ≡ began k e n total
    unfolding began
    within h p = p ∙ rw (← most) (simp (le-ltb MOST_BYTES total size, le-ltb m n h))
