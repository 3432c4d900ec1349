-- All rules but 15: what they give for each encoding and at each limit, and what a block tells that meets them. Assumes nothing.
use Prim.Native.Nat.{ℕ, ◌≤◌, ◌<◌}
use native.Mathlib.Omega.{arith}
use mathlib.Core.List.{List, [], ◌∷◌}
use mathlib.Core.Path.{◌≡◌, refl, sym, ◌∙◌}
use lib.Dec.{ltb}
use lib.ListN.{length}
use borrow.Author.Tests.{lt-ltb, le-ltb, ltb-false}
use types.Run.{OneOf, miss}
use denote.Enum.Declared.{tag_of}
use Rattle.limits.specs.Limits.{MOST_ROWS, MOST_BYTES}
use Rattle.limits.specs.Refusals.{COLUMN, LIMIT}
use Rattle.encode.specs.declared.Kind.{Kind}
use Rattle.plain.specs.Rules.{◌if◌, first_of}
use Rattle.plain.proofs.Rules.{kept, whole}
use Rattle.dict.specs.Dictionary.{dictionary_rules}
use Rattle.format.specs.declared.Encoding.{Encoding}
use Rattle.format.specs.declared.Encoding.TheVariants.{Plain, Nullable, RunLength, RunLengthNullable, Dictionary}
use Rattle.std.specs.Prelude.{Some}
use Rattle.format.specs.Blocks.{column}
use Rattle.format.specs.Opening.{rules_of, most_rows, column_number}
use Rattle.format.specs.contracts.Encoding.{the_type}
use Rattle.format.proofs.Answers.{first_one}
use Rattle.format.proofs.Sound.{column-sound, but-keys}
use Rattle.damaged.specs.Damaged.{rules_but_15_in, rules_but_15}

-- any encoding but dictionary
pub other-rules : (k : Kind) (e : Encoding) (n : ℕ) (b : List ℕ) → OneOf (0 ∷ 1 ∷ 2 ∷ 3 ∷ []) (tag_of the_type e) → rules_but_15 (Some (column k e)) n b ≡ COLUMN
unfolding rules_but_15 rules_but_15_in
other-rules k Plain n b q = refl
other-rules k Nullable n b q = refl
other-rules k RunLength n b q = refl
other-rules k RunLengthNullable n b q = refl
other-rules k Dictionary n b q = absurd (miss (0 ∷ 1 ∷ 2 ∷ 3 ∷ []) 4 tt q)

-- a dictionary: the limits, and the rules within them
module _ (k : Kind) (n : ℕ) (b : List ℕ) where
  pub too_long : MOST_BYTES < length b → rules_but_15 (Some (column k Dictionary)) n b ≡ LIMIT
  unfolding rules_but_15 rules_but_15_in first_of
  too_long l = simp (lt-ltb MOST_BYTES (length b) l)

  module _ (size : length b ≤ MOST_BYTES) where
    pub too_many : MOST_ROWS < n → rules_but_15 (Some (column k Dictionary)) n b ≡ LIMIT
    unfolding rules_but_15 rules_but_15_in first_of
    too_many l = simp (le-ltb MOST_BYTES (length b) size, lt-ltb MOST_ROWS n l)

    pub within : n ≤ MOST_ROWS → rules_but_15 (Some (column k Dictionary)) n b ≡ dictionary_rules 0 k n b
    unfolding rules_but_15 rules_but_15_in first_of
    within l = simp (le-ltb MOST_BYTES (length b) size, le-ltb MOST_ROWS n l) (first_one (dictionary_rules 0 k n b))

-- ---- a block that meets them
pub record Meets (k : Kind) (n : ℕ) (b : List ℕ) : Type 0 where
  pub size : length b ≤ MOST_BYTES
  pub most : n ≤ MOST_ROWS
  pub rules : dictionary_rules 0 k n b ≡ 0

module _ (k : Kind) (n : ℕ) (b : List ℕ) where
  pub rules-met : rules_but_15 (Some (column k Dictionary)) n b ≡ 0 → Meets k n b
  unfolding rules_but_15 rules_but_15_in
  rules-met h =
      let x = kept (LIMIT if ltb MOST_BYTES (length b)) _ h in
      let y = kept (LIMIT if ltb MOST_ROWS n) _ x.1 in
      record {
        size = ltb-false _ _ (whole LIMIT _ (omega arith) x.0);
        most = ltb-false _ _ (whole LIMIT _ (omega arith) y.0);
        rules = sym (first_one (dictionary_rules 0 k n b)) ∙ y.1;
      }

  -- A sound block meets them.
  pub sound-meets : column_number (Some (column k Dictionary)) n b ≡ 0 → rules_but_15 (Some (column k Dictionary)) n b ≡ 0
  unfolding rules_of most_rows
  sound-meets h = let w = column-sound k Dictionary n b h in within k n b w.size w.most ∙ but-keys k n b w.rules
