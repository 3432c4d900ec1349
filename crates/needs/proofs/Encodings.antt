-- Which encodings are coded by runs, flagged and keyed, by the arms that name them; those of rows, of runs and of keys. Assumes nothing.
use mathlib.Core.Path.{◌≡◌, refl, sym, ap, subst, ◌∙◌}
use mathlib.Core.Bool.{Bool, true, false, cond}
use mathlib.Core.List.{[], ◌∷◌}
use types.Run.{OneOf, miss}
use denote.Enum.Declared.{tag_of}
use Rattle.format.specs.declared.Encoding.{Encoding}
use Rattle.format.specs.declared.Encoding.TheVariants.{Plain, Nullable, RunLength, RunLengthNullable, Dictionary}
use Rattle.format.specs.contracts.Encoding.{the_type}
use Rattle.needs.specs.declared.Counted.{Counted}
use Rattle.needs.specs.Needs.{coded, flagged, keyed, stored_by}
use Rattle.needs.specs.Tests.{rows_by, runs_by}

-- ---- tests in a row, and a test under another
pub cond-then : {A : Type 0} {x a : Bool} (p q : A) → x ≡ a → x ≡ true → p ≡ cond a p q
cond-then p q h t = subst (λ (y : Bool). p ≡ cond y p q) (sym t ∙ h) refl

pub cond-else : {A : Type 0} {x a : Bool} (p q : A) → x ≡ a → x ≡ false → q ≡ cond a p q
cond-else p q h t = subst (λ (y : Bool). q ≡ cond y p q) (sym t ∙ h) refl

-- ---- the encodings that each arm names
pub coded-not : (e : Encoding) → OneOf (0 ∷ 1 ∷ []) (tag_of the_type e) → false ≡ coded e
unfolding coded
coded-not Plain h = refl
coded-not Nullable h = refl
coded-not RunLength h = absurd (miss (0 ∷ 1 ∷ []) 2 tt h)
coded-not RunLengthNullable h = absurd (miss (0 ∷ 1 ∷ []) 3 tt h)
coded-not Dictionary h = absurd (miss (0 ∷ 1 ∷ []) 4 tt h)

pub coded_so : (e : Encoding) → OneOf (2 ∷ 3 ∷ 4 ∷ []) (tag_of the_type e) → true ≡ coded e
unfolding coded
coded_so Plain h = absurd (miss (2 ∷ 3 ∷ 4 ∷ []) 0 tt h)
coded_so Nullable h = absurd (miss (2 ∷ 3 ∷ 4 ∷ []) 1 tt h)
coded_so RunLength h = refl
coded_so RunLengthNullable h = refl
coded_so Dictionary h = refl

pub flagged-so : (e : Encoding) → OneOf (1 ∷ 3 ∷ []) (tag_of the_type e) → true ≡ flagged e
unfolding flagged
flagged-so Plain h = absurd (miss (1 ∷ 3 ∷ []) 0 tt h)
flagged-so Nullable h = refl
flagged-so RunLength h = absurd (miss (1 ∷ 3 ∷ []) 2 tt h)
flagged-so RunLengthNullable h = refl
flagged-so Dictionary h = absurd (miss (1 ∷ 3 ∷ []) 4 tt h)

pub flagged-not : (e : Encoding) → OneOf (0 ∷ 2 ∷ 4 ∷ []) (tag_of the_type e) → false ≡ flagged e
unfolding flagged
flagged-not Plain h = refl
flagged-not Nullable h = absurd (miss (0 ∷ 2 ∷ 4 ∷ []) 1 tt h)
flagged-not RunLength h = refl
flagged-not RunLengthNullable h = absurd (miss (0 ∷ 2 ∷ 4 ∷ []) 3 tt h)
flagged-not Dictionary h = refl

pub keyed-so : (e : Encoding) → e ≡ Dictionary → true ≡ keyed e
unfolding keyed
keyed-so e q = subst (λ (x : Encoding). true ≡ keyed x) (sym q) refl

pub keyed-not : (e : Encoding) → OneOf (0 ∷ 1 ∷ 2 ∷ 3 ∷ []) (tag_of the_type e) → false ≡ keyed e
unfolding keyed
keyed-not Plain h = refl
keyed-not Nullable h = refl
keyed-not RunLength h = refl
keyed-not RunLengthNullable h = refl
keyed-not Dictionary h = absurd (miss (0 ∷ 1 ∷ 2 ∷ 3 ∷ []) 4 tt h)

module _ (e : Encoding) (r : Counted) where
  pub stored-rows : OneOf (0 ∷ 1 ∷ []) (tag_of the_type e) → r.rows ≡ stored_by e r
  unfolding stored_by keyed coded
  stored-rows h = go e h
    where
      go : (e : Encoding) → OneOf (0 ∷ 1 ∷ []) (tag_of the_type e) → r.rows ≡ stored_by e r
      go Plain h = refl
      go Nullable h = refl
      go RunLength h = absurd (miss (0 ∷ 1 ∷ []) 2 tt h)
      go RunLengthNullable h = absurd (miss (0 ∷ 1 ∷ []) 3 tt h)
      go Dictionary h = absurd (miss (0 ∷ 1 ∷ []) 4 tt h)

  pub stored-runs : OneOf (2 ∷ 3 ∷ []) (tag_of the_type e) → r.runs ≡ stored_by e r
  unfolding stored_by keyed coded
  stored-runs h = go e h
    where
      go : (e : Encoding) → OneOf (2 ∷ 3 ∷ []) (tag_of the_type e) → r.runs ≡ stored_by e r
      go Plain h = absurd (miss (2 ∷ 3 ∷ []) 0 tt h)
      go Nullable h = absurd (miss (2 ∷ 3 ∷ []) 1 tt h)
      go RunLength h = refl
      go RunLengthNullable h = refl
      go Dictionary h = absurd (miss (2 ∷ 3 ∷ []) 4 tt h)

  pub stored-entries : e ≡ Dictionary → r.entries ≡ stored_by e r
  unfolding stored_by keyed coded
  stored-entries q = subst (λ (x : Encoding). r.entries ≡ stored_by x r) (sym q) refl

pub coded-runs : (e : Encoding) → OneOf (2 ∷ 3 ∷ []) (tag_of the_type e) → coded e ≡ true
unfolding coded
coded-runs Plain h = absurd (miss (2 ∷ 3 ∷ []) 0 tt h)
coded-runs Nullable h = absurd (miss (2 ∷ 3 ∷ []) 1 tt h)
coded-runs RunLength h = refl
coded-runs RunLengthNullable h = refl
coded-runs Dictionary h = refl

pub coded-keys : (e : Encoding) → e ≡ Dictionary → coded e ≡ true
unfolding coded
coded-keys e q = subst (λ (x : Encoding). coded x ≡ true) (sym q) refl

pub keyed-coded : (e : Encoding) → keyed e ≡ true → coded e ≡ true
unfolding keyed coded
keyed-coded Plain h = h
keyed-coded Nullable h = h
keyed-coded RunLength h = refl
keyed-coded RunLengthNullable h = refl
keyed-coded Dictionary h = refl

-- ---- rows, runs and keys
pub rows-coded : (f : Bool) → coded (rows_by f) ≡ false
unfolding coded
rows-coded true = refl
rows-coded false = refl

pub runs-coded : (f : Bool) → coded (runs_by f) ≡ true
unfolding coded
runs-coded true = refl
runs-coded false = refl

pub rows-keyed : (f : Bool) → keyed (rows_by f) ≡ false
unfolding keyed
rows-keyed true = refl
rows-keyed false = refl

pub runs-keyed : (f : Bool) → keyed (runs_by f) ≡ false
unfolding keyed
runs-keyed true = refl
runs-keyed false = refl

pub rows-flagged : (f : Bool) → f ≡ flagged (rows_by f)
unfolding flagged
rows-flagged true = refl
rows-flagged false = refl

pub runs-flagged : (f : Bool) → f ≡ flagged (runs_by f)
unfolding flagged
runs-flagged true = refl
runs-flagged false = refl

pub rows-stored : (f : Bool) (r : Counted) → r.rows ≡ stored_by (rows_by f) r
unfolding stored_by keyed coded
rows-stored true r = refl
rows-stored false r = refl

pub runs-stored : (f : Bool) (r : Counted) → r.runs ≡ stored_by (runs_by f) r
unfolding stored_by keyed coded
runs-stored true r = refl
runs-stored false r = refl

pub keys-coded : coded Dictionary ≡ true
unfolding coded
keys-coded = refl

pub keys-keyed : keyed Dictionary ≡ true
unfolding keyed
keys-keyed = refl

pub keys-stored : (r : Counted) → r.entries ≡ stored_by Dictionary r
keys-stored r = stored-entries Dictionary r refl

pub rows_told : (e : Encoding) → OneOf (0 ∷ 1 ∷ []) (tag_of the_type e) → {x : Bool} → x ≡ flagged e → e ≡ rows_by x
unfolding flagged
rows_told Plain h q = sym (ap (λ (b : Bool). rows_by b) q)
rows_told Nullable h q = sym (ap (λ (b : Bool). rows_by b) q)
rows_told RunLength h q = absurd (miss (0 ∷ 1 ∷ []) 2 tt h)
rows_told RunLengthNullable h q = absurd (miss (0 ∷ 1 ∷ []) 3 tt h)
rows_told Dictionary h q = absurd (miss (0 ∷ 1 ∷ []) 4 tt h)

pub runs-told : (e : Encoding) → OneOf (2 ∷ 3 ∷ []) (tag_of the_type e) → {x : Bool} → x ≡ flagged e → e ≡ runs_by x
unfolding flagged
runs-told Plain h q = absurd (miss (2 ∷ 3 ∷ []) 0 tt h)
runs-told Nullable h q = absurd (miss (2 ∷ 3 ∷ []) 1 tt h)
runs-told RunLength h q = sym (ap (λ (b : Bool). runs_by b) q)
runs-told RunLengthNullable h q = sym (ap (λ (b : Bool). runs_by b) q)
runs-told Dictionary h q = absurd (miss (2 ∷ 3 ∷ []) 4 tt h)

-- what is known of the encoding that an arm names
pub told : {A : Type 0} (f : Encoding → A) {e g : Encoding} → e ≡ g → {x : A} → x ≡ f g → x ≡ f e
told f q h = h ∙ sym (ap f q)

pub coded_by : {e g : Encoding} → coded g ≡ true → e ≡ g → coded e ≡ true
coded_by h q = ap coded q ∙ h

pub keys-flagged : false ≡ flagged Dictionary
unfolding flagged
keys-flagged = refl
