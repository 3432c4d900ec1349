-- The tests of a block's numbers on each way through the code: what least_bytes, no_runs, runs_outside, part_outside and head_wrong answer there.
-- Assumes nothing.
use Prim.Native.Nat.{ℕ, ◌+◌, ◌*◌, ◌≤◌, ◌<◌}
use native.Mathlib.Nat.{mul-le-mul}
use native.Mathlib.Omega.{arith}
use mathlib.Core.Path.{◌≡◌, refl, sym, ap, subst, ◌∙◌}
use mathlib.Core.Bool.{Bool, true, false}
use mathlib.Core.List.{[], ◌∷◌}
use lib.Dec.{ltb, eqb}
use borrow.Author.Tests.{lt-ltb, le-ltb, eq-eqb, ne_eqb, ltb-false}
use types.Run.{OneOf, miss}
use denote.Enum.Declared.{tag_of}
use Rattle.limits.specs.Limits.{MOST_ITEMS, MOST_ENTRIES, MOST_BYTES}
use Rattle.encode.specs.declared.Kind.{Kind}
use Rattle.encode.specs.declared.Kind.TheVariants.{Fixed, Char, Blob}
use Rattle.encode.specs.declared.Primitive.{Primitive}
use Rattle.encode.specs.Kinds.{width_of}
use Rattle.plain.specs.Plain.{least_bytes}
use Rattle.plain.proofs.Numbers.{width_few}
use Rattle.nullable.specs.Nullable.{bitmap_length}
use Rattle.format.specs.declared.Encoding.{Encoding}
use Rattle.format.specs.declared.Encoding.TheVariants.{Plain, Nullable, RunLength, RunLengthNullable, Dictionary}
use Rattle.format.specs.declared.Head.{Head}
use Rattle.format.specs.contracts.Encoding.{the_type}
use Rattle.anatomy.specs.Tests.{no_runs, runs_outside, part_outside, runs_wrong, head_wrong}
use Rattle.anatomy.proofs.RightNumbers.{neither, runs-right}

-- ---- the bytes that items take at least
product-few : (n w : ℕ) → n ≤ MOST_ITEMS → w ≤ 255 → n * w ≤ 255 * MOST_ITEMS
product-few n w h g = let p : n * w ≤ MOST_ITEMS * 255 = mul-le-mul h g in omega arith

module _ (k : Kind) (n : ℕ) (few : n ≤ MOST_ITEMS) where
  pub least-fixed : (p : Primitive) → k ≡ Fixed p → {w : ℕ} → w ≡ width_of p → (n * w ≡ least_bytes k n) × (n * w ≤ 255 * MOST_ITEMS)
  unfolding least_bytes
  least-fixed p q {w} h = (ap (λ (v : ℕ). n * v) h ∙ ap (λ (j : Kind). least_bytes j n) (sym q), product-few n w few (width_few p h))

  pub least-char : (w : ℕ) → k ≡ Char w → w ≤ 255 → (n * w ≡ least_bytes k n) × (n * w ≤ 255 * MOST_ITEMS)
  unfolding least_bytes
  least-char w q h = (ap (λ (j : Kind). least_bytes j n) (sym q), product-few n w few h)

  pub least-blob : {text : Bool} → k ≡ Blob text → (4 * n ≡ least_bytes k n) × (4 * n ≤ 255 * MOST_ITEMS)
  unfolding least_bytes
  least-blob q = (ap (λ (j : Kind). least_bytes j n) (sym q), omega arith)

-- ---- no runs and no counts
pub counts-none : (h : Head) → h.runs ≡ 0 → eqb h.counts 0 ≡ no_runs h
unfolding no_runs
counts-none h e = simp (eq-eqb h.runs 0 e)

pub some_runs : (h : Head) → (h.runs ≡ 0 → ⊥) → false ≡ no_runs h
unfolding no_runs
some_runs h e = simp (ne_eqb h.runs 0 e)

-- ---- the counts and what lies behind them
module _ (len : ℕ) (h : Head) (least : ℕ) {t : Bool} (none : t ≡ no_runs h) where
  pub outside-none : t ≡ true → false ≡ runs_outside len h least
  unfolding runs_outside
  outside-none e = rw (← none, e)

  module _ (e : t ≡ false) where
    -- the counts alone are longer than the block
    pub outside-far : len ≤ MOST_BYTES → MOST_BYTES < h.counts → true ≡ runs_outside len h least
    unfolding runs_outside
    outside-far l g = rw (← none, e) (sym (lt-ltb len (8 + h.counts + least) (omega arith)))

    pub outside-sum : ltb len (8 + h.counts + least) ≡ runs_outside len h least
    unfolding runs_outside
    outside-sum = rw (← none, e)

-- ---- the head: the encodings that each arm names
pub many-runs : (h : Head) (run : ℕ) → MOST_ITEMS < h.runs → true ≡ runs_wrong h run
unfolding runs_wrong
many-runs h run e = simp (lt-ltb MOST_ITEMS h.runs e)

pub run_past : (h : Head) (run : ℕ) → h.runs ≤ MOST_ITEMS → ltb h.runs run ≡ runs_wrong h run
unfolding runs_wrong
run_past h run e = simp (le-ltb MOST_ITEMS h.runs e)

module _ (h : Head) (run : ℕ) where
  pub no-head : (e : Encoding) → OneOf (0 ∷ 1 ∷ []) (tag_of the_type e) → false ≡ head_wrong e h run
  unfolding head_wrong
  no-head Plain q = refl
  no-head Nullable q = refl
  no-head RunLength q = absurd (miss (0 ∷ 1 ∷ []) 2 tt q)
  no-head RunLengthNullable q = absurd (miss (0 ∷ 1 ∷ []) 3 tt q)
  no-head Dictionary q = absurd (miss (0 ∷ 1 ∷ []) 4 tt q)

  pub runs-head : (e : Encoding) → OneOf (2 ∷ 3 ∷ []) (tag_of the_type e) → runs_wrong h run ≡ head_wrong e h run
  unfolding head_wrong
  runs-head Plain q = absurd (miss (2 ∷ 3 ∷ []) 0 tt q)
  runs-head Nullable q = absurd (miss (2 ∷ 3 ∷ []) 1 tt q)
  runs-head RunLength q = refl
  runs-head RunLengthNullable q = refl
  runs-head Dictionary q = absurd (miss (2 ∷ 3 ∷ []) 4 tt q)

  module _ (e : Encoding) (q : e ≡ Dictionary) {t : Bool} (g : t ≡ runs_wrong h run) where
    head-keys : {x : Bool} → x ≡ head_wrong Dictionary h run → x ≡ head_wrong e h run
    head-keys {x} p = subst (λ (y : Encoding). x ≡ head_wrong y h run) (sym q) p

    pub keys-wrong : t ≡ true → true ≡ head_wrong e h run
    unfolding head_wrong
    keys-wrong s = head-keys (rw (← g, s))

    pub keys-entries : t ≡ false → ltb MOST_ENTRIES h.entries ≡ head_wrong e h run
    unfolding head_wrong
    keys-entries s = head-keys (rw (← g, s))

-- ---- a head that is right
module _ {e : Encoding} (h : Head) (right : head_wrong e h 0 ≡ false) where
  head_as : (f : Encoding) → e ≡ f → head_wrong f h 0 ≡ false
  head_as f q = subst (λ (x : Encoding). head_wrong x h 0 ≡ false) q right

  pub runs-few : e ≡ RunLength → h.runs ≤ MOST_ITEMS
  unfolding head_wrong
  runs-few q = (runs-right h 0 (head_as RunLength q)).runs

  pub null-runs-few : e ≡ RunLengthNullable → h.runs ≤ MOST_ITEMS
  unfolding head_wrong
  null-runs-few q = (runs-right h 0 (head_as RunLengthNullable q)).runs

  pub keys-few : e ≡ Dictionary → (h.runs ≤ MOST_ITEMS) × (h.entries ≤ MOST_ENTRIES)
  unfolding head_wrong
  keys-few q =
      let a = neither (runs_wrong h 0) (ltb MOST_ENTRIES h.entries) (head_as Dictionary q) in
      ((runs-right h 0 a.0).runs, ltb-false MOST_ENTRIES h.entries a.1)

  pub keys-head : e ≡ Dictionary → head_wrong Dictionary h 0 ≡ false
  keys-head q = head_as Dictionary q

-- ---- the parts of a dictionary
module _ (k : Kind) (len : ℕ) (h : Head) where
  -- the key block alone is longer than the block
  pub keys-far : len ≤ MOST_BYTES → MOST_BYTES < h.keys → true ≡ part_outside k Dictionary 0 len h
  unfolding part_outside
  keys-far l e = rw (lt-ltb len (12 + h.keys + least_bytes k h.entries) (omega arith))

  module _ {l : ℕ} (g : l ≡ least_bytes k h.entries) where
    pub entries-outside : len < 12 + h.keys + l → true ≡ part_outside k Dictionary 0 len h
    unfolding part_outside
    entries-outside e = rw (← g, lt-ltb len (12 + h.keys + l) e)

    pub key-runs-outside : 12 + h.keys + l ≤ len → {t : Bool} → t ≡ runs_outside h.keys h (4 * h.runs) → t ≡ part_outside k Dictionary 0 len h
    unfolding part_outside
    key-runs-outside e q = rw (← g, le-ltb len (12 + h.keys + l) e) q

-- ---- the parts, for the encoding that a match found
module _ (k : Kind) (e : Encoding) (n len : ℕ) (h : Head) where
  same : (f : Encoding) → e ≡ f → {t : Bool} → t ≡ part_outside k f n len h → t ≡ part_outside k e n len h
  same f q {t} p = subst (λ (x : Encoding). t ≡ part_outside k x n len h) (sym q) p

  pub plain-outside : e ≡ Plain → {l : ℕ} → l ≡ least_bytes k n → ltb len l ≡ part_outside k e n len h
  unfolding part_outside
  plain-outside q g = same Plain q (rw g)

  pub nullable-outside : e ≡ Nullable → {l m : ℕ} → l ≡ least_bytes k n → m ≡ bitmap_length n → ltb len (l + (m + 4)) ≡ part_outside k e n len h
  unfolding part_outside
  nullable-outside q g f = same Nullable q (rw (g, f))

  pub run-length-outside : e ≡ RunLength → {l : ℕ} → l ≡ least_bytes k h.runs → {t : Bool} → t ≡ runs_outside len h l → t ≡ part_outside k e n len h
  unfolding part_outside
  run-length-outside q g p = same RunLength q (rw g at p)

  pub null-runs-outside :
      e ≡ RunLengthNullable → {l m : ℕ} → l ≡ least_bytes k h.runs → m ≡ bitmap_length h.runs → {t : Bool} → t ≡ runs_outside len h (l + (m + 4))
      → t ≡ part_outside k e n len h
  unfolding part_outside
  null-runs-outside q g f p = same RunLengthNullable q (rw (g, f) at p)

  pub dictionary-outside : e ≡ Dictionary → {t : Bool} → t ≡ part_outside k Dictionary 0 len h → t ≡ part_outside k e n len h
  unfolding part_outside
  dictionary-outside q p = same Dictionary q p
