-- Plain columns of a fixed kind, item by item: their rows, and what holds at each turn of the walk. Assumes nothing.
use Prim.Native.Nat.{ℕ, zero, suc, ◌+◌, ◌*◌, ◌≤◌, ◌<◌, ◌^◌}
use native.Mathlib.Nat.{zero-add, add-zero, mul-le-mul_right}
use native.Mathlib.Omega.{arith}
use mathlib.Core.Bool.{Bool, true, false, not}
use mathlib.Core.Logic.{⊎_elim}
use mathlib.Core.List.{List, [], ◌∷◌, ◌++◌, map, map-append}
use mathlib.Core.Path.{◌≡◌, refl, sym, ap, ◌∙◌}
use lib.ListN.{length, get_or, length-map, length-append}
use Rattle.limits.specs.Limits.{MOST_ITEMS}
use Rattle.encode.specs.declared.Primitive.{Primitive}
use Rattle.encode.specs.declared.Kind.{Kind}
use Rattle.encode.specs.declared.Kind.TheVariants.{Fixed, Char, Blob}
use Rattle.encode.specs.Kinds.{width_of, shape_of}
use Rattle.plain.specs.Rows.{int}
use Rattle.plain.specs.Plain.{places, least_bytes, fixed_at, plain_row}
use Rattle.rle.specs.Pieces.{steps_in, step_runs}
use Rattle.dict.specs.Dictionary.{entry_row}
use Rattle.encode.specs.declared.Shape.{Shape}
use Rattle.encode.proofs.Shapes.{wide_as}
use Rattle.matching.specs.Matching.{equal_at, word_at}
use Rattle.matching.proofs.Tests.{room-found, by_word}
use Rattle.source.specs.declared.Marks.{Marks}
use Rattle.source.specs.declared.Marks.TheVariants.{Bare, Bits, Keys}
use Rattle.source.specs.declared.Source.{Source}
use Rattle.source.specs.Rows.{shown_by, row_by}
use Rattle.ranges.specs.declared.Mark.{Mark}
use Rattle.ranges.specs.Recording.{mark, added, firsts_added, lasts_added, Recorded}
use Rattle.ranges.proofs.Recording.{recorded-start, recorded-added}
use Rattle.std.specs.Prelude.{Option, Some, None}
use Rattle.std.proofs.lemmas.Option.{none-some, same_Some}
use Rattle.std.proofs.lemmas.Bool.{cases_lt}
use Rattle.std.proofs.lemmas.List.{get_or_append_left, get_or_push}
use Rattle.in_step.specs.Differences.{differences}
use Rattle.in_step.specs.Walking.{rows_walked, items_walked, way_by, way_in, Walks, Tested}

-- ---- which columns these are
pub record Bared (s : Source) (p : Primitive) : Type 0 where
  pub coded : s.coded ≡ false
  pub marks : s.marks ≡ Bare
  pub kind : s.kind ≡ Fixed p

fixed-by : (k : Kind) {p : Primitive} → way_by k ≡ Some p → k ≡ Fixed p
unfolding way_by
fixed-by (Fixed r) q = ap Fixed (same_Some _ _ q)
fixed-by (Char w) q = absurd (none-some _ q)
fixed-by (Blob text) q = absurd (none-some _ q)

bared-by : (c : Bool) (m : Marks) (k : Kind) {p : Primitive} → way_in c m k ≡ Some p → (c ≡ false) × (m ≡ Bare) × (k ≡ Fixed p)
unfolding way_in
bared-by true m k q = absurd (none-some _ q)
bared-by false Bits k q = absurd (none-some _ q)
bared-by false Keys k q = absurd (none-some _ q)
bared-by false Bare k q = (refl, refl, fixed-by k q)

pub bared : (s : Source) {w : Option Primitive} {p : Primitive} → w ≡ way_in s.coded s.marks s.kind → w ≡ Some p → Bared s p
bared s e q = let b = bared-by s.coded s.marks s.kind (sym e ∙ q) in record { coded = b.0; marks = b.1; kind = b.2 }

module _ {s : Source} {p : Primitive} (b : Bared s p) {counts marks items : List ℕ} {n : ℕ} (w : Walks s counts marks items n) where
  pub items-few : n ≤ MOST_ITEMS
  items-few = omega (arith, w.inside b.coded, w.ready.few)

  pub items-there : least_bytes (Fixed p) n ≤ length items
  unfolding least_bytes
  items-there =
      let l : s.items * width_of p ≤ length items = rw b.kind at w.ready.whole in
      omega (arith, l, mul-le-mul_right (width_of p) (w.inside b.coded))

  pub items-rows : rows_walked s counts marks items n ≡ items_walked p items n
  unfolding steps_in step_runs row_by shown_by entry_row plain_row
  items-rows = rw (b.coded, b.marks, b.kind)

-- two such columns of one kind
pub as_first : {a b : Source} {p q : Primitive} → Bared a p → Bared b q → a.kind ≡ b.kind → Bared b p
as_first x y e = record { coded = y.coded; marks = y.marks; kind = sym e ∙ x.kind }

-- ---- the walk, by any test of a place: what it found of the first i of n places, and how it recorded that
module _ (Found : ℕ → Bool → Type 0) (firsts₀ lasts₀ : List ℕ) where
  pub tested-start : {m : Mark} → m ≡ mark None 0 0 → Tested Found firsts₀ lasts₀ firsts₀ lasts₀ m 0
  tested-start e = record { sames = []; long = refl; found = λ k h. absurd (omega (arith, h)); recorded = rw e (recorded-start firsts₀ lasts₀) }

module _ {Found : ℕ → Bool → Type 0} {firsts₀ lasts₀ firsts lasts : List ℕ} {m : Mark} {i : ℕ} (f : Tested Found firsts₀ lasts₀ firsts lasts m i) where
  -- what `add_one` asks, and what it leaves
  pub tested-room : (n : ℕ) → i < n → n < 2 ^ 64 → m.next + 1 < 2 ^ 64
  tested-room n h l = omega (arith, h, l, f.recorded.next, length-map f.sames not, f.long)

  found-more : {t : Bool} → Found i t → (k : ℕ) → k < i + 1 → Found k (get_or (f.sames ++ (t ∷ [])) k true)
  found-more {t} told k less = ⊎_elim before here (cases_lt k i)
    where
      before : k < i → Found k (get_or (f.sames ++ (t ∷ [])) k true)
      before b = rw (get_or_append_left f.sames (t ∷ []) true k (omega (arith, f.long, b))) (f.found k b)

      here : i ≤ k → Found k (get_or (f.sames ++ (t ∷ [])) k true)
      here b =
          let at : k ≡ i = omega arith in
          rw (get_or_push f.sames t true k (omega (arith, f.long)), at) told

  pub tested-step :
      (n : ℕ) → i < n → n < 2 ^ 64 → {t : Bool} → Found i t
      → {m' : Mark} {firsts' lasts' : List ℕ} → m' ≡ added m (not t) 1 → firsts' ≡ firsts_added m (not t) 1 firsts → lasts' ≡ lasts_added m (not t) 1 lasts
      → Tested Found firsts₀ lasts₀ firsts' lasts' m' (i + 1)
  tested-step n h l {t} told q r s =
      record {
        sames = f.sames ++ (t ∷ []);
        long = omega (arith, f.long, length-append f.sames (t ∷ []));
        found = found-more told;
        recorded = rw (map-append not f.sames (t ∷ [])) (recorded-added f.recorded (not t) 1 (tested-room n h l) (q, (r, s)));
      }

-- ---- from the test to the rows
unequal-by :
    (test : ℕ → Bool) (sames : List Bool) (i : ℕ) → ((k : ℕ) → k < length sames → get_or sames k true ≡ test (i + k))
    → map not sames ≡ map (λ (k : ℕ). not (test k)) (places (length sames) i)
unfolding places
unequal-by test [] i h = refl
unequal-by test (t ∷ ts) i h =
    let here : t ≡ test i = rw add-zero at (h 0 (omega arith)) in
    let behind : (k : ℕ) → k < length ts → get_or ts k true ≡ test (suc i + k) = λ k l. (let e : i + suc k ≡ suc i + k = omega arith in rw e at (h (suc k) (omega arith))) in
    rw (here, unequal-by test ts (suc i) behind)

module _ (p : Primitive) (a b : List ℕ) where
  differing : (n i : ℕ) → differences (map (λ (k : ℕ). int (fixed_at p a k)) (places n i)) (map (λ (k : ℕ). int (fixed_at p b k)) (places n i)) ≡ map (λ (k : ℕ). not (equal_at p a b k)) (places n i)
  unfolding differences places equal_at
  differing zero i = refl
  differing (suc n) i = ap (λ (l : List Bool). not (equal_at p a b i) ∷ l) (differing n (suc i))

  pub tested-rows :
      {Found : ℕ → Bool → Type 0} {n : ℕ} → ((k : ℕ) (t : Bool) → k < n → Found k t → t ≡ equal_at p a b k)
      → {m : Mark} {firsts₀ lasts₀ firsts lasts : List ℕ} → Tested Found firsts₀ lasts₀ firsts lasts m n
      → Recorded (differences (items_walked p a n) (items_walked p b n)) m firsts₀ lasts₀ firsts lasts
  tested-rows h f =
      let told : (k : ℕ) → k < length f.sames → get_or f.sames k true ≡ equal_at p a b (0 + k) =
      λ k l. (rw zero-add (h k (get_or f.sames k true) (omega (arith, l, f.long)) (f.found k (omega (arith, l, f.long))))) in
      let e = unequal-by (equal_at p a b) f.sames 0 told in
      rw (differing _ 0, ← f.long, ← e) f.recorded

-- ---- the arms of `walk_items`, by the shape that was found
module _ (p : Primitive) (w : ℕ) {s : Shape} (shape : shape_of p ≡ s) (wide : wide_as s ≡ w) where
  wide-found : width_of p ≡ w
  wide-found = ap wide_as shape ∙ wide

  module _ (n : ℕ) (a b : List ℕ) where
    pub words-asked :
        n ≤ MOST_ITEMS → least_bytes (Fixed p) n ≤ length a → least_bytes (Fixed p) n ≤ length b → (n ≤ MOST_ITEMS) × (n * w ≤ length a) × (n * w ≤ length b)
    words-asked f x y = (f, room-found p n (length a) w wide-found x, room-found p n (length b) w wide-found y)

    pub words-told :
        1 < w → ((j : ℕ) → get_or a j 0 < 256) → ((j : ℕ) → get_or b j 0 < 256)
        → least_bytes (Fixed p) n ≤ length a → least_bytes (Fixed p) n ≤ length b
        → {m : Mark} {firsts₀ lasts₀ firsts lasts : List ℕ} → Tested (λ k t. t ≡ word_at w a b k) firsts₀ lasts₀ firsts lasts m n
        → Recorded (differences (items_walked p a n) (items_walked p b n)) m firsts₀ lasts₀ firsts lasts
    words-told l fa fb x y f = tested-rows p a b (λ k t h e. e ∙ by_word p a b fa fb x y w wide-found l k h) f
