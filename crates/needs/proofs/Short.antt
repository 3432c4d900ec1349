-- Lent areas that are below the need of what is counted, and areas that are not. Assumes nothing.
use Prim.Native.Nat.{ℕ, ◌≤◌, ◌<◌}
use mathlib.Core.Path.{◌≡◌, refl, sym, ap, ◌∙◌}
use mathlib.Core.Bool.{Bool, true, false, ◌&&◌, ◌||◌}
use lib.Dec.{ltb}
use borrow.Author.Tests.{lt-ltb, le-ltb, ltb-false}
use Rattle.encode.specs.declared.Kind.{Kind}
use Rattle.encode.specs.declared.Kind.TheVariants.{Fixed, Char, Blob}
use Rattle.encode.specs.declared.Primitive.{Primitive}
use Rattle.nullable.specs.Nullable.{bitmap_length}
use Rattle.format.specs.declared.Encoding.{Encoding}
use Rattle.format.specs.declared.Encoding.TheVariants.{Dictionary}
use Rattle.encode.proofs.Bools.{or-first, or-then, or-none, neither, and_then, and-not}
use Rattle.needs.specs.declared.Counted.{Counted}
use Rattle.needs.specs.declared.Room.{Room}
use Rattle.needs.specs.Needs.{coded, flagged, keyed, stored_by}
use Rattle.needs.specs.Needs.{fields_short, runs_short, too_short}
use Rattle.needs.specs.Tests.{rows_by, runs_by, inner_short}

module _ (k : Kind) (n : ℕ) (m : Room) where
  pub fixed-fits : (p : Primitive) → k ≡ Fixed p → false ≡ fields_short k n m
  unfolding fields_short
  fixed-fits p q = ap (λ (j : Kind). fields_short j n m) (sym q)

  pub lens-short : (w : ℕ) → k ≡ Char w → ltb m.lens n ≡ fields_short k n m
  unfolding fields_short
  lens-short w q = ap (λ (j : Kind). fields_short j n m) (sym q)

  pub ends-short : {text : Bool} → k ≡ Blob text → ltb m.ends n ≡ fields_short k n m
  unfolding fields_short
  ends-short q = ap (λ (j : Kind). fields_short j n m) (sym q)

-- ---- needs
module _ (k : Kind) (f : Bool) (n len : ℕ) (m : Room) where
  pub inner-items : m.items < len → true ≡ inner_short k f n len m
  unfolding inner_short
  inner-items h = or-first _ (sym (or-first _ (lt-ltb m.items len h)))

  module _ (h : len ≤ m.items) {x : Bool} (q : x ≡ fields_short k n m) where
    pub inner-fields : x ≡ true → true ≡ inner_short k f n len m
    unfolding inner_short
    inner-fields t = or-first _ (sym (or-then (le-ltb m.items len h) (sym (sym q ∙ t))))

    pub inner-flags : x ≡ false → f ≡ true → {b : ℕ} → b ≡ bitmap_length n → ltb m.flags b ≡ inner_short k f n len m
    unfolding inner_short
    inner-flags t u p = or-then (or-none (le-ltb m.items len h) (sym q ∙ t)) (ap (ltb m.flags) p ∙ and_then {x = true} _ (sym u) refl)

    pub inner-fits : x ≡ false → f ≡ false → false ≡ inner_short k f n len m
    unfolding inner_short
    inner-fits t u = or-then (or-none (le-ltb m.items len h) (sym q ∙ t)) (and-not {x = false} _ (sym u) refl)

or-false : (a : Bool) {b : Bool} → b ≡ false → a ≡ (a || b)
or-false true h = refl
or-false false h = sym h

module _ (k : Kind) (e : Encoding) (r : Counted) (m : Room) {n : ℕ} (o : n ≡ stored_by e r) {f : Bool} (g : f ≡ flagged e)
    {x : Bool} (q : x ≡ inner_short k f n r.bytes m) where
  inner-test : x ≡ inner_short k (flagged e) (stored_by e r) r.bytes m
  inner-test = q ∙ ap (λ (b : Bool). inner_short k b n r.bytes m) g ∙ ap (λ (i : ℕ). inner_short k (flagged e) i r.bytes m) o

  pub short-inner : x ≡ true → true ≡ too_short k e r m
  unfolding too_short inner_short
  short-inner t = or-first _ (sym inner-test ∙ t)

  pub short-runs : x ≡ false → {z : Bool} → z ≡ runs_short e r m → z ≡ too_short k e r m
  unfolding too_short inner_short
  short-runs t p = or-then (sym inner-test ∙ t) p

  pub short-rows : runs_short e r m ≡ false → x ≡ too_short k e r m
  unfolding too_short inner_short
  short-rows h = inner-test ∙ or-false _ h

pub rows_none : (f : Bool) (r : Counted) (m : Room) → runs_short (rows_by f) r m ≡ false
unfolding runs_short coded keyed
rows_none true r m = refl
rows_none false r m = refl

pub runs-counts : (f : Bool) (r : Counted) (m : Room) → ltb m.counts r.runs ≡ runs_short (runs_by f) r m
unfolding runs_short coded keyed
runs-counts true r m = or-false _ refl
runs-counts false r m = or-false _ refl

module _ (r : Counted) (m : Room) where
  pub keys-counts : m.counts < r.runs → true ≡ runs_short Dictionary r m
  unfolding runs_short coded keyed
  keys-counts h = or-first _ (lt-ltb m.counts r.runs h)

  pub keys-keys : r.runs ≤ m.counts → ltb m.keys r.runs ≡ runs_short Dictionary r m
  unfolding runs_short coded keyed
  keys-keys h = or-then (le-ltb m.counts r.runs h) refl

-- ---- no area is short
pub record Fitting (k : Kind) (e : Encoding) (r : Counted) (m : Room) : Type 0 where
  pub items : r.bytes ≤ m.items
  pub fields : fields_short k (stored_by e r) m ≡ false
  pub flags : flagged e ≡ true → bitmap_length (stored_by e r) ≤ m.flags
  pub counts : coded e ≡ true → r.runs ≤ m.counts
  pub keys : keyed e ≡ true → r.runs ≤ m.keys

under : {a b : Bool} → (a && b) ≡ false → a ≡ true → b ≡ false
under {a} {b} h t = and_then {x = true} b (sym t) refl ∙ h

pub fitting : (k : Kind) (e : Encoding) (r : Counted) (m : Room) → too_short k e r m ≡ false → Fitting k e r m
unfolding too_short runs_short
fitting k e r m h =
    let a = neither (ltb m.items r.bytes || fields_short k (stored_by e r) m || flagged e && ltb m.flags (bitmap_length (stored_by e r))) (runs_short e r m) h in
    let b = neither (ltb m.items r.bytes || fields_short k (stored_by e r) m) (flagged e && ltb m.flags (bitmap_length (stored_by e r))) a.0 in
    let c = neither (ltb m.items r.bytes) (fields_short k (stored_by e r) m) b.0 in
    let d = neither (coded e && ltb m.counts r.runs) (keyed e && ltb m.keys r.runs) a.1 in
    record {
      items = ltb-false m.items r.bytes c.0;
      fields = c.1;
      flags = λ t. ltb-false m.flags (bitmap_length (stored_by e r)) (under b.1 t);
      counts = λ t. ltb-false m.counts r.runs (under d.0 t);
      keys = λ t. ltb-false m.keys r.runs (under d.1 t);
    }
