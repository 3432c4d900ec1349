-- The loops that write: what is still to be written, laid over what is there, is the answer. Assumes nothing.
use Prim.Native.Nat.{ℕ, ◌+◌, ◌-◌, ◌*◌, ◌≤◌}
use native.Mathlib.Omega.{arith}
use mathlib.Core.List.{List, [], ◌∷◌, ◌++◌, map, append-nil, append_assoc}
use mathlib.Core.Path.{◌≡◌, refl, sym, ap, ◌∙◌}
use lib.ListN.{length, replicate, length-append}
use lib.Seq.{sets, length-sets}
use Rattle.limits.specs.Limits.{MOST_BYTES}
use Rattle.encode.specs.Bytes.{little}
use Rattle.encode.specs.declared.Kind.{Kind}
use Rattle.area.proofs.Laws.{sets-append}
use Rattle.plain.specs.Rows.{Row}
use Rattle.plain.specs.Plain.{joined, item_of, ends_from}
use Rattle.source.specs.declared.ShownRun.{ShownRun}
use Rattle.repaired.specs.Repaired.{none_yet, Entered, Ahead}
use Rattle.repaired.specs.declared.Repeated.{Repeated}
use Rattle.repaired_entries.proofs.Going.{row_of, all, fresh, Going, Kept, Grown, fresh-none, all-fresh, going_start}

-- ---- `whole` is to be laid over out₀ at a place; `left` of it is still to be laid over out
pub record Laying (out₀ : List ℕ) (at : ℕ) (whole out : List ℕ) (to : ℕ) (left : List ℕ) : Type 0 where
  pub same : sets out to left ≡ sets out₀ at whole
  pub room : to + length left ≤ length out
  pub long : length out ≡ length out₀

pub laying-start : {out : List ℕ} {at : ℕ} {whole left : List ℕ} → whole ≡ left → at + length whole ≤ length out → Laying out at whole out at left
laying-start {out} {at} e r = rw (← e) (record { same = refl; room = r; long = refl })

module _ {out₀ : List ℕ} {at : ℕ} {whole out : List ℕ} {to : ℕ} {left : List ℕ} (g : Laying out₀ at whole out to left) where
  pub laying-same : {left' : List ℕ} → left ≡ left' → Laying out₀ at whole out to left'
  laying-same e = rw (← e) g

  module _ (xs left' : List ℕ) (e : left ≡ xs ++ left') where
    pub laying-room : to + length xs ≤ length out
    laying-room = omega (arith, g.room, ap length e ∙ length-append xs left')

    pub laying-more : {to' : ℕ} {out' : List ℕ} → to' ≡ to + length xs → out' ≡ sets out to xs → Laying out₀ at whole out' to' left'
    laying-more {to'} {out'} p q =
        let k : length out' ≡ length out = ap length q ∙ length-sets out to xs in
        record {
          same = rw (p, q) (sym (sets-append xs left' out to) ∙ ap (sets out to) (sym e) ∙ g.same);
          room = omega (arith, k, p, g.room, ap length e ∙ length-append xs left');
          long = k ∙ g.long;
        }

  pub laying-end : left ≡ [] → out ≡ sets out₀ at whole
  laying-end e = rw e at g.same

-- ---- items one after another, and their ends
joined-append : {A : Type 0} (f : A → List ℕ) (xs ys : List A) → joined f (xs ++ ys) ≡ joined f xs ++ joined f ys
unfolding joined
joined-append f [] ys = refl
joined-append f (x ∷ xs) ys = rw (joined-append f xs ys, append_assoc)

joined_length : {A : Type 0} (f : A → List ℕ) (xs ys : List A) → length (joined f (xs ++ ys)) ≡ length (joined f xs) + length (joined f ys)
joined_length f xs ys = ap length (joined-append f xs ys) ∙ length-append (joined f xs) (joined f ys)

joined-one : {A : Type 0} (f : A → List ℕ) (x : A) → joined f (x ∷ []) ≡ f x
unfolding joined
joined-one f x = append-nil (f x)

abbrev pub end_bytes : (Row → List ℕ) → ℕ → List Row → List ℕ
end_bytes f from es = joined (little 4) (ends_from from (map f es))

pub length-ends : (f : Row → List ℕ) (from : ℕ) (es : List Row) → length (end_bytes f from es) ≡ 4 * length es
unfolding joined ends_from
length-ends f from [] = refl
length-ends f from (e ∷ es) =
    let l = length-ends f (from + length (f e)) es in
    rw (length-append (little 4 (from + length (f e))) (end_bytes f (from + length (f e)) es)) (omega arith)

module _ (k : Kind) (entries runs : ℕ) (counts keys items : List ℕ) (n : ℕ) (out₀ : List ℕ) (at : ℕ) where
  abbrev everything : List Row
  everything = all k entries runs counts keys items n

  abbrev to_come : List Row → ShownRun → ℕ → List Row
  to_come = fresh k entries runs counts keys items n

  abbrev Walked : List ℕ → List ℕ → ShownRun → ℕ → List Row → Type 0
  Walked = Going k entries runs counts keys items n

  abbrev item_for : ℕ → List ℕ
  item_for slot = item_of k (row_of k entries runs counts keys items n slot)

  -- ---- `write_items`
  pub record Items (out bits met : List ℕ) (to left : ℕ) (x : ShownRun) : Type 0 where
    pub es : List Row
    pub going : Walked bits met x left es
    pub laying : Laying out₀ at (joined (item_of k) everything) out to (joined (item_of k) (to_come es x left))

  pub items-start :
      Entered k entries items → Ahead runs counts none_yet n → at + length (joined (item_of k) everything) ≤ length out₀ → {x : ShownRun} → x ≡ none_yet
      → Items out₀ (replicate 8192 0) (replicate 8192 0) at n x
  items-start g f room e = rw e (record {
    es = [];
    going = going_start k entries runs counts keys items n g f;
    laying = laying-start (ap (joined (item_of k)) (all-fresh k entries runs counts keys items n)) room;
  })

  -- the same by other names
  pub items_as :
      {out bits met : List ℕ} {to left : ℕ} {x : ShownRun} → Items out bits met to left x → {out' bits' met' : List ℕ} {to' : ℕ} → out' ≡ out → bits' ≡ bits → met' ≡ met → to' ≡ to
      → Items out' bits' met' to' left x
  items_as f p q m e = rw (p, q, m, e) f

  module _ {out bits met : List ℕ} {to left : ℕ} {x : ShownRun} (f : Items out bits met to left x) {r : Repeated} {bits' met' : List ℕ} where
    pub items_kept : Kept k entries runs counts keys items n x left r f.es bits' met' → Items out bits' met' to (left - r.rows) r.rest
    items_kept h = record { es = f.es; going = h.going; laying = laying-same f.laying (ap (joined (item_of k)) h.same) }

    module _ (h : Grown k entries runs counts keys items n x left r f.es bits' met') where
      abbrev behind : List Row
      behind = to_come (f.es ++ (row_of k entries runs counts keys items n r.slot ∷ [])) r.rest (left - r.rows)

      next-item : joined (item_of k) (to_come f.es x left) ≡ item_for r.slot ++ joined (item_of k) behind
      unfolding joined
      next-item = ap (joined (item_of k)) h.grown

      pub items-room : to + length (item_for r.slot) ≤ length out
      items-room = laying-room f.laying (item_for r.slot) (joined (item_of k) behind) next-item

      pub items_more :
          {to' : ℕ} {out' : List ℕ} → to' ≡ to + length (item_for r.slot) → out' ≡ sets out to (item_for r.slot)
          → Items out' bits' met' to' (left - r.rows) r.rest
      items_more p q = record { es = _; going = h.going; laying = laying-more f.laying (item_for r.slot) (joined (item_of k) behind) next-item p q }

  pub items-end : {out bits met : List ℕ} {to left : ℕ} {x : ShownRun} (f : Items out bits met to left x) → left ≤ 0 → out ≡ sets out₀ at (joined (item_of k) everything)
  unfolding joined
  items-end f h = laying-end f.laying (ap (joined (item_of k)) (fresh-none k entries runs counts keys items n f.going h))

  -- ---- `write_ends`: the items of the entries before end at `till`
  pub record Ends (out bits met : List ℕ) (to till left : ℕ) (x : ShownRun) : Type 0 where
    pub es : List Row
    pub going : Walked bits met x left es
    pub ended : till ≡ length (joined (item_of k) es)
    pub laying : Laying out₀ at (end_bytes (item_of k) 0 everything) out to (end_bytes (item_of k) till (to_come es x left))

  pub ends-start :
      Entered k entries items → Ahead runs counts none_yet n → at + 4 * length everything ≤ length out₀ → {x : ShownRun} → x ≡ none_yet
      → Ends out₀ (replicate 8192 0) (replicate 8192 0) at 0 n x
  unfolding joined
  ends-start g f room e = rw e (record {
    es = [];
    going = going_start k entries runs counts keys items n g f;
    ended = refl;
    laying = laying-start (ap (end_bytes (item_of k) 0) (all-fresh k entries runs counts keys items n)) (omega (arith, length-ends (item_of k) 0 everything));
  })

  -- the same by other names
  pub ends_as :
      {out bits met : List ℕ} {to till left : ℕ} {x : ShownRun} → Ends out bits met to till left x → {out' bits' met' : List ℕ} {to' till' : ℕ}
      → out' ≡ out → bits' ≡ bits → met' ≡ met → to' ≡ to → till' ≡ till → Ends out' bits' met' to' till' left x
  ends_as f p q m e t = rw (p, q, m, e, t) f

  module _ {out bits met : List ℕ} {to till left : ℕ} {x : ShownRun} (f : Ends out bits met to till left x) {r : Repeated} {bits' met' : List ℕ} where
    pub ends-kept : Kept k entries runs counts keys items n x left r f.es bits' met' → Ends out bits' met' to till (left - r.rows) r.rest
    ends-kept h = record { es = f.es; going = h.going; ended = f.ended; laying = laying-same f.laying (ap (end_bytes (item_of k) till) h.same) }

    module _ (h : Grown k entries runs counts keys items n x left r f.es bits' met') {len : ℕ} (long : len ≡ length (item_for r.slot)) where
      abbrev now : List Row
      now = f.es ++ (row_of k entries runs counts keys items n r.slot ∷ [])

      abbrev after : List Row
      after = to_come now r.rest (left - r.rows)

      ended-now : till + len ≡ length (joined (item_of k) now)
      ended-now =
          let row : Row = row_of k entries runs counts keys items n r.slot in
          omega (arith, f.ended, joined_length (item_of k) f.es (row ∷ []), ap length (joined-one (item_of k) row))

      next-end : end_bytes (item_of k) till (to_come f.es x left) ≡ little 4 (till + len) ++ end_bytes (item_of k) (till + len) after
      unfolding joined ends_from
      next-end = ap (end_bytes (item_of k) till) h.grown ∙ ap (λ (l : ℕ). little 4 (till + l) ++ end_bytes (item_of k) (till + l) after) (sym long)

      pub ends-most : length (joined (item_of k) everything) ≤ MOST_BYTES → till + len ≤ MOST_BYTES
      ends-most m = omega (arith, ended-now, ap (λ (l : List Row). length (joined (item_of k) l)) h.going.whole ∙ joined_length (item_of k) now after)

      pub ends-room : to + 4 ≤ length out
      ends-room = laying-room f.laying (little 4 (till + len)) (end_bytes (item_of k) (till + len) after) next-end

      pub ends_more :
          {to' : ℕ} {out' : List ℕ} → to' ≡ to + 4 → out' ≡ sets out to (little 4 (till + len)) → Ends out' bits' met' to' (till + len) (left - r.rows) r.rest
      ends_more p q = record {
        es = _;
        going = h.going;
        ended = ended-now;
        laying = laying-more f.laying (little 4 (till + len)) (end_bytes (item_of k) (till + len) after) next-end p q;
      }

  pub ends-end : {out bits met : List ℕ} {to till left : ℕ} {x : ShownRun} (f : Ends out bits met to till left x) → left ≤ 0 → out ≡ sets out₀ at (end_bytes (item_of k) 0 everything)
  unfolding joined ends_from
  ends-end {till = till} f h = laying-end f.laying (ap (end_bytes (item_of k) till) (fresh-none k entries runs counts keys items n f.going h))
