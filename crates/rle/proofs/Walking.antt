-- The walk over the counts: what its loops keep, their returns, and that a refusal is never 0. Assumes nothing.
use Rattle.std.specs.Prelude.{Option, Some, None, Result, Ok, Err}
use Prim.Native.Nat.{ℕ, zero, suc, ◌+◌, ◌-◌, ◌*◌, ◌≤◌, ◌<◌}
use native.Mathlib.Nat.{add-zero, add_assoc, zero-add}
use native.Mathlib.Omega.{arith}
use mathlib.Core.Bool.{Bool, true, false, cond}
use mathlib.Core.List.{List, [], ◌∷◌}
use mathlib.Core.Path.{◌≡◌, refl, sym, ap, subst, ◌∙◌}
use lib.Dec.{eqb}
use lib.ListN.{length, take, drop, drop_of_length-le, length-drop}
use lib.Seq.{drop-cons, drop-drop, take-length}
use borrow.Author.Tests.{eq-eqb, ne_eqb}
use Rattle.limits.specs.Refusals.{COUNTS, VARINT}
use Rattle.varint.specs.declared.Count.{Count}
use Rattle.varint.specs.Varint.{count_of, count_at, counted}
use Rattle.varint.proofs.Within.{at-within, at_small}
use Rattle.rle.specs.RunLength.{plus, walked_past, walked}
use Rattle.rle.specs.Pieces.{walked_on, Walks, first_counts}
use Rattle.rle.specs.declared.First.{First}

-- ---- a refusal's number is not 0; of a sum nothing is said
abbrev pub Told : Result ℕ ℕ → Type 0
Told (Ok t) = Unit
Told (Err e) = 0 < e

told-plus : (v : ℕ) (w : Result ℕ ℕ) → Told w → Told (plus v w)
unfolding plus
told-plus v (Ok t) h = tt
told-plus v (Err e) h = h

told-counted : (c : Option Count) (rest : ℕ → Result ℕ ℕ) → ((len : ℕ) → Told (rest len)) → Told (walked_past c rest)
unfolding walked_past
told-counted None rest h = omega arith
told-counted (Some c) rest h = go (eqb c.value 0)
  where
    go : (b : Bool) → Told (cond b (Err COUNTS) (plus c.value (rest c.len)))
    go true = omega arith
    go false = told-plus c.value (rest c.len) (h c.len)

pub walk-told : (runs : ℕ) (s : List ℕ) → Told (walked runs s)
unfolding walked
walk-told zero [] = tt
walk-told zero (b ∷ s) = omega arith
walk-told (suc runs) [] = omega arith
walk-told (suc runs) (b ∷ s) =
    told-counted (count_of (b ∷ s)) (λ len. walked runs (drop len (b ∷ s))) (λ len. walk-told runs (drop len (b ∷ s)))

-- ---- one run of the walk, from a place on
pub plus-plus : (a b : ℕ) (w : Result ℕ ℕ) → plus a (plus b w) ≡ plus (a + b) w
unfolding plus
plus-plus a b (Ok t) = rw add_assoc
plus-plus a b (Err e) = refl

pub plus-zero : (w : Result ℕ ℕ) → plus 0 w ≡ w
unfolding plus
plus-zero (Ok t) = rw zero-add
plus-zero (Err e) = refl

module _ (s : List ℕ) (at : ℕ) where
  -- out of bytes before a run
  pub used-up : (left : ℕ) → 0 < left → length s ≤ at → walked left (drop at s) ≡ Err COUNTS
  unfolding walked
  used-up zero p h = absurd (omega arith)
  used-up (suc n) p h = rw (drop_of_length-le s {i = at} h)

  step : (n : ℕ) → at < length s → walked (suc n) (drop at s) ≡ walked_past (count_at s at) (λ len. walked n (drop len (drop at s)))
  unfolding walked count_at
  step n h = rw (drop-cons s at 0 h)

  pub bad-run : (left : ℕ) → 0 < left → at < length s → None ≡ count_at s at → walked left (drop at s) ≡ Err VARINT
  unfolding walked_past
  bad-run zero p h e = absurd (omega arith)
  bad-run (suc n) p h e = step n h ∙ rw (← e)

  pub zero-run : (left v len : ℕ) → 0 < left → at < length s → counted v len ≡ count_at s at → v ≡ 0
      → walked left (drop at s) ≡ Err COUNTS
  unfolding walked_past
  zero-run zero v len p h e z = absurd (omega arith)
  zero-run (suc n) v len p h e z = step n h ∙ rw (← e) (simp (eq-eqb _ _ z))

  pub good-run : (left v len : ℕ) → 0 < left → at < length s → counted v len ≡ count_at s at → (v ≡ 0 → ⊥)
      → walked left (drop at s) ≡ plus v (walked (left - 1) (drop (at + len) s))
  unfolding walked_past
  good-run zero v len p h e z = absurd (omega arith)
  good-run (suc n) v len p h e z =
      let m : suc n - 1 ≡ n = omega arith in
      step n h ∙ rw (← e, m) (simp (ne_eqb _ _ z, drop-drop))

  left_over : at < length s → walked 0 (drop at s) ≡ Err COUNTS
  unfolding walked
  left_over h = rw (drop-cons s at 0 h)

  all-used : length s ≤ at → walked 0 (drop at s) ≡ Ok 0
  unfolding walked
  all-used h = rw (drop_of_length-le s {i = at} h)

-- ---- what the loops of `walk_few` and `walk` keep: what is added up so far, and the rest of the walk, is the whole; each byte passed adds less than 2^32
pub record Walking (s : List ℕ) (runs at total left : ℕ) : Type 0 where
  pub whole : walked runs s ≡ plus total (walked left (drop at s))
  pub within : at ≤ length s
  pub small : total ≤ 4294967296 * at

pub walking_start : (s : List ℕ) (runs : ℕ) → Walking s runs 0 0 runs
walking_start s runs = record { whole = sym (plus-zero (walked runs s)); within = omega arith; small = omega arith }

module _ {s : List ℕ} {runs at total left : ℕ} (w : Walking s runs at total left) where
  -- a walk that ends here is refused as a whole
  refused : {e : ℕ} → walked left (drop at s) ≡ Err e → Err e ≡ walked runs s
  unfolding plus
  refused h = sym (w.whole ∙ rw h)

  pub walk-over : left ≤ 0 → at < length s → Err COUNTS ≡ walked runs s
  walk-over p h = let z : left ≡ 0 = omega arith in refused (rw z (left_over s at h))

  pub walk-sum : left ≤ 0 → length s ≤ at → Ok total ≡ walked runs s
  unfolding plus
  walk-sum p h = let z : left ≡ 0 = omega arith in sym (w.whole ∙ rw (z, all-used s at h, add-zero))

  module _ (p : 0 < left) where
    pub walk-used : length s ≤ at → Err COUNTS ≡ walked runs s
    walk-used h = refused (used-up s at left p h)

    module _ (h : at < length s) {r : Option Count} (e : r ≡ count_at s at) where
      pub walk-bad : r ≡ None → Err VARINT ≡ walked runs s
      walk-bad b = refused (bad-run s at left p h (sym b ∙ e))

      module _ {v len : ℕ} (b : r ≡ counted v len) where
        pub walk-zero : v ≡ 0 → Err COUNTS ≡ walked runs s
        walk-zero z = refused (zero-run s at left v len p h (sym b ∙ e) z)

        pub walk-within : (1 ≤ len) × (at + len ≤ length s)
        walk-within = at-within s at v len (sym b ∙ e) w.within

        pub walk_step : (v ≡ 0 → ⊥) → Walking s runs (at + len) (total + v) (left - 1)
        walk_step z =
            let i = walk-within in
            let f = at_small s at v len (sym b ∙ e) in
            record {
              whole = w.whole ∙ rw (good-run s at left v len p h (sym b ∙ e) z) (plus-plus total v _);
              within = i.1;
              small = omega arith;
            }

-- ---- the first counts by themselves, whatever the counts behind them are
module _ {s : List ℕ} (n : ℕ) where
  pub few-refused : {e : ℕ} → ((k : ℕ) → Err e ≡ walked (n + k) s) → Walks s n (Err e)
  unfolding walked_on
  few-refused h = record { whole = λ k. sym (h k); within = tt }

  pub few-counted : {at total left : ℕ} → ((k : ℕ) → Walking s (n + k) at total (left + k)) → left ≤ 0 → Walks s n (Ok (first_counts total at))
  unfolding walked_on
  few-counted {at} {total} {left} w z = record { whole = λ k. whole k; within = ((w 0).within, (w 0).small) }
    where
      whole : (k : ℕ) → walked (n + k) s ≡ plus total (walked k (drop at s))
      whole k = let m : left + k ≡ k = omega arith in (w k).whole ∙ rw m

  pub few-step : {at total left : ℕ} → ((k : ℕ) → Walking s (n + k) at total (left + k)) → 0 < left → at < length s
      → {r : Option Count} → r ≡ count_at s at → {v len : ℕ} → r ≡ counted v len → (v ≡ 0 → ⊥) → (k : ℕ) → Walking s (n + k) (at + len) (total + v) (left - 1 + k)
  few-step {at} {total} {left} w p h e {v} {len} b z k =
      let m : left + k - 1 ≡ left - 1 + k = omega arith in
      rw m at (walk_step (w k) (omega arith) h e b z)

-- and the walk goes on behind them: those from a place on are lent as a part of the list
module _ {s : List ℕ} {runs at total left few : ℕ} (w : Walking s runs at total left) (h : few ≤ left) {r : Result First ℕ}
    (lent : Walks (take (length s - at) (drop at s)) few r) where
  f : Walks (drop at s) few r
  f = subst (λ (l : List ℕ). Walks l few r) (ap (λ (n : ℕ). take n (drop at s)) (sym (length-drop at s)) ∙ take-length (drop at s)) lent

  in_two : walked left (drop at s) ≡ walked_on r (λ len. walked (left - few) (drop len (drop at s)))
  in_two = let m : left ≡ few + (left - few) = omega arith in ap (λ (n : ℕ). walked n (drop at s)) m ∙ f.whole (left - few)

  pub first-refused : {e : ℕ} → r ≡ Err e → Err e ≡ walked runs s
  unfolding walked_on plus
  first-refused b = sym (w.whole ∙ rw in_two (rw b))

  pub first_counted : {rows len : ℕ} → r ≡ Ok (first_counts rows len) → Walking s runs (at + len) (total + rows) (left - few)
  unfolding walked_on
  first_counted {rows} {len} b =
      let i : (len ≤ length (drop at s)) × (rows ≤ 4294967296 * len) = rw b at f.within in
      record {
        whole = w.whole ∙ rw (in_two, b, drop-drop len at s) (plus-plus total rows (walked (left - few) (drop (at + len) s)));
        within = omega (arith, i.0, length-drop at s, w.within);
        small = omega (arith, i.1, w.small);
      }
