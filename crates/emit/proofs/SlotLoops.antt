-- The loops over the slots: what each keeps true, and that it ends in what its contract says. Assumes nothing.
use Prim.Native.Nat.{ℕ, suc, ◌+◌, ◌-◌, ◌*◌, ◌≤◌, ◌<◌}
use native.Mathlib.Nat.{add-zero}
use native.Mathlib.Numerals.{add-one}
use native.Mathlib.Omega.{arith}
use mathlib.Core.Path.{◌≡◌, refl, sym, ap, ◌∙◌}
use mathlib.Core.List.{List, [], ◌++◌}
use lib.ListN.{length, take, drop, get_or, length-append}
use lib.Seq.{sets, length-sets, drop-cons}
use Rattle.area.proofs.Laws.{sets-append}
use Rattle.limits.specs.Limits.{MOST_ITEMS}
use Rattle.varint.specs.Varint.{spelling}
use Rattle.plain.specs.Plain.{joined}
use Rattle.emit.specs.Parts.{held_counts}
use Rattle.emit.proofs.Lengths.{spelling-most}

-- the bytes of the slots from i on, up to n
abbrev pub rest : {A : Type 0} → (A → List ℕ) → List A → ℕ → ℕ → List ℕ
rest f xs n i = joined f (take (n - i) (drop i xs))

module _ {A : Type 0} (f : A → List ℕ) (xs : List A) (n : ℕ) where
  rest-first : rest f xs n 0 ≡ joined f (take n xs)
  rest-first = let m : n - 0 ≡ n = omega arith in rw m

  rest-next : (i : ℕ) (d : A) → i < n → n ≤ length xs → rest f xs n i ≡ f (get_or xs i d) ++ rest f xs n (i + 1)
  unfolding joined
  rest-next i d h l = let m : n - i ≡ suc (n - (i + 1)) = omega arith in rw (m, drop-cons xs i d (omega arith), add-one)

  rest-none : (i : ℕ) → n ≤ i → rest f xs n i ≡ []
  unfolding joined
  rest-none i h = let m : n - i ≡ 0 = omega arith in rw m

-- ---- `write_ends`, `write_counts`, `write_keys`: what is still to be written, laid over what is there, is the answer
pub record Laying (A : Type 0) (f : A → List ℕ) (xs : List A) (n : ℕ) (out₀ : List ℕ) (at : ℕ) (out : List ℕ) (to i : ℕ) : Type 0 where
  pub same : sets out to (rest f xs n i) ≡ sets out₀ at (joined f (take n xs))
  pub ends : to + length (rest f xs n i) ≡ at + length (joined f (take n xs))
  pub hi : i ≤ n
  pub room : at + length (joined f (take n xs)) ≤ length out
  pub long : length out ≡ length out₀

module _ {A : Type 0} (f : A → List ℕ) where
  pub laying-start : (xs : List A) (n : ℕ) (out : List ℕ) (at : ℕ) → at + length (joined f (take n xs)) ≤ length out → Laying A f xs n out at out at 0
  laying-start xs n out at r = record {
    same = ap (sets out at) (rest-first f xs n);
    ends = ap (λ (l : List ℕ). at + length l) (rest-first f xs n);
    hi = omega arith;
    room = r;
    long = refl;
  }

  module _ {xs : List A} {n : ℕ} {out₀ : List ℕ} {at : ℕ} {out : List ℕ} {to i : ℕ} (g : Laying A f xs n out₀ at out to i) where
    module _ (d : A) (h : i < n) (l : n ≤ length xs) where
      next-length : length (rest f xs n i) ≡ length (f (get_or xs i d)) + length (rest f xs n (i + 1))
      next-length = ap length (rest-next f xs n i d h l) ∙ length-append (f (get_or xs i d)) (rest f xs n (i + 1))

      pub laying-room : to + length (f (get_or xs i d)) ≤ length out
      laying-room = omega (arith, next-length, g.ends, g.room)

      pub laying-step :
          {out' : List ℕ} {to' : ℕ} → to' ≡ to + length (f (get_or xs i d)) → out' ≡ sets out to (f (get_or xs i d))
          → Laying A f xs n out₀ at out' to' (i + 1)
      laying-step {out'} p q =
          let k : length out' ≡ length out = ap length q ∙ length-sets out to (f (get_or xs i d)) in
          record {
            same = rw (p, q) (rw (rest-next f xs n i d h l, sets-append (f (get_or xs i d)) (rest f xs n (i + 1)) out to) at g.same);
            ends = omega (arith, p, next-length, g.ends);
            hi = omega arith;
            room = omega (arith, k, g.room);
            long = k ∙ g.long;
          }

    pub laying-end : n ≤ i → (to ≡ at + length (joined f (take n xs))) × (out ≡ sets out₀ at (joined f (take n xs)))
    laying-end h = (
      sym (add-zero to) ∙ ap (λ (l : List ℕ). to + length l) (sym (rest-none f xs n i h)) ∙ g.ends,
      ap (sets out to) (sym (rest-none f xs n i h)) ∙ g.same,
    )

-- ---- `counts_len`
pub record Measuring (counts : List ℕ) (n len i : ℕ) : Type 0 where
  pub whole : len + length (rest spelling counts n i) ≡ length (held_counts n counts)
  pub small : len ≤ 5 * i
  pub hi : i ≤ n

pub measuring-start : (counts : List ℕ) (n : ℕ) → Measuring counts n 0 0
unfolding held_counts
measuring-start counts n = record { whole = omega (arith, ap length (rest-first spelling counts n)); small = omega arith; hi = omega arith }

module _ {counts : List ℕ} {n len i : ℕ} (g : Measuring counts n len i) where
  pub measuring-step : i < n → n ≤ length counts → (s : ℕ) → s ≡ length (spelling (get_or counts i 0)) → Measuring counts n (len + s) (i + 1)
  measuring-step h l s p =
      let q : length (rest spelling counts n i) ≡ length (spelling (get_or counts i 0)) + length (rest spelling counts n (i + 1))
      = ap length (rest-next spelling counts n i 0 h l) ∙ length-append (spelling (get_or counts i 0)) (rest spelling counts n (i + 1)) in
      record {
        whole = omega (arith, q, p, g.whole);
        small = omega (arith, p, g.small, spelling-most (get_or counts i 0));
        hi = omega arith;
      }

  pub measuring-end : n ≤ i → n ≤ MOST_ITEMS → (len ≡ length (held_counts n counts)) × (len ≤ 5 * MOST_ITEMS)
  measuring-end h b = (omega (arith, ap length (rest-none spelling counts n i h), g.whole), omega (arith, g.small, g.hi))
