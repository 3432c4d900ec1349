-- Run counts: a list of counts as the layout says is one that the walk over its bytes adds up, and the other way round. Assumes nothing.
use Rattle.std.specs.Prelude.{Option, Some, None, Result, Ok, Err}
use Prim.Native.Nat.{ℕ, zero, suc, ◌+◌, ◌-◌, ◌*◌, ◌^◌}
use native.Mathlib.Nat.{zero-add}
use native.Mathlib.Omega.{arith}
use mathlib.Core.Bool.{Bool, true, false, cond}
use mathlib.Core.List.{List, [], ◌∷◌, ◌++◌, append-nil}
use mathlib.Core.Path.{◌≡◌, refl, sym, ap, ◌∙◌}
use lib.Dec.{ltb, eqb}
use lib.ListN.{length, take, drop, take-append-drop}
use lib.Seq.{take-length, drop-append_seam, length-take-le}
use borrow.Author.Tests.{eqb-false}
use Rattle.limits.specs.Refusals.{COUNTS}
use Rattle.varint.specs.declared.Count.{Count}
use Rattle.varint.specs.Varint.{more, count_within, in_32_bits, count_of, count_at, counted}
use Rattle.varint.proofs.Within.{count-within}
use Rattle.plain.specs.Plain.{joined}
use Rattle.rle.specs.RunLength.{plus, walked_past, walked}
use Rattle.rle.proofs.Walking.{good-run}
use Rattle.plain.specs.Each.{Each}
use Rattle.soundness_laws.specs.Sound.{Written, values, written, RunCount, total}

-- ---- a count is read from its own bytes: those behind it don't matter
abbrev bytes-read : Option Count → ℕ
bytes-read (Some c) = c.len
bytes-read None = 0

module _ (rest : List ℕ) where
  abbrev Own : ℕ → List ℕ → Type 0
  Own k s = (v n : ℕ) → count_within k s ≡ counted v n → count_within k (take n s ++ rest) ≡ counted v n

  -- a number that came of one byte more has one byte more
  one-longer : (low w m v n : ℕ) → more low (counted w m) ≡ counted v n → n ≡ suc m
  unfolding more
  one-longer low w m v n q = go (eqb w 0) q
    where
      go : (t : Bool) → cond t None (counted (low + 128 * w) (m + 1)) ≡ counted v n → n ≡ suc m
      go true p = let z : ◌≡◌ {A = ℕ} 0 1 = cc in absurd (omega arith)
      go false p = let a : m + 1 ≡ n = ap bytes-read p in omega arith

  own-more : (k b : ℕ) (s : List ℕ) → Own k s → ltb b 128 ≡ false → (c : Option Count) → count_within k s ≡ c
      → (v n : ℕ) → more (b - 128) c ≡ counted v n → count_within (suc k) (take n (b ∷ s) ++ rest) ≡ counted v n
  unfolding count_within more
  own-more k b s own e (Some c) f v n q =
      let l : n ≡ suc c.len = one-longer (b - 128) c.value c.len v n q in
      rw l (simp e (ap (more (b - 128)) (own c.value c.len f) ∙ q ∙ ap (counted v) l))
  own-more k b s own e None f v n q = let z : ◌≡◌ {A = ℕ} 0 1 = cc in absurd (omega arith)

  own : (k : ℕ) (s : List ℕ) → Own k s
  unfolding count_within
  own zero s v n q = let z : ◌≡◌ {A = ℕ} 0 1 = cc in absurd (omega arith)
  own (suc k) [] v n q = let z : ◌≡◌ {A = ℕ} 0 1 = cc in absurd (omega arith)
  own (suc k) (b ∷ s) v n q = go (own k s) (ltb b 128) refl q
    where
      go : Own k s → (t : Bool) → ltb b 128 ≡ t → cond t (counted b 1) (more (b - 128) (count_within k s)) ≡ counted v n
          → count_within (suc k) (take n (b ∷ s) ++ rest) ≡ counted v n
      go h true e p = let m : n ≡ 1 = sym (ap bytes-read p) in rw m (simp e (p ∙ ap (counted v) m))
      go h false e p = own-more k b s h e (count_within k s) refl v n p

as_before : (c : Option Count) (v n : ℕ) → in_32_bits c ≡ counted v n → c ≡ counted v n
unfolding in_32_bits
as_before (Some c) v n q = go (ltb c.value (2 ^ 32)) q
  where
    go : (t : Bool) → cond t (counted c.value c.len) None ≡ counted v n → counted c.value c.len ≡ counted v n
    go true p = p
    go false p = let z : ◌≡◌ {A = ℕ} 0 1 = cc in absurd (omega arith)
as_before None v n q = q

read-own : (s rest : List ℕ) (v n : ℕ) → count_of s ≡ counted v n → count_of (take n s ++ rest) ≡ counted v n
unfolding count_of
read-own s rest v n q =
    let e = as_before (count_within 5 s) v n q in
    ap in_32_bits (own rest 5 s v n e ∙ sym e) ∙ q

-- ---- counts one after another are walked, and add up
module _ (w : Written) (c : RunCount w) (rest : List ℕ) where
  read_first : count_of (w.bytes ++ rest) ≡ counted w.value (length w.bytes)
  read_first =
      ap (λ (l : List ℕ). count_of (l ++ rest)) (sym (take-length w.bytes))
      ∙ read-own w.bytes rest w.value (length w.bytes) c.0

  -- the walk adds the first count to what the rest comes to
  walk_first : (n : ℕ) → walked (suc n) (w.bytes ++ rest) ≡ plus w.value (walked n rest)
  unfolding count_at
  walk_first n =
      let b : List ℕ = w.bytes ++ rest in
      let some = count-within b w.value (length w.bytes) (sym read_first) in
      let m : suc n - 1 ≡ n = omega arith in
      good-run b 0 (suc n) w.value (length w.bytes) (omega arith) (omega arith) (sym read_first) (λ z. omega (arith, c.1))
      ∙ rw (m, zero-add (length w.bytes), drop-append_seam w.bytes rest)

pub counts-walk : (counts : List Written) → Each RunCount counts → walked (length counts) (written counts) ≡ Ok (total (values counts))
unfolding joined plus total
counts-walk [] h = unfold walked in refl
counts-walk (w ∷ counts) h =
    walk_first w h.0 (written counts) (length counts) ∙ ap (plus w.value) (counts-walk counts h.1)

-- ---- and what is walked is counts one after another
pub record Counts (runs : ℕ) (s : List ℕ) (sum : ℕ) : Type 0 where
  pub counts : List Written
  pub whole : s ≡ written counts
  pub many : length counts ≡ runs
  pub each : Each RunCount counts
  pub adds : total (values counts) ≡ sum

module _ (n : ℕ) (s : List ℕ) (later : (l : List ℕ) (u : ℕ) → walked n l ≡ Ok u → Counts n l u) where
  -- the count that was read first, before those of the rest
  one_more : (v len : ℕ) → count_of s ≡ counted v len → eqb v 0 ≡ false
      → (w : Result ℕ ℕ) → walked n (drop len s) ≡ w → (t : ℕ) → plus v w ≡ Ok t → Counts (suc n) s t
  unfolding plus joined total
  one_more v len e z (Ok u) f t q =
      let c = later (drop len s) u f in
      let within = count-within s v len (sym e) in
      let long : length (take len s) ≡ len = length-take-le len s (omega arith) in
      let sum : v + u ≡ t = cc in
      let above = eqb-false v 0 z in
      let own-bytes : count_of (take len s) ≡ counted v (length (take len s))
      = ap count_of (sym (append-nil (take len s))) ∙ read-own s [] v len e ∙ ap (counted v) (sym long) in
      record {
        counts = record { value = v; bytes = take len s } ∷ c.counts;
        whole = sym (take-append-drop len s) ∙ ap (λ (l : List ℕ). take len s ++ l) c.whole;
        many = ap suc c.many;
        each = ((own-bytes, omega arith), c.each);
        adds = ap (λ (x : ℕ). v + x) c.adds ∙ sum;
      }
  one_more v len e z (Err x) f t q = let z : ◌≡◌ {A = ℕ} 0 1 = cc in absurd (omega arith)

  next-count : (c : Option Count) → count_of s ≡ c → (t : ℕ) → walked_past c (λ len. walked n (drop len s)) ≡ Ok t → Counts (suc n) s t
  unfolding walked_past
  next-count None e t q = let z : ◌≡◌ {A = ℕ} 0 1 = cc in absurd (omega arith)
  next-count (Some c) e t q = go (eqb c.value 0) refl q
    where
      go : (x : Bool) → eqb c.value 0 ≡ x → cond x (Err COUNTS) (plus c.value (walked n (drop c.len s))) ≡ Ok t → Counts (suc n) s t
      go true z p = let y : ◌≡◌ {A = ℕ} 0 1 = cc in absurd (omega arith)
      go false z p = one_more c.value c.len e z (walked n (drop c.len s)) refl t p

pub walk-counts : (runs : ℕ) (s : List ℕ) (t : ℕ) → walked runs s ≡ Ok t → Counts runs s t
unfolding walked joined total
walk-counts zero [] t q = record { counts = []; whole = refl; many = refl; each = tt; adds = cc }
walk-counts zero (b ∷ s) t q = let z : ◌≡◌ {A = ℕ} 0 1 = cc in absurd (omega arith)
walk-counts (suc n) [] t q = let z : ◌≡◌ {A = ℕ} 0 1 = cc in absurd (omega arith)
walk-counts (suc n) (b ∷ s) t q = next-count n (b ∷ s) (walk-counts n) (count_of (b ∷ s)) refl t q
