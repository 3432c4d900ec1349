-- What `rest_of` answers, and what its answer says of the next rows. Assumes nothing.
use Rattle.std.specs.Prelude.{Option, Some, None}
use Prim.Native.Nat.{ℕ, ◌+◌, ◌-◌, ◌^◌, ◌≤◌, ◌<◌}
use native.Mathlib.Omega.{arith}
use mathlib.Core.Bool.{Bool, true, false, cond}
use mathlib.Core.List.{List}
use mathlib.Core.Logic.{⊎_elim}
use mathlib.Core.Path.{◌≡◌, refl, sym, subst, ◌∙◌}
use lib.Dec.{ltb, eqb}
use lib.ListN.{length, replicate}
use borrow.Author.Tests.{lt-ltb, le-ltb, eq-eqb, ne_eqb, ltb-true, ltb-false, eqb-true, eqb-false}
use Rattle.varint.specs.declared.Count.{Count}
use Rattle.varint.specs.Varint.{count_at, counted}
use Rattle.area.proofs.Laws.{lt-or-ge}
use Rattle.varint.proofs.Reading.{cut0}
use Rattle.varint.proofs.Within.{at-within, at_small}
use Rattle.rle.specs.declared.Spot.{Spot}
use Rattle.rle.specs.Stepping.{spot, none, stuck, rows, before, here, next, steps_from}
use Rattle.rle.specs.Pieces.{rest_of, run_rest}
use Rattle.rle.proofs.OneRun.{here-past, here-is, none-bad, none-zero, none_below, stops, rows_in, rows-past}
use Rattle.rle.specs.declared.Rest.{Rest}

-- a count that was found lies within the counts, wherever it was looked for
number-within : (s : List ℕ) (at v n : ℕ) → counted v n ≡ count_at s at → at + n ≤ length s
number-within s at v n e = ⊎_elim
    (λ (l : at < length s). (at-within s at v n e (omega arith)).1)
    (λ (g : length s ≤ at). absurd (apart (e ∙ sym (cut0 s at g))))
    (lt-or-ge at (length s))
  where
    apart : counted v n ≡ None → ⊥
    apart q = let z : ◌≡◌ {A = ℕ} 0 1 = cc in omega arith

-- ---- a run with a sound count, and what is free of it
pub record Found (runs : ℕ) (counts : List ℕ) (s : Spot) (free len : ℕ) : Type 0 where
  pub count : ℕ
  pub inside : s.run < runs
  pub is : counted count len ≡ count_at counts s.at
  pub some : 0 < count
  pub least : s.taken ≤ count
  pub rest : free ≡ count - s.taken
  pub small : count < 2 ^ 32
  pub within : s.at + len ≤ length counts

module _ (runs : ℕ) (counts : List ℕ) (s : Spot) where
  -- what the answer tells: a run with a sound count; or there is no next row
  abbrev Tells : Option Rest → Type 0
  Tells (Some r) = Found runs counts s r.free r.len
  Tells None = next runs counts s ≡ none

  number-tells : (v len : ℕ) → s.run < runs → counted v len ≡ count_at counts s.at → Tells (rest_of (counted v len) s.taken)
  unfolding rest_of
  number-tells v len h e = zero? (eqb v 0) refl
    where
      below? : (v ≡ 0 → ⊥) → (b : Bool) → ltb v s.taken ≡ b → Tells (cond b None (Some (run_rest (v - s.taken) len)))
      below? z true q = none_below runs counts s.run s.at s.taken h e (ltb-true v s.taken q)
      below? z false q = record {
        count = v;
        inside = h;
        is = e;
        some = omega arith;
        least = ltb-false v s.taken q;
        rest = refl;
        small = at_small counts s.at v len e;
        within = number-within counts s.at v len e;
      }

      zero? : (b : Bool) → eqb v 0 ≡ b → Tells (cond b None (cond (ltb v s.taken) None (Some (run_rest (v - s.taken) len))))
      zero? true q = none-zero runs counts s.run s.at s.taken h e (eqb-true v 0 q)
      zero? false q = below? (eqb-false v 0 q) (ltb v s.taken) refl

  tells : Tells (rest_of (here runs counts s) s.taken)
  unfolding rest_of
  tells = ⊎_elim
      (λ (h : s.run < runs). rw (here-is runs counts s h refl) (count h (count_at counts s.at) refl))
      (λ (h : runs ≤ s.run). rw (here-past runs counts s h) (none-bad runs counts s (here-past runs counts s h)))
      (lt-or-ge s.run runs)
    where
      count : s.run < runs → (c : Option Count) → c ≡ count_at counts s.at → Tells (rest_of c s.taken)
      count h None e = none-bad runs counts s (here-is runs counts s h e)
      count h (Some c) e = number-tells c.value c.len h e

  module _ {a : Option Rest} (e : a ≡ rest_of (here runs counts s) s.taken) where
    pub found : {free len : ℕ} → a ≡ Some (run_rest free len) → Found runs counts s free len
    found b = subst Tells (sym e ∙ b) tells

    pub wrong-stuck : (n : ℕ) → 0 < n → a ≡ None → steps_from runs counts n s ≡ stuck
    wrong-stuck n p b = stops runs counts n s p (subst Tells (sym e ∙ b) tells)

-- the rows of a run that was found
module _ {runs : ℕ} {counts : List ℕ} {s : Spot} {free len : ℕ} (f : Found runs counts s free len) where
  pub found_in : (n : ℕ) → n < free → steps_from runs counts n s ≡ rows (replicate n s.run) (spot s.run s.at (s.taken + n))
  found_in n h = rows_in runs counts s.run s.at f.inside f.is n s.taken (omega arith)

  pub found-past : (n : ℕ) → 0 < n → free ≤ n
      → steps_from runs counts n s ≡ before (replicate free s.run) (steps_from runs counts (n - free) (spot (s.run + 1) (s.at + len) 0))
  found-past n p h = rw f.rest (rows-past runs counts s.run s.at f.inside f.is n s.taken p f.some f.least (omega arith))

-- ---- the returns of `rest_of`
module _ (runs : ℕ) (counts : List ℕ) (s : Spot) where
  pub rest-past : runs ≤ s.run → None ≡ rest_of (here runs counts s) s.taken
  unfolding rest_of
  rest-past h = rw (here-past runs counts s h)

  module _ (h : s.run < runs) {c : Option Count} (e : c ≡ count_at counts s.at) where
    pub rest-bad : c ≡ None → None ≡ rest_of (here runs counts s) s.taken
    unfolding rest_of
    rest-bad b = rw (here-is runs counts s h e, b)

    module _ {v len : ℕ} (b : c ≡ counted v len) where
      pub rest-zero : v ≡ 0 → None ≡ rest_of (here runs counts s) s.taken
      unfolding rest_of
      rest-zero z = rw (here-is runs counts s h e, b) (simp (eq-eqb _ _ z))

      pub rest_below : (v ≡ 0 → ⊥) → v < s.taken → None ≡ rest_of (here runs counts s) s.taken
      unfolding rest_of
      rest_below z l = rw (here-is runs counts s h e, b) (simp (ne_eqb _ _ z, lt-ltb _ _ l))

      pub rest-rows : (v ≡ 0 → ⊥) → s.taken ≤ v → Some (run_rest (v - s.taken) len) ≡ rest_of (here runs counts s) s.taken
      unfolding rest_of
      rest-rows z l = rw (here-is runs counts s h e, b) (simp (ne_eqb _ _ z, le-ltb _ _ l))
