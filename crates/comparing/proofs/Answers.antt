-- What comparing comes to, by the tests that led there. Assumes nothing.
use Prim.Native.Nat.{ℕ, zero, suc, ◌≤◌, ◌<◌}
use native.Mathlib.Omega.{arith}
use mathlib.Core.Bool.{Bool, true, false, not, ◌||◌}
use mathlib.Core.List.{List, [], ◌∷◌, map}
use mathlib.Core.Path.{◌≡◌, refl, sym, ap, ◌∙◌}
use lib.Dec.{ltb, eqb}
use lib.ListN.{length, length-map}
use borrow.Author.Tests.{lt-ltb, le-ltb, eq-eqb, ne_eqb}
use Rattle.limits.specs.Refusals.{ROOM, UNLIKE}
use Rattle.plain.specs.Rules.{◌if◌, first_of}
use Rattle.format.proofs.Answers.{broken-first}
use Rattle.anatomy.specs.declared.Parts.{Parts}
use Rattle.descriptor.specs.declared.Descriptor.{Descriptor}
use Rattle.descriptor.specs.Descriptor.{described_number}
use Rattle.ranges.specs.Ranges.{Range}
use Rattle.ranges.specs.Recording.{put_down}
use Rattle.ranges.proofs.Recording.{put-none, put_whole}
use Rattle.comparing.specs.declared.Compared.{Compared}
use Rattle.comparing.specs.Comparing.{ranges_between, unlike, too_few, compare_number, compared, Compare, compare_by, compare}
use Rattle.comparing.specs.Taken.{Opens}

-- no ranges leave a list as it is
nothing_put : (rs : List Range) (f : Range → ℕ) (xs : List ℕ) → length rs ≡ 0 → xs ≡ put_down xs (map f rs)
nothing_put [] f xs z = sym (put-none xs)
nothing_put (r ∷ rs) f xs z = absurd (omega arith)

-- an answer, and what the two lists then hold
abbrev Comes : Compared → List ℕ → List ℕ → Compare → Type 0
Comes r fs ls c = (r ≡ c.answer) × ((fs ≡ c.firsts) × (ls ≡ c.lasts))

refused-by : (e : ℕ) (rs : List Range) (fs ls : List ℕ) → 0 < e → Comes (compared e 0) fs ls (compare_by e rs fs ls)
unfolding compare_by
refused-by zero rs fs ls h = absurd (omega arith)
refused-by (suc e) rs fs ls h = (refl, (refl, refl))

module _ (a : Descriptor) (x : List ℕ) (b : Descriptor) (y fs ls : List ℕ) where
  abbrev rs : List Range
  rs = ranges_between a x b y

  refused_as : {e : ℕ} {r : Compared} → compare_number a x b y (length fs) (length ls) ≡ e → 0 < e → r ≡ compared e 0 → Comes r fs ls (compare a x b y fs ls)
  refused_as {e} q h p = rw (p, q) (refused-by e rs fs ls h)

  -- ---- 25
  pub kinds-differ : (a.kind ≡ b.kind → ⊥) → {r : Compared} → r ≡ compared UNLIKE 0 → Comes r fs ls (compare a x b y fs ls)
  unfolding compare_number first_of
  kinds-differ h = refused_as (rw (ne_eqb a.kind b.kind h)) (omega arith)

  module _ (k : a.kind ≡ b.kind) where
    pub widths-differ : (a.width ≡ b.width → ⊥) → {r : Compared} → r ≡ compared UNLIKE 0 → Comes r fs ls (compare a x b y fs ls)
    unfolding compare_number first_of
    widths-differ h = refused_as (rw (eq-eqb a.kind b.kind k, ne_eqb a.width b.width h)) (omega arith)

    module _ (w : a.width ≡ b.width) where
      -- ---- opening's
      pub first-refused : {e : ℕ} {r : Compared} → described_number a x ≡ e → 0 < e → r ≡ compared e 0 → Comes r fs ls (compare a x b y fs ls)
      unfolding compare_number first_of
      first-refused {e} q h =
          let behind : List ℕ = described_number b y ∷ ROOM if too_few (length rs) (length fs) (length ls) ∷ [] in
          refused_as (rw (eq-eqb a.kind b.kind k, eq-eqb a.width b.width w, q) (broken-first e behind (λ z. omega arith))) h

      module _ (z : described_number a x ≡ 0) where
        pub second-refused : {e : ℕ} {r : Compared} → described_number b y ≡ e → 0 < e → r ≡ compared e 0 → Comes r fs ls (compare a x b y fs ls)
        unfolding compare_number first_of
        second-refused {e} q h =
            let behind : List ℕ = ROOM if too_few (length rs) (length fs) (length ls) ∷ [] in
            refused_as (rw (eq-eqb a.kind b.kind k, eq-eqb a.width b.width w, z, q) (broken-first e behind (λ n. omega arith))) h

        -- ---- 4, and done
        module _ (v : described_number b y ≡ 0) where
          pub firsts-short : length fs < length rs → {r : Compared} → r ≡ compared ROOM 0 → Comes r fs ls (compare a x b y fs ls)
          unfolding compare_number first_of
          firsts-short h =
              refused_as (rw (eq-eqb a.kind b.kind k, eq-eqb a.width b.width w, z, v, lt-ltb (length fs) (length rs) h)) (omega arith)

          module _ (enough : length rs ≤ length fs) where
            pub lasts-short : length ls < length rs → {r : Compared} → r ≡ compared ROOM 0 → Comes r fs ls (compare a x b y fs ls)
            unfolding compare_number first_of
            lasts-short h =
                refused_as (rw (eq-eqb a.kind b.kind k, eq-eqb a.width b.width w, z, v, le-ltb (length fs) (length rs) enough, lt-ltb (length ls) (length rs) h)) (omega arith)

            pub all-written :
                length rs ≤ length ls → {n : ℕ} {fs' ls' : List ℕ} → n ≡ length rs
                → fs' ≡ put_down fs (map (λ (r : Range). r.first) rs) → ls' ≡ put_down ls (map (λ (r : Range). r.last) rs)
                → Comes (compared 0 n) fs' ls' (compare a x b y fs ls)
            unfolding compare_number first_of compare_by
            all-written h {n} q f l =
                rw (
                  eq-eqb a.kind b.kind k,
                  eq-eqb a.width b.width w,
                  z,
                  v,
                  le-ltb (length fs) (length rs) enough,
                  le-ltb (length ls) (length rs) h,
                ) (
                  ap (compared 0) q,
                  (
                    f ∙ put_whole fs _ (omega (arith, length-map rs (λ (r : Range). r.first), enough)),
                    l ∙ put_whole ls _ (omega (arith, length-map rs (λ (r : Range). r.last), h)),
                  ),
                )

          -- there are none, so that any lists do
          pub none_written : {n : ℕ} → n ≡ 0 → n ≡ length rs → Comes (compared 0 n) fs ls (compare a x b y fs ls)
          none_written h q =
              let none : length rs ≡ 0 = sym q ∙ h in
              all-written (omega arith) (omega arith) q (nothing_put rs (λ (r : Range). r.first) fs none) (nothing_put rs (λ (r : Range). r.last) ls none)
