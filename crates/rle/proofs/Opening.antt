-- The head of a block: its part in the block's number, what it tells, and the returns of `find_head`. Assumes nothing.
use Rattle.std.specs.Prelude.{Option, Some, None, Result, Ok, Err}
use Prim.Native.Nat.{ℕ, zero, suc, ◌+◌, ◌-◌, ◌≤◌, ◌<◌}
use native.Mathlib.Omega.{arith}
use mathlib.Core.Bool.{Bool, true, false, cond, not}
use mathlib.Core.List.{List, [], ◌∷◌, ◌++◌}
use mathlib.Core.Path.{◌≡◌, refl, sym, ap, subst, ◌∙◌}
use lib.Dec.{ltb, eqb}
use lib.ListN.{length, take, drop}
use borrow.Author.Tests.{lt-ltb, le-ltb, eq-eqb, ne_eqb, ltb-false, eqb-true, eqb-false, not-false}
use Rattle.encode.specs.Bytes.{number}
use Rattle.limits.specs.Limits.{MOST_ITEMS}
use Rattle.limits.specs.Refusals.{COUNTS, CUT, LIMIT, SUM}
use Rattle.plain.specs.Rules.{◌if◌, first_of}
use Rattle.plain.proofs.Rules.{kept, whole}
use Rattle.rle.specs.RunLength.{runs_in, counts_length, counts_part, inner_part, walked, walk_number, run_length_number}
use Rattle.rle.specs.Pieces.{head_by, head_found, number_by, run_head}
use Rattle.rle.proofs.Walking.{Told, walk-told}
use Rattle.rle.specs.declared.RunHead.{RunHead}

-- the rules of the head
abbrev rules : ℕ → List ℕ → List ℕ
rules n b =
    CUT if ltb (length b) 8
    ∷ LIMIT if ltb MOST_ITEMS (runs_in b)
    ∷ COUNTS if eqb (runs_in b) 0
    ∷ CUT if ltb (length b) (8 + counts_length b)
    ∷ walk_number n (walked (runs_in b) (counts_part (counts_length b) b))
    ∷ []

-- ---- a block's number: the head's, and then the inner one
first_one : (e : ℕ) → first_of (e ∷ []) ≡ e
unfolding first_of
first_one zero = refl
first_one (suc e) = refl

inner_last : (inner : ℕ → List ℕ → ℕ) (b : List ℕ) (runs counts : ℕ) (es : List ℕ)
    → first_of (es ++ (inner runs (inner_part counts b) ∷ [])) ≡ number_by inner b (head_by (first_of es) runs counts)
unfolding first_of head_by number_by
inner_last inner b runs counts [] = first_one _
inner_last inner b runs counts (zero ∷ es) = inner_last inner b runs counts es
inner_last inner b runs counts (suc e ∷ es) = refl

pub head-number : (inner : ℕ → List ℕ → ℕ) (n : ℕ) (b : List ℕ) → run_length_number inner n b ≡ number_by inner b (head_found n b)
unfolding run_length_number head_found number_by
head-number inner n b = go (eqb (length b) 0) (eqb n 0)
  where
    go : (t z : Bool)
        → cond t (SUM if not z) (first_of (rules n b ++ (inner (runs_in b) (inner_part (counts_length b) b) ∷ [])))
        ≡ number_by inner b (cond t (cond z (Ok None) (Err SUM)) (head_by (first_of (rules n b)) (runs_in b) (counts_length b)))
    go true true = refl
    go true false = refl
    go false z = inner_last inner b (runs_in b) (counts_length b) (rules n b)

-- ---- what the head tells
pub record Sound (n : ℕ) (b : List ℕ) (runs counts : ℕ) : Type 0 where
  pub many : runs ≤ MOST_ITEMS
  pub some : 0 < runs
  pub room : 8 + counts ≤ length b
  pub runs-read : runs ≡ runs_in b
  pub counts-read : counts ≡ counts_length b
  pub sum : walked runs (counts_part counts b) ≡ Ok n

total : (n : ℕ) (w : Result ℕ ℕ) → Told w → walk_number n w ≡ 0 → w ≡ Ok n
unfolding walk_number
total n (Ok t) h e = ap Ok (eqb-true t n (not-false _ (whole SUM _ (omega arith) e)))
total n (Err x) h e = absurd (omega arith)

module _ (n : ℕ) (b : List ℕ) where
  sound : first_of (rules n b) ≡ 0 → Sound n b (runs_in b) (counts_length b)
  sound h =
      let a = kept (CUT if ltb (length b) 8) _ h in
      let c = kept (LIMIT if ltb MOST_ITEMS (runs_in b)) _ a.1 in
      let d = kept (COUNTS if eqb (runs_in b) 0) _ c.1 in
      let e = kept (CUT if ltb (length b) (8 + counts_length b)) _ d.1 in
      let f = kept (walk_number n (walked (runs_in b) (counts_part (counts_length b) b))) _ e.1 in
      let z = eqb-false (runs_in b) 0 (whole COUNTS _ (omega arith) d.0) in
      record {
        many = ltb-false _ _ (whole LIMIT _ (omega arith) c.0);
        some = omega arith;
        room = ltb-false _ _ (whole CUT _ (omega arith) e.0);
        runs-read = refl;
        counts-read = refl;
        sum = total n _ (walk-told (runs_in b) (counts_part (counts_length b) b)) f.0;
      }

  abbrev Tells : Result (Option RunHead) ℕ → Type 0
  Tells (Ok None) = (length b ≡ 0) × (n ≡ 0)
  Tells (Ok (Some h)) = Sound n b h.runs h.counts
  Tells (Err e) = 0 < e

  by_number : (e : ℕ) → first_of (rules n b) ≡ e → Tells (head_by e (runs_in b) (counts_length b))
  unfolding head_by
  by_number zero h = sound h
  by_number (suc e) h = omega arith

  tells : Tells (head_found n b)
  unfolding head_found
  tells = go (eqb (length b) 0) refl (eqb n 0) refl
    where
      go : (t : Bool) → eqb (length b) 0 ≡ t → (z : Bool) → eqb n 0 ≡ z
          → Tells (cond t (cond z (Ok None) (Err SUM)) (head_by (first_of (rules n b)) (runs_in b) (counts_length b)))
      go true h true k = (eqb-true _ _ h, eqb-true _ _ k)
      go true h false k = omega arith
      go false h z k = by_number (first_of (rules n b)) refl

  pub head-sound : {runs counts : ℕ} → head_found n b ≡ Ok (Some (run_head runs counts)) → Sound n b runs counts
  head-sound e = subst Tells e tells

  pub head-empty : head_found n b ≡ Ok None → (length b ≡ 0) × (n ≡ 0)
  head-empty e = subst Tells e tells

  pub head-refused : {e : ℕ} → head_found n b ≡ Err e → 0 < e
  head-refused e = subst Tells e tells

-- ---- the returns of `find_head`
module _ (n : ℕ) (b : List ℕ) where
  module _ (z : length b ≡ 0) where
    pub no_bytes : n ≡ 0 → Ok None ≡ head_found n b
    unfolding head_found
    no_bytes h = simp (eq-eqb _ _ z, eq-eqb _ _ h)

    pub no_rows : (n ≡ 0 → ⊥) → Err SUM ≡ head_found n b
    unfolding head_found
    no_rows h = simp (eq-eqb _ _ z, ne_eqb _ _ h)

  module _ (h0 : length b ≡ 0 → ⊥) where
    by-rules : (e : ℕ) → first_of (rules n b) ≡ e → head_by e (runs_in b) (counts_length b) ≡ head_found n b
    unfolding head_found
    by-rules e q = rw (← q) (simp (ne_eqb _ _ h0))

    pub too_short : length b < 8 → Err CUT ≡ head_found n b
    unfolding head_by first_of
    too_short h = by-rules CUT (simp (lt-ltb _ _ h))

    module _ (h1 : 8 ≤ length b) {runs : ℕ} (e1 : runs ≡ number (take 4 (drop 0 b))) where
      runs-is : runs_in b ≡ runs
      unfolding runs_in
      runs-is = sym e1

      pub too_many : MOST_ITEMS < runs → Err LIMIT ≡ head_found n b
      unfolding head_by first_of
      too_many h = by-rules LIMIT (rw runs-is (simp (le-ltb _ _ h1, lt-ltb _ _ h)))

      module _ (h2 : runs ≤ MOST_ITEMS) where
        pub no-runs : runs ≡ 0 → Err COUNTS ≡ head_found n b
        unfolding head_by first_of
        no-runs h = by-rules COUNTS (rw runs-is (simp (le-ltb _ _ h1, le-ltb _ _ h2, eq-eqb _ _ h)))

        module _ (h3 : runs ≡ 0 → ⊥) {counts : ℕ} (e2 : counts ≡ number (take 4 (drop 4 b))) where
          counts-is : counts_length b ≡ counts
          unfolding counts_length
          counts-is = sym e2

          pub cut_short : length b < 8 + counts → Err CUT ≡ head_found n b
          unfolding head_by first_of
          cut_short h = by-rules CUT (rw (runs-is, counts-is) (simp (le-ltb _ _ h1, le-ltb _ _ h2, ne_eqb _ _ h3, lt-ltb _ _ h)))

          -- the counts were walked in their part of the block
          module _ (h4 : 8 + counts ≤ length b) {w : Result ℕ ℕ} (e3 : w ≡ walked runs (take (8 + counts - 8) (drop 8 b))) where
            walk_is : walked runs (counts_part counts b) ≡ w
            unfolding counts_part
            walk_is = let m : 8 + counts - 8 ≡ counts = omega arith in sym (rw m at e3)

            by-walk : (e : ℕ) → walk_number n w ≡ e → head_by e runs counts ≡ head_found n b
            unfolding first_of
            by-walk e q =
                rw (← runs-is, ← counts-is)
                (by-rules e (rw (runs-is, counts-is, walk_is, q) (simp (le-ltb _ _ h1, le-ltb _ _ h2, ne_eqb _ _ h3, le-ltb _ _ h4) (first_one e))))

            pub walk_refused : {e : ℕ} → w ≡ Err e → Err e ≡ head_found n b
            unfolding head_by walk_number
            walk_refused {e} q = some e refl (subst Told (walk_is ∙ q) (walk-told runs (counts_part counts b)))
              where
                some : (x : ℕ) → e ≡ x → 0 < e → Err e ≡ head_found n b
                some zero z p = absurd (omega arith)
                some (suc x) z p = rw z (by-walk (suc x) (rw q z))

            module _ {t : ℕ} (q : w ≡ Ok t) where
              pub sum-wrong : (t ≡ n → ⊥) → Err SUM ≡ head_found n b
              unfolding head_by walk_number
              sum-wrong h = by-walk SUM (rw q (simp (ne_eqb _ _ h)))

              pub sum-right : t ≡ n → Ok (Some (run_head runs counts)) ≡ head_found n b
              unfolding head_by walk_number
              sum-right h = by-walk 0 (rw q (simp (eq-eqb _ _ h)))
