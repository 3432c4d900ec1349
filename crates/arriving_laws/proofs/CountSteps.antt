-- A byte of the counts: the verdict that is owed stays the same, and what a check keeps holds. Assumes nothing.
use Rattle.std.specs.Prelude.{Option, Some, None, Result, Ok, Err}
use Prim.Native.Nat.{ℕ, zero, suc, ◌+◌, ◌-◌, ◌^◌, ◌≤◌, ◌<◌}
use native.Mathlib.Nat.{add-zero, zero-add}
use native.Mathlib.Omega.{arith}
use mathlib.Core.Bool.{Bool, true, false, cond, not, ◌||◌}
use mathlib.Core.List.{List, [], ◌∷◌, ◌++◌}
use mathlib.Core.Path.{◌≡◌, refl, sym, ap, ◌∙◌}
use lib.Dec.{ltb, eqb, eqb-suc-zero, eqb-suc-suc}
use lib.ListN.{length, take, drop, length-append}
use lib.Seq.{append_snoc, take-append-add, drop-append-add}
use borrow.Author.Tests.{ltb-false, eqb-true, eqb-false, le-ltb}
use Rattle.limits.specs.Refusals.{VARINT, COUNTS, SUM}
use Rattle.encode.specs.declared.Kind.{Kind}
use Rattle.encode.proofs.Bools.{clash}
use Rattle.varint.specs.declared.Count.{Count}
use Rattle.varint.specs.Varint.{more, count_within, in_32_bits, count_of, counted as spelled}
use Rattle.varint.proofs.Within.{more-cases}
use Rattle.plain.specs.Rules.{◌if◌, first_of}
use Rattle.rle.specs.RunLength.{plus, walked_past, walked, walk_number}
use Rattle.rle.proofs.Walking.{plus-plus}
use Rattle.format.specs.declared.Encoding.{Encoding}
use Rattle.format.specs.declared.Encoding.TheVariants.{Dictionary}
use Rattle.format.proofs.Answers.{first_one}
use Rattle.arriving.specs.Stages.{Stage, Done, Counts}
use Rattle.arriving.specs.Arriving.{Waiting, waiting, inner_from, count_read, counted, stepped_by}
use Rattle.arriving_laws.specs.Owed.{inner_owed, owed_by, owed, Unended, coded, Fits, Checked}
use Rattle.arriving_laws.proofs.Steps.{StepOwed, StepFits}
use Rattle.arriving_laws.proofs.Heads.{inner-owed, inner-fits}

-- ---- the bytes of a count
-- bytes that all go on are no count
unended-bad : (k : ℕ) (h : List ℕ) → Unended h → count_within k h ≡ None
unfolding count_within more Unended
unended-bad zero h u = refl
unended-bad (suc k) [] u = refl
unended-bad (suc k) (x ∷ h) u = simp (le-ltb x 128 u.0, unended-bad k h u.1)

unended-snoc : (h : List ℕ) (b : ℕ) → Unended h → 128 ≤ b → Unended (h ++ (b ∷ []))
unfolding Unended
unended-snoc [] b u p = (p, tt)
unended-snoc (x ∷ h) b u p = (u.0, unended-snoc h b u.1 p)

-- a count looks at no byte behind its last, nor at more than so many
alone : (k : ℕ) (h : List ℕ) (b : ℕ) (t : List ℕ) → Unended h → (128 ≤ b → k ≤ suc (length h)) → count_within k (h ++ (b ∷ t)) ≡ count_within k (h ++ (b ∷ []))
unfolding count_within more Unended
alone zero h b t u p = refl
alone (suc k) [] b t u p = go (ltb b 128) refl
  where
    go : (c : Bool) → ltb b 128 ≡ c → cond c (spelled b 1) (more (b - 128) (count_within k t)) ≡ cond c (spelled b 1) (more (b - 128) (count_within k []))
    go true e = refl
    go false e =
        let q = p (ltb-false b 128 e) in
        let z : k ≡ 0 = omega arith in
        rw z
alone (suc k) (x ∷ h) b t u p = rw (alone k h b t u.1 (λ (q : 128 ≤ b). let i = p q in omega arith))

-- and a number has all its bytes; of None nothing is said
abbrev Long : ℕ → Option Count → Type 0
Long m (Some c) = c.len ≡ m
Long m None = Unit

more-long : (low m : ℕ) (r : Option Count) → Long m r → Long (suc m) (more low r)
unfolding more
more-long low m (Some c) h = more-cases (Long (suc m)) low c.value c.len tt (λ z. omega arith)
more-long low m None h = tt

within-long : (k : ℕ) (h : List ℕ) (b : ℕ) → Unended h → Long (suc (length h)) (count_within k (h ++ (b ∷ [])))
unfolding count_within more Unended
within-long zero h b u = tt
within-long (suc k) [] b u = go (ltb b 128) k
  where
    go : (c : Bool) (j : ℕ) → Long 1 (cond c (spelled b 1) (more (b - 128) (count_within j [])))
    go true j = refl
    go false zero = tt
    go false (suc j) = tt
within-long (suc k) (x ∷ h) b u = rw (le-ltb x 128 u.0) (more-long (x - 128) (suc (length h)) (count_within k (h ++ (b ∷ []))) (within-long k h b u.1))

in32-long : (m : ℕ) (r : Option Count) → Long m r → Long m (in_32_bits r)
unfolding in_32_bits
in32-long m (Some x) h = go (ltb x.value (2 ^ 32))
  where
    go : (c : Bool) → Long m (cond c (spelled x.value x.len) None)
    go true = h
    go false = tt
in32-long m None h = tt

-- so the walk goes on behind its last byte
past-long : (m : ℕ) (h : List ℕ) (b : ℕ) (t : List ℕ) (r : Option Count) → Long (suc (length h)) r
    → walked_past r (λ len. walked m (drop len (h ++ (b ∷ t)))) ≡ walked_past r (λ len. walked m t)
unfolding walked_past
past-long m h b t (Some c) e =
    let i : c.len ≡ length h + 1 = omega arith in
    let d : drop c.len (h ++ (b ∷ t)) ≡ t = rw i (drop-append-add h (b ∷ t) 1) in
    rw d
past-long m h b t None e = refl

walked-first : (m : ℕ) (h : List ℕ) (b : ℕ) (t : List ℕ)
    → walked (suc m) (h ++ (b ∷ t)) ≡ walked_past (count_of (h ++ (b ∷ t))) (λ len. walked m (drop len (h ++ (b ∷ t))))
unfolding walked
walked-first m [] b t = refl
walked-first m (x ∷ h) b t = refl

-- the walk over counts of which the first ends with byte b, and the rest is t
walked-ended : (m : ℕ) (h : List ℕ) (b : ℕ) (t : List ℕ) → Unended h → (128 ≤ b → 4 ≤ length h)
    → walked (suc m) (h ++ (b ∷ t)) ≡ walked_past (count_of (h ++ (b ∷ []))) (λ len. walked m t)
unfolding count_of
walked-ended m h b t u p =
    walked-first m h b t
    ∙ ap (λ (r : Option Count). walked_past (in_32_bits r) (λ len. walked m (drop len (h ++ (b ∷ t))))) (alone 5 h b t u (λ (q : 128 ≤ b). let i = p q in omega arith))
    ∙ past-long m h b t (count_of (h ++ (b ∷ []))) (in32-long (suc (length h)) (count_within 5 (h ++ (b ∷ []))) (within-long 5 h b u))

-- the counts' part ends inside one
walked-cut : (m : ℕ) (h : List ℕ) (b : ℕ) → Unended h → 128 ≤ b → walked (suc m) (h ++ (b ∷ [])) ≡ Err VARINT
unfolding count_of in_32_bits walked_past
walked-cut m h b u p = walked-first m h b [] ∙ rw (unended-bad 5 (h ++ (b ∷ [])) (unended-snoc h b u p))

not-one : (m : ℕ) → eqb (suc (suc m)) 1 ≡ false
not-one m = eqb-suc-suc (suc m) 0 ∙ eqb-suc-zero m

-- ---- a step
module _ (k : Kind) (e : Encoding) (n : ℕ) (c : Checked k) where
  module _ (inner runs entries : ℕ) (bs : List ℕ) (is_coded : coded e ≡ true) where
    -- `l` bytes of the counts are to come, and the inner block behind them
    abbrev Room : ℕ → Type 0
    Room l = (l + inner ≤ length bs) × ((e ≡ Dictionary → ⊥) → l + inner ≡ length bs)

    -- what is owed if the walk over the counts comes to this
    abbrev after : ℕ → Result ℕ ℕ → ℕ
    after l w = first_of (walk_number n w ∷ inner_owed k e runs inner entries (drop l bs) ∷ [])

    -- behind the last count, where the sum is right or not
    last-owed : (total : ℕ) → Room 0
        → after 0 (Ok total) ≡ owed_by k e n (cond (eqb total n) (inner_from k e runs inner entries (length bs)) (Done SUM)) [] bs
    unfolding first_of walk_number owed_by
    last-owed total r = go (eqb total n)
      where
        i : inner ≤ length bs
        i = omega (arith, r.0)

        go : (c : Bool) → first_of (SUM if not c ∷ inner_owed k e runs inner entries bs ∷ [])
            ≡ owed_by k e n (cond c (inner_from k e runs inner entries (length bs)) (Done SUM)) [] bs
        go true = first_one (inner_owed k e runs inner entries bs)
            ∙ sym (inner-owed k e n c runs inner entries bs is_coded i (λ d. let q = r.1 d in omega arith))
        go false = refl

    -- where a count above 0 leads, with `m` counts to come
    abbrev next : ℕ → ℕ → ℕ → Stage
    next l m total =
        cond (eqb (suc m) 1)
        (cond (eqb l 0) (cond (eqb total n) (inner_from k e runs inner entries (length bs)) (Done SUM)) (Done COUNTS))
        (cond (eqb l 0) (Done COUNTS) (Counts inner runs l (suc m - 1) total entries))

    next-owed : (l m total : ℕ) → Room l → after l (plus total (walked m (take l bs))) ≡ owed_by k e n (next l m total) [] bs
    unfolding first_of walk_number walked plus owed_by
    next-owed zero zero total r = rw add-zero (last-owed total r)
    next-owed (suc l) zero total r = rw (eqb-suc-zero l) (over bs r.0)
      where
        over : (xs : List ℕ) → suc l + inner ≤ length xs → after (suc l) (plus total (walked 0 (take (suc l) xs))) ≡ COUNTS
        over [] h = absurd (omega arith)
        over (x ∷ xs) h = refl
    next-owed zero (suc m) total r = rw (not-one m)
    next-owed (suc l) (suc m) total r =
        let i : suc (suc m) - 1 ≡ suc m = omega arith in
        rw (not-one m, eqb-suc-zero l, i, zero-add)

    next_fits : (l m total : ℕ) → Room l → Fits k e (next l m total) [] (length bs)
    unfolding Fits Unended
    next_fits zero zero total r = go (eqb total n)
      where
        go : (c : Bool) → Fits k e (cond c (inner_from k e runs inner entries (length bs)) (Done SUM)) [] (length bs)
        go true = inner-fits k e n c runs inner entries (length bs) is_coded (omega (arith, r.0)) (λ d. let q = r.1 d in omega arith)
        go false = refl
    next_fits (suc l) zero total r = rw (eqb-suc-zero l)
    next_fits zero (suc m) total r = rw (not-one m)
    next_fits (suc l) (suc m) total r =
        let i : suc (suc m) - 1 ≡ suc m = omega arith in
        rw (not-one m, eqb-suc-zero l, i)
        (is_coded, omega arith, omega arith, omega arith, tt, r.0, r.1)

    -- ... and any count, also a bad one or 0
    read-owed : (l m sum : ℕ) (c : Option Count) → Room l
        → after l (plus sum (walked_past c (λ len. walked m (take l bs))))
        ≡ owed_by k e n (count_read k e n (length bs) inner runs l (suc m) sum entries c) [] bs
    unfolding first_of walk_number walked_past plus count_read owed_by
    read-owed l m sum None r = refl
    read-owed l m sum (Some c) r = go (eqb c.value 0)
      where
        go : (t : Bool)
            → after l (plus sum (cond t (Err COUNTS) (plus c.value (walked m (take l bs))))) ≡ owed_by k e n (cond t (Done COUNTS) (next l m (sum + c.value))) [] bs
        go true = refl
        go false = ap (after l) (plus-plus sum c.value (walked m (take l bs))) ∙ next-owed l m (sum + c.value) r

    read_fits : (l m sum : ℕ) (c : Option Count) → Room l
        → Fits k e (count_read k e n (length bs) inner runs l (suc m) sum entries c) [] (length bs)
    unfolding count_read Fits
    read_fits l m sum None r = refl
    read_fits l m sum (Some c) r = go (eqb c.value 0)
      where
        go : (t : Bool) → Fits k e (cond t (Done COUNTS) (next l m (sum + c.value))) [] (length bs)
        go true = refl
        go false = next_fits l m (sum + c.value) r

    -- a byte behind those held of its count
    module _ (held : List ℕ) (b : ℕ) (u : Unended held) (few : length held < 5) where
      -- what the byte makes of a count that it ends, and of one that goes on
      abbrev ended : ℕ → ℕ → ℕ → Waiting
      ended l m sum = waiting (count_read k e n (length bs) inner runs l (suc m) sum entries (count_of (held ++ (b ∷ [])))) []

      abbrev longer : ℕ → ℕ → ℕ → Waiting
      longer l m sum = cond (eqb l 0) (waiting (Done VARINT) []) (waiting (Counts inner runs l (suc m) sum entries) (held ++ (b ∷ [])))

      longer-owed : (l m sum : ℕ) → 128 ≤ b → after l (plus sum (walked (suc m) (held ++ (b ∷ take l bs)))) ≡ owed k e n (longer l m sum) bs
      unfolding first_of walk_number plus owed_by
      longer-owed zero m sum p = rw (walked-cut m held b u p)
      longer-owed (suc l) m sum p =
          rw (
            eqb-suc-zero l,
            take-append-add (held ++ (b ∷ [])) bs (suc l),
            drop-append-add (held ++ (b ∷ [])) bs (suc l),
            append_snoc held b (take (suc l) bs),
          )

      longer-fits : (l m sum : ℕ) → 128 ≤ b → length held < 4 → Room l → Fits k e (longer l m sum).stage (longer l m sum).held (length bs)
      unfolding Fits
      longer-fits zero m sum p h r = refl
      longer-fits (suc l) m sum p h r =
          rw (eqb-suc-zero l)
          (is_coded, omega arith, omega arith, omega (arith, length-append held (b ∷ [])), unended-snoc held b u p, r.0, r.1)

      -- the byte is its count's last, or it isn't
      abbrev ends : Bool
      ends = ltb b 128 || eqb (length held) 4

      ends-true : ends ≡ true → 128 ≤ b → 4 ≤ length held
      ends-true q p = let i : eqb (length held) 4 ≡ true = rw (le-ltb b 128 p) at q in omega (arith, eqb-true (length held) 4 i)

      ends-false : ends ≡ false → (128 ≤ b) × (length held < 4)
      ends-false q = go (ltb b 128) refl (eqb (length held) 4) refl q
        where
          go : (t : Bool) → ltb b 128 ≡ t → (f : Bool) → eqb (length held) 4 ≡ f → (t || f) ≡ false → (128 ≤ b) × (length held < 4)
          go true h f g z = clash z
          go false h true g z = clash z
          go false h false g z = (ltb-false b 128 h, let i = eqb-false (length held) 4 g in omega arith)

      counted-owed : (l m sum : ℕ) → Room l
          → after l (plus sum (walked (suc m) (held ++ (b ∷ take l bs))))
          ≡ owed k e n (counted k e n (length bs) inner runs l (suc m) sum entries held b) bs
      unfolding counted
      counted-owed l m sum r = go ends refl
        where
          go : (t : Bool) → ends ≡ t
              → after l (plus sum (walked (suc m) (held ++ (b ∷ take l bs)))) ≡ owed k e n (cond t (ended l m sum) (longer l m sum)) bs
          go true q =
              ap (λ (w : Result ℕ ℕ). after l (plus sum w)) (walked-ended m held b (take l bs) u (ends-true q))
              ∙ read-owed l m sum (count_of (held ++ (b ∷ []))) r
          go false q = longer-owed l m sum (ends-false q).0

      counted-fits : (l m sum : ℕ) → Room l
          → let w = counted k e n (length bs) inner runs l (suc m) sum entries held b in Fits k e w.stage w.held (length bs)
      unfolding counted
      counted-fits l m sum r = go ends refl
        where
          go : (t : Bool) → ends ≡ t → let w = cond t (ended l m sum) (longer l m sum) in Fits k e w.stage w.held (length bs)
          go true q = read_fits l m sum (count_of (held ++ (b ∷ []))) r
          go false q = let i = ends-false q in longer-fits l m sum i.0 i.1 r

  -- ---- the laws
  pub counts-step-owed : (inner runs left more sum entries : ℕ) (held : List ℕ) (b : ℕ) (bs : List ℕ) → StepOwed k n (Counts inner runs left more sum entries) held b bs e
  unfolding Fits stepped_by owed_by
  counts-step-owed inner runs zero more sum entries held b bs f = absurd (omega (arith, f.1))
  counts-step-owed inner runs (suc l) zero sum entries held b bs f = absurd (omega (arith, f.2))
  counts-step-owed inner runs (suc l) (suc m) sum entries held b bs f =
      let i : suc l - 1 ≡ l = omega arith in
      rw (i, take-append-add held (b ∷ bs) (suc l), drop-append-add held (b ∷ bs) (suc l))
      (counted-owed inner runs entries bs f.0 held b f.4 f.3 l m sum (omega (arith, f.5), λ d. let q = f.6 d in omega arith))

  pub counts-step-fits : (inner runs left more sum entries : ℕ) (held : List ℕ) (b : ℕ) (bs : List ℕ) → StepFits k n (Counts inner runs left more sum entries) held b bs e
  unfolding stepped_by Fits
  counts-step-fits inner runs zero more sum entries held b bs f = absurd (omega (arith, f.1))
  counts-step-fits inner runs (suc l) zero sum entries held b bs f = absurd (omega (arith, f.2))
  counts-step-fits inner runs (suc l) (suc m) sum entries held b bs f =
      let i : suc l - 1 ≡ l = omega arith in
      rw i
      (counted-fits inner runs entries bs f.0 held b f.4 f.3 l m sum (omega (arith, f.5), λ d. let q = f.6 d in omega arith))
