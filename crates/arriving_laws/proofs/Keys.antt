-- The keys of a dictionary block, one after another: what is owed and what is kept. Assumes nothing.
use Prim.Native.Nat.{ℕ, zero, suc, ◌+◌, ◌-◌, ◌*◌, ◌≤◌, ◌<◌}
use native.Mathlib.Omega.{arith}
use native.Mathlib.Nat.{add-zero, zero-add, suc-add}
use mathlib.Core.Bool.{Bool, true, false, cond, not, ◌&&◌}
use mathlib.Core.List.{List, [], ◌∷◌, ◌++◌}
use mathlib.Core.Path.{◌≡◌, refl, sym, ap, subst, ◌∙◌}
use lib.Dec.{ltb, leb}
use lib.IntN.{pos, ◌+ℤ◌, nat_abs}
use lib.ListN.{length, take, drop}
use lib.Seq.{take-length, take-append-le, drop-append-add, take-nil, take-take}
use borrow.Author.Tests.{ltb-true, ltb-false, lt-leb, le-leb}
use Rattle.limits.specs.Refusals.{KEY}
use Rattle.encode.specs.Kinds.{decoded}
use Rattle.encode.specs.declared.Primitive.TheVariants.{I32}
use Rattle.encode.specs.declared.Kind.{Kind}
use Rattle.plain.specs.Rows.{int_in}
use Rattle.plain.specs.Rules.{◌if◌, first_of}
use Rattle.plain.specs.Plain.{places, plain_row, fixed_at, plain_number}
use Rattle.dict.specs.Dictionary.{slot_at, known}
use Rattle.format.specs.declared.Encoding.{Encoding}
use Rattle.format.specs.declared.Encoding.TheVariants.{Dictionary}
use Rattle.format.proofs.Answers.{first_one}
use Rattle.arriving.specs.Stages.{Done, Keys}
use Rattle.arriving.specs.Arriving.{Waiting, trailed, plain_from, keys_from, field_of, acted, stepped_by}
use Rattle.arriving_laws.specs.Owed.{trailed_by, owed_by, owed, tail_of, Fits, Checked}
use Rattle.arriving_laws.proofs.Fields.{one_more, length_more, pushed-either}
use Rattle.arriving_laws.proofs.Plains.{plain-owed, plain_fits}
use Rattle.arriving_laws.proofs.Steps.{StepOwed, StepFits}

-- ---- lists
pub drop-taken : (m n : ℕ) (l : List ℕ) → drop m (take (m + n) l) ≡ take n (drop m l)
drop-taken zero n l = rw zero-add
drop-taken (suc m) n [] = rw suc-add (sym (take-nil n))
drop-taken (suc m) n (x ∷ l) = rw suc-add (drop-taken m n l)

-- ---- what keys name
-- a key is read from its four bytes alone
slot_same : (a b : List ℕ) (i j : ℕ) → take 4 (drop (i * 4) a) ≡ take 4 (drop (j * 4) b) → slot_at a i ≡ slot_at b j
unfolding slot_at plain_row int_in fixed_at
slot_same a b i j q = ap (λ (l : List ℕ). nat_abs (decoded I32 l +ℤ pos 2147483648)) q

known_same :
    (entries : ℕ) (a b : List ℕ) (n i j : ℕ) → ((x : ℕ) → x < n → slot_at a (i + x) ≡ slot_at b (j + x))
    → known entries a (places n i) ≡ known entries b (places n j)
unfolding known places
known_same entries a b zero i j h = refl
known_same entries a b (suc n) i j h =
    let p : i + 0 ≡ i = omega arith in
    let q : j + 0 ≡ j = omega arith in
    let one : slot_at a i ≡ slot_at b j = rw (p, q) at (h 0 (omega arith)) in
    rw one
    (ap (λ (t : Bool). leb (slot_at b j) entries && t)
    (known_same entries a b n (suc i) (suc j)
    (λ x l. let p : suc i + x ≡ i + suc x = omega arith in let q : suc j + x ≡ j + suc x = omega arith in rw (p, q) (h (suc x) (omega arith)))))

-- the keys in the first so many bytes are those of the whole
pub known-taken :
    (entries runs : ℕ) (xs : List ℕ) → known entries (take (4 * runs) xs) (places runs 0) ≡ known entries xs (places runs 0)
known-taken entries runs xs =
    known_same entries (take (4 * runs) xs) xs runs 0 0
    (λ x l. let m : 4 * runs ≡ x * 4 + (4 * runs - x * 4) = omega arith in
    rw zero-add
    (slot_same (take (4 * runs) xs) xs x x
    (ap (λ (c : ℕ). take 4 (drop (x * 4) (take c xs))) m
    ∙ ap (take 4) (drop-taken (x * 4) (4 * runs - x * 4) xs)
    ∙ take-take 4 (4 * runs - x * 4) (drop (x * 4) xs) (omega arith))))

module _ (f bs : List ℕ) (four : length f ≡ 4) where
  first_key : slot_at (f ++ bs) 0 ≡ slot_at f 0
  first_key = slot_same (f ++ bs) f 0 0 (take-append-le 4 f bs (omega arith))

  next-key : (x : ℕ) → slot_at (f ++ bs) (1 + x) ≡ slot_at bs (0 + x)
  next-key x =
      let m : (1 + x) * 4 ≡ length f + x * 4 = omega arith in
      rw zero-add (slot_same (f ++ bs) bs (1 + x) x (rw (m, drop-append-add f bs (x * 4))))

  -- the first key, and then the others
  known_more :
      (entries m : ℕ) → known entries (f ++ bs) (places (suc m) 0) ≡ leb (slot_at f 0) entries && known entries bs (places m 0)
  unfolding known places
  known_more entries m = rw first_key (ap (λ (t : Bool). leb (slot_at f 0) entries && t) (known_same entries (f ++ bs) bs m 1 0 (λ x l. next-key x)))

module _ (k : Kind) (n : ℕ) (c : Checked k) (entries : ℕ) where
  -- ---- the entries alone
  pub entries-owed : (xs : List ℕ) → owed_by k Dictionary n (plain_from k Dictionary 0 entries (length xs)) [] xs ≡ plain_number k entries xs
  unfolding tail_of trailed trailed_by
  entries-owed xs = plain-owed k Dictionary n 0 entries (length xs) xs c (omega arith) ∙ ap (plain_number k entries) (take-length xs)

  pub entries_fit : (rest : ℕ) → Fits k Dictionary (plain_from k Dictionary 0 entries rest) [] rest
  unfolding tail_of trailed
  entries_fit rest = rw add-zero at (plain_fits k Dictionary 0 entries rest c)

  -- ---- so many keys, and behind them the entries
  pub keys-owed :
      (m : ℕ) (xs : List ℕ)
      → owed_by k Dictionary n (keys_from k m entries (length xs)) [] xs
      ≡ first_of (KEY if not (known entries xs (places m 0)) ∷ plain_number k entries (drop (4 * m) xs) ∷ [])
  unfolding keys_from owed_by known places first_of
  keys-owed zero xs = entries-owed xs ∙ sym (first_one (plain_number k entries xs))
  keys-owed (suc m) xs = refl

  pub keys-fits : (m rest : ℕ) → 4 * m ≤ rest → Fits k Dictionary (keys_from k m entries rest) [] rest
  unfolding keys_from Fits
  keys-fits zero rest h = entries_fit rest
  keys-fits (suc m) rest h = (refl, omega arith, omega arith, omega arith)

  -- ---- a whole key
  key-owed :
      (left : ℕ) (f bs : List ℕ) → 0 < left → length f ≡ 4
      → owed_by k Dictionary n (Keys left entries) f bs ≡ owed_by k Dictionary n (acted k Dictionary n (length bs) (Keys left entries) f) [] bs
  unfolding owed_by acted first_of
  key-owed zero f bs l four = absurd (omega arith)
  key-owed (suc m) f bs l four = go (ltb entries (slot_at f 0)) refl
    where
      go : (t : Bool) → ltb entries (slot_at f 0) ≡ t
          → first_of (KEY if not (known entries (f ++ bs) (places (suc m) 0)) ∷ plain_number k entries (drop (4 * suc m) (f ++ bs)) ∷ [])
          ≡ owed_by k Dictionary n (cond t (Done KEY) (keys_from k (suc m - 1) entries (length bs))) [] bs
      go true q = rw (known_more f bs four entries m, lt-leb (slot_at f 0) entries (ltb-true entries (slot_at f 0) q))
      go false q =
          let p : suc m - 1 ≡ m = omega arith in
          let d : 4 * suc m ≡ length f + 4 * m = omega arith in
          rw (known_more f bs four entries m, le-leb (slot_at f 0) entries (ltb-false entries (slot_at f 0) q), p, d, drop-append-add f bs (4 * m))
          (sym (keys-owed m bs))

  key_fits :
      (left rest : ℕ) (f : List ℕ) → 4 * left ≤ 4 + rest → Fits k Dictionary (acted k Dictionary n rest (Keys left entries) f) [] rest
  unfolding acted Fits
  key_fits left rest f h = go (ltb entries (slot_at f 0))
    where
      go : (t : Bool) → Fits k Dictionary (cond t (Done KEY) (keys_from k (left - 1) entries rest)) [] rest
      go true = refl
      go false = keys-fits (left - 1) rest (omega arith)

  -- ---- a byte of one
  module _ (left : ℕ) (held : List ℕ) (b : ℕ) (bs : List ℕ) where
    abbrev field : List ℕ
    field = held ++ (b ∷ [])

    step-owed : StepOwed k n (Keys left entries) held b bs Dictionary
    unfolding Fits stepped_by field_of owed_by
    step-owed h =
        rw (one_more held bs b)
        (pushed-either (λ (w : Waiting). owed_by k Dictionary n (Keys left entries) field bs ≡ owed k Dictionary n w bs) k Dictionary n (length bs) (Keys left entries) field
        (λ q. key-owed left field bs h.1 q)
        (λ q. refl))

    step_fits : StepFits k n (Keys left entries) held b bs Dictionary
    unfolding Fits stepped_by field_of
    step_fits h =
        let l : length field ≡ suc (length held) = length_more held b in
        pushed-either (λ (w : Waiting). Fits k Dictionary w.stage w.held (length bs)) k Dictionary n (length bs) (Keys left entries) field
        (λ q. key_fits left (length bs) field (omega arith))
        (λ q. (refl, omega arith, omega arith, omega arith))

-- keys are a dictionary's alone
module _ (k : Kind) (e : Encoding) (n : ℕ) (c : Checked k) (left entries : ℕ) (held : List ℕ) (b : ℕ) (bs : List ℕ) where
  pub keys-step-owed : StepOwed k n (Keys left entries) held b bs e
  unfolding Fits
  keys-step-owed h = subst (StepOwed k n (Keys left entries) held b bs) (sym h.0) (step-owed k n c entries left held b bs) h

  pub keys-step-fits : StepFits k n (Keys left entries) held b bs e
  unfolding Fits
  keys-step-fits h = subst (StepFits k n (Keys left entries) held b bs) (sym h.0) (step_fits k n c entries left held b bs) h
