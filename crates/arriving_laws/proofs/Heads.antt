-- A run-length block that begins, and what begins behind its counts: what is owed and what is kept. Assumes nothing.
use Prim.Native.Nat.{ℕ, ◌*◌, ◌≤◌, ◌<◌}
use native.Mathlib.Nat.{add-zero, mul_comm}
use native.Mathlib.Omega.{arith}
use mathlib.Core.Bool.{Bool, true, false, cond, not}
use mathlib.Core.List.{List, [], ◌∷◌}
use mathlib.Core.Path.{◌≡◌, refl, sym, ap, ◌∙◌}
use lib.Dec.{ltb, eqb}
use lib.ListN.{length, take, drop}
use lib.Seq.{take_all, length-take-le}
use borrow.Author.Tests.{ltb-true, ltb-false, eqb-true, eqb-false, lt-ltb, eq-eqb, ne_eqb}
use Rattle.limits.specs.Refusals.{CUT, LENGTH, SUM, KEY}
use Rattle.encode.specs.declared.Primitive.TheVariants.{I32}
use Rattle.encode.specs.declared.Kind.{Kind}
use Rattle.encode.proofs.Bools.{clash}
use Rattle.plain.specs.Rules.{◌if◌, first_of}
use Rattle.plain.specs.Plain.{places, plain_number}
use Rattle.plain.proofs.Numbers.{fixed_number}
use Rattle.nullable.specs.Nullable.{nullable_number}
use Rattle.rle.specs.RunLength.{runs_in, run_length_number}
use Rattle.dict.specs.Dictionary.{i32, known, keys_number}
use Rattle.format.specs.declared.Encoding.{Encoding}
use Rattle.format.specs.declared.Encoding.TheVariants.{Plain, Nullable, RunLength, RunLengthNullable, Dictionary}
use Rattle.format.proofs.Answers.{first_one}
use Rattle.arriving.specs.Stages.{Stage, Done, RunHead}
use Rattle.arriving.specs.Arriving.{trailed, plain_from, no_runs, runs_from, keys_from, inner_from}
use Rattle.arriving_laws.specs.Owed.{trailed_by, keys_then, runs_owed, inner_owed, owed_by, tail_of, coded, Fits, Checked}
use Rattle.arriving_laws.proofs.Plains.{plain-owed, plain_fits, nullable-owed, nullable-fits}
use Rattle.arriving_laws.proofs.Keys.{known-taken, entries-owed, entries_fit, keys-owed, keys-fits}
use Rattle.arriving_laws.proofs.RunHeads.{never}

-- ---- behind the counts
dictionary-inner-owed :
    (k : Kind) (n : ℕ) → Checked k → (runs inner entries : ℕ) (xs : List ℕ) → inner ≤ length xs
    → owed_by k Dictionary n (inner_from k Dictionary runs inner entries (length xs)) [] xs ≡ inner_owed k Dictionary runs inner entries xs
unfolding inner_from inner_owed owed_by first_of
dictionary-inner-owed k n c runs inner entries xs room =
    go (eqb inner (4 * runs)) refl
    ∙ sym (rw (fixed_number I32 4 runs (take inner xs) refl, length-take-le inner xs room, mul_comm runs 4))
  where
    go : (t : Bool) → eqb inner (4 * runs) ≡ t
        → owed_by k Dictionary n (cond t (keys_from k runs entries (length xs)) (Done LENGTH)) [] xs
        ≡ first_of (
        LENGTH if not t
        ∷ KEY if not (known entries (take inner xs) (places runs 0))
        ∷ plain_number k entries (drop inner xs)
        ∷ [])
    go true q = rw (eqb-true inner (4 * runs) q, known-taken entries runs xs) (keys-owed k n c entries runs xs)
    go false q = refl

pub inner-owed :
    (k : Kind) (e : Encoding) (n : ℕ) → Checked k → (runs inner entries : ℕ) (xs : List ℕ) → coded e ≡ true → inner ≤ length xs
    → ((e ≡ Dictionary → ⊥) → inner ≡ length xs)
    → owed_by k e n (inner_from k e runs inner entries (length xs)) [] xs ≡ inner_owed k e runs inner entries xs
unfolding coded inner_from inner_owed tail_of trailed trailed_by
inner-owed k Plain n c runs inner entries xs d room exact = clash (sym d)
inner-owed k Nullable n c runs inner entries xs d room exact = clash (sym d)
inner-owed k RunLength n c runs inner entries xs d room exact =
    let z = exact (λ q. never cc) in
    plain-owed k RunLength n 0 runs inner xs c (omega arith) ∙ ap (plain_number k runs) (take_all inner xs (omega arith))
inner-owed k RunLengthNullable n c runs inner entries xs d room exact =
    rw (exact (λ q. never cc)) (nullable-owed k RunLengthNullable n runs xs c refl)
inner-owed k Dictionary n c runs inner entries xs d room exact = dictionary-inner-owed k n c runs inner entries xs room

pub inner-fits :
    (k : Kind) (e : Encoding) (n : ℕ) → Checked k → (runs inner entries m : ℕ) → coded e ≡ true → inner ≤ m
    → ((e ≡ Dictionary → ⊥) → inner ≡ m) → Fits k e (inner_from k e runs inner entries m) [] m
unfolding coded inner_from Fits tail_of trailed
inner-fits k Plain n c runs inner entries m d room exact = clash (sym d)
inner-fits k Nullable n c runs inner entries m d room exact = clash (sym d)
inner-fits k RunLength n c runs inner entries m d room exact =
    rw (← exact (λ q. never cc)) (rw add-zero at (plain_fits k RunLength 0 runs inner c))
inner-fits k RunLengthNullable n c runs inner entries m d room exact =
    rw (exact (λ q. never cc)) (nullable-fits k RunLengthNullable runs m c refl)
inner-fits k Dictionary n c runs inner entries m d room exact = go (eqb inner (4 * runs)) refl
  where
    go : (t : Bool) → eqb inner (4 * runs) ≡ t → Fits k Dictionary (cond t (keys_from k runs entries m) (Done LENGTH)) [] m
    go true q = let s = eqb-true inner (4 * runs) q in keys-fits k n c entries runs m (omega arith)
    go false q = refl

-- ---- a run-length block that begins
-- no bytes at all, or too few for a head
no_block : (inner : ℕ → List ℕ → ℕ) (n : ℕ) (ys : List ℕ) → length ys ≡ 0 → run_length_number inner n ys ≡ SUM if not (eqb n 0)
unfolding run_length_number
no_block inner n ys h = simp (eq-eqb (length ys) 0 h)

short-block : (inner : ℕ → List ℕ → ℕ) (n : ℕ) (ys : List ℕ) → (length ys ≡ 0 → ⊥) → length ys < 8 → run_length_number inner n ys ≡ CUT
unfolding run_length_number first_of
short-block inner n ys z h = simp (ne_eqb (length ys) 0 z, lt-ltb (length ys) 8 h)

-- over the rules of the items of its runs
runs-alone :
    (inner : ℕ → List ℕ → ℕ) (k : Kind) (e : Encoding) (n entries : ℕ) (xs : List ℕ)
    → owed_by k e n (RunHead (length xs) entries) [] xs ≡ run_length_number inner n xs
    → owed_by k e n
    (cond (eqb (length xs) 0) (cond (eqb n 0) (Done 0) (Done SUM)) (cond (ltb (length xs) 8) (Done CUT) (RunHead (length xs) entries))) [] xs
    ≡ run_length_number inner n xs
unfolding owed_by
runs-alone inner k e n entries xs h = go (eqb (length xs) 0) refl (eqb n 0) refl (ltb (length xs) 8) refl
  where
    go : (t : Bool) → eqb (length xs) 0 ≡ t → (u : Bool) → eqb n 0 ≡ u → (v : Bool) → ltb (length xs) 8 ≡ v
        → owed_by k e n (cond t (cond u (Done 0) (Done SUM)) (cond v (Done CUT) (RunHead (length xs) entries))) [] xs ≡ run_length_number inner n xs
    go true p true q v o = sym (no_block inner n xs (eqb-true (length xs) 0 p) ∙ rw q)
    go true p false q v o = sym (no_block inner n xs (eqb-true (length xs) 0 p) ∙ rw q)
    go false p u q true o = sym (short-block inner n xs (eqb-false (length xs) 0 p) (ltb-true (length xs) 8 o))
    go false p u q false o = h

-- of a dictionary: with no rows there may be no key block
no_keys :
    (k : Kind) (n entries : ℕ) (xs : List ℕ) → keys_then k n 0 entries xs ≡ cond (eqb n 0) (plain_number k entries xs) SUM
unfolding keys_then keys_number run_length_number runs_in known places first_of
no_keys k n entries xs = go (eqb n 0)
  where
    go : (t : Bool) → first_of (SUM if not t ∷ 0 ∷ plain_number k entries xs ∷ []) ≡ cond t (plain_number k entries xs) SUM
    go true = first_one (plain_number k entries xs)
    go false = refl

cut-first :
    (k : Kind) (n size entries : ℕ) (xs : List ℕ) → run_length_number (plain_number i32) n (take size xs) ≡ CUT → keys_then k n size entries xs ≡ CUT
unfolding keys_then first_of
cut-first k n size entries xs h = rw h

pub dictionary-runs-owed :
    (k : Kind) (n : ℕ) → Checked k → (size entries : ℕ) (xs : List ℕ) → size ≤ length xs
    → owed_by k Dictionary n (runs_from k Dictionary n size entries (length xs)) [] xs ≡ keys_then k n size entries xs
unfolding no_runs runs_from owed_by runs_owed
dictionary-runs-owed k n c size entries xs room = go (eqb size 0) refl (eqb n 0) refl (ltb size 8) refl
  where
    go : (t : Bool) → eqb size 0 ≡ t → (u : Bool) → eqb n 0 ≡ u → (v : Bool) → ltb size 8 ≡ v
        → owed_by k Dictionary n
        (cond t (cond u (plain_from k Dictionary 0 entries (length xs)) (Done SUM)) (cond v (Done CUT) (RunHead size entries))) [] xs
        ≡ keys_then k n size entries xs
    go true p true q v o = rw (eqb-true size 0 p, no_keys k n entries xs, q) (entries-owed k n c entries xs)
    go true p false q v o = rw (eqb-true size 0 p, no_keys k n entries xs, q)
    go false p u q true o =
        let l : length (take size xs) ≡ size = length-take-le size xs room in
        let z = eqb-false size 0 p in
        let s = ltb-true size 8 o in
        sym (cut-first k n size entries xs (short-block (plain_number i32) n (take size xs) (λ y. z (sym l ∙ y)) (omega arith)))
    go false p u q false o = refl

pub runs-owed :
    (k : Kind) (e : Encoding) (n : ℕ) → Checked k → (size entries : ℕ) (xs : List ℕ) → coded e ≡ true → size ≤ length xs
    → ((e ≡ Dictionary → ⊥) → size ≡ length xs)
    → owed_by k e n (runs_from k e n size entries (length xs)) [] xs ≡ runs_owed k e n size entries xs
unfolding coded no_runs runs_from runs_owed owed_by
runs-owed k Plain n c size entries xs d room exact = clash (sym d)
runs-owed k Nullable n c size entries xs d room exact = clash (sym d)
runs-owed k RunLength n c size entries xs d room exact =
    rw (exact (λ q. never cc)) (runs-alone (plain_number k) k RunLength n entries xs refl)
runs-owed k RunLengthNullable n c size entries xs d room exact =
    rw (exact (λ q. never cc)) (runs-alone (nullable_number k) k RunLengthNullable n entries xs refl)
runs-owed k Dictionary n c size entries xs d room exact = dictionary-runs-owed k n c size entries xs room

-- whatever follows where there are no runs
begun-fits :
    (k : Kind) (e : Encoding) (n size entries m : ℕ) (s : Stage) → coded e ≡ true → size ≤ m → ((e ≡ Dictionary → ⊥) → size ≡ m) → Fits k e s [] m
    → Fits k e (cond (eqb size 0) (cond (eqb n 0) s (Done SUM)) (cond (ltb size 8) (Done CUT) (RunHead size entries))) [] m
unfolding Fits
begun-fits k e n size entries m s d room exact h = go (eqb size 0) (eqb n 0) (ltb size 8) refl
  where
    go : (t u v : Bool) → ltb size 8 ≡ v → Fits k e (cond t (cond u s (Done SUM)) (cond v (Done CUT) (RunHead size entries))) [] m
    go true true v o = h
    go true false v o = refl
    go false u true o = refl
    go false u false o = let l = ltb-false size 8 o in (d, omega arith, l, omega arith, λ q. let y = exact q in omega arith)

pub runs-fits :
    (k : Kind) (e : Encoding) (n : ℕ) → Checked k → (size entries m : ℕ) → coded e ≡ true → size ≤ m
    → ((e ≡ Dictionary → ⊥) → size ≡ m) → Fits k e (runs_from k e n size entries m) [] m
unfolding coded no_runs runs_from Fits
runs-fits k Plain n c size entries m d room exact = clash (sym d)
runs-fits k Nullable n c size entries m d room exact = clash (sym d)
runs-fits k RunLength n c size entries m d room exact = begun-fits k RunLength n size entries m (Done 0) d room exact refl
runs-fits k RunLengthNullable n c size entries m d room exact = begun-fits k RunLengthNullable n size entries m (Done 0) d room exact refl
runs-fits k Dictionary n c size entries m d room exact =
    begun-fits k Dictionary n size entries m (plain_from k Dictionary 0 entries m) d room exact (entries_fit k n c entries m)
