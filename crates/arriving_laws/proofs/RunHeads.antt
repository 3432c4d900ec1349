-- The head of a run-length block: its rules from there on, and a byte of it. Assumes nothing.
use Rattle.std.specs.Prelude.{Result, Ok, Err}
use Prim.Native.Nat.{ℕ, zero, suc, ◌+◌, ◌-◌, ◌≤◌}
use native.Mathlib.Nat.{zero-add}
use native.Mathlib.Omega.{arith}
use mathlib.Core.Bool.{Bool, true, false, cond, not}
use mathlib.Core.List.{List, [], ◌∷◌, ◌++◌}
use mathlib.Core.Path.{◌≡◌, refl, sym, ap, ◌∙◌}
use lib.Dec.{ltb, eqb}
use lib.ListN.{length, take, drop, length-append, length-drop}
use lib.Seq.{take-append-le, drop-append-le, take-append-add, drop-append-add, take_at, drop_at, drop-drop, take-take, length-take-le}
use borrow.Author.Tests.{ltb-false, eqb-true, eqb-false, le-ltb, ne_eqb}
use Rattle.limits.specs.Limits.{MOST_ITEMS}
use Rattle.limits.specs.Refusals.{LIMIT, CUT, COUNTS, KEY}
use Rattle.encode.specs.Bytes.{number}
use Rattle.encode.specs.declared.Kind.{Kind}
use Rattle.encode.proofs.Bools.{clash}
use Rattle.plain.specs.Rules.{◌if◌, first_of}
use Rattle.plain.specs.Plain.{places, plain_number}
use Rattle.nullable.specs.Nullable.{nullable_number}
use Rattle.rle.specs.RunLength.{runs_in, counts_length, counts_part, inner_part, plus, walked, walk_number, run_length_number}
use Rattle.dict.specs.Dictionary.{i32, known, keys_number}
use Rattle.format.specs.declared.Encoding.{Encoding}
use Rattle.format.specs.declared.Encoding.TheVariants.{Plain, Nullable, RunLength, RunLengthNullable, Dictionary}
use Rattle.format.proofs.Answers.{first_one}
use Rattle.arriving.specs.Stages.{Done, RunHead, Counts}
use Rattle.arriving.specs.Arriving.{Waiting, head_read, field_of, acted, stepped_by}
use Rattle.arriving_laws.specs.Owed.{keys_then, runs_owed, inner_owed, owed_by, owed, coded, Unended, Fits}
use Rattle.arriving_laws.proofs.Fields.{one_more, length_more, pushed-either}
use Rattle.arriving_laws.proofs.Keys.{drop-taken}
use Rattle.arriving_laws.proofs.Steps.{StepOwed, StepFits}

-- ---- rules one after another
-- rules taken as one before others, and behind others
first-before : (es rules : List ℕ) → first_of (first_of es ∷ rules) ≡ first_of (es ++ rules)
unfolding first_of
first-before [] rules = refl
first-before (zero ∷ es) rules = first-before es rules
first-before (suc e ∷ es) rules = refl

pub first-behind : (es rules : List ℕ) → first_of (es ++ (first_of rules ∷ [])) ≡ first_of (es ++ rules)
unfolding first_of
first-behind [] rules = first_one (first_of rules)
first-behind (zero ∷ es) rules = first-behind es rules
first-behind (suc e ∷ es) rules = refl

-- what follows a rule that is broken doesn't matter
cut-alike : (a b : ℕ) (x y : List ℕ) → first_of (a ∷ b ∷ CUT ∷ x) ≡ first_of (a ∷ b ∷ CUT ∷ y)
unfolding first_of
cut-alike zero zero x y = refl
cut-alike zero (suc b) x y = refl
cut-alike (suc a) b x y = refl

rules-alike :
    (a b c d x y z : ℕ) → first_of (first_of (a ∷ b ∷ c ∷ d ∷ x ∷ []) ∷ y ∷ z ∷ []) ≡ first_of (a ∷ b ∷ c ∷ d ∷ first_of (x ∷ y ∷ z ∷ []) ∷ [])
rules-alike a b c d x y z = first-before (a ∷ b ∷ c ∷ d ∷ x ∷ []) (y ∷ z ∷ []) ∙ sym (first-behind (a ∷ b ∷ c ∷ d ∷ []) (x ∷ y ∷ z ∷ []))

-- ---- small laws
pub never : {A : Type 0} → ◌≡◌ {A = ℕ} 0 1 → A
never z = absurd (omega arith)

plus-zero : (w : Result ℕ ℕ) → plus 0 w ≡ w
unfolding plus
plus-zero (Ok t) = ap Ok (zero-add t)
plus-zero (Err x) = refl

-- ---- a run-length block of eight bytes and more
-- its rules, from the numbers in its head, the bytes behind it and what the inner rules say
abbrev head_rules : ℕ → ℕ → ℕ → ℕ → List ℕ → ℕ → List ℕ
head_rules n size runs counts bs inner =
    LIMIT if ltb MOST_ITEMS runs
    ∷ COUNTS if eqb runs 0
    ∷ CUT if ltb size (8 + counts)
    ∷ walk_number n (walked runs (take counts bs))
    ∷ inner
    ∷ []

module _ (f bs : List ℕ) (eight : length f ≡ 8) where
  runs-read : runs_in (f ++ bs) ≡ number (take 4 f)
  unfolding runs_in
  runs-read = ap number (take-append-le 4 f bs (omega arith))

  counts-read : counts_length (f ++ bs) ≡ number (drop 4 f)
  unfolding counts_length
  counts-read =
      ap (λ (l : List ℕ). number (take 4 l)) (drop-append-le 4 f bs (omega arith))
      ∙ ap number (take_at (drop 4 f) bs 4 (length-drop 4 f ∙ omega arith))

  counts_behind : (len : ℕ) → counts_part len (f ++ bs) ≡ take len bs
  unfolding counts_part
  counts_behind len = ap (take len) (drop_at f bs 8 eight)

  inner-behind : (len : ℕ) → inner_part len (f ++ bs) ≡ drop len bs
  unfolding inner_part
  inner-behind len = let m : 8 + len ≡ length f + len = omega arith in rw (m, drop-append-add f bs len)

  keys-read : (entries : ℕ) → keys_number entries (f ++ bs) ≡ KEY if not (known entries (drop (number (drop 4 f)) bs) (places (number (take 4 f)) 0))
  unfolding keys_number
  keys-read entries = rw (counts-read, inner-behind (number (drop 4 f)), runs-read)

  head-rules :
      (inner : ℕ → List ℕ → ℕ) (n : ℕ)
      → run_length_number inner n (f ++ bs)
      ≡ first_of (head_rules n (8 + length bs) (number (take 4 f)) (number (drop 4 f)) bs (inner (number (take 4 f)) (drop (number (drop 4 f)) bs)))
  unfolding run_length_number first_of
  head-rules inner n =
      let l : length (f ++ bs) ≡ 8 + length bs = length-append f bs ∙ omega arith in
      let z : eqb (8 + length bs) 0 ≡ false = ne_eqb (8 + length bs) 0 (λ q. omega arith) in
      let s : ltb (8 + length bs) 8 ≡ false = le-ltb (8 + length bs) 8 (omega arith) in
      rw (runs-read, counts-read, counts_behind (number (drop 4 f)), inner-behind (number (drop 4 f)), l, z, s)

-- what is owed behind the head are the same rules
module _ (k : Kind) (e : Encoding) (n size entries runs counts : ℕ) (bs : List ℕ) where
  abbrev inner_rules : ℕ
  inner_rules = inner_owed k e runs (size - (8 + counts)) entries (drop counts bs)

  counts-owed :
      owed_by k e n (Counts (size - (8 + counts)) runs counts runs 0 entries) [] bs
      ≡ first_of (walk_number n (walked runs (take counts bs)) ∷ inner_rules ∷ [])
  unfolding owed_by
  counts-owed = rw (zero-add counts, plus-zero (walked runs (take counts bs)))

  no-counts : (r : ℕ) → runs ≡ r → (runs ≡ 0 → ⊥) → counts ≡ 0 → walk_number n (walked runs (take counts bs)) ≡ COUNTS
  unfolding walked walk_number
  no-counts zero q h z = absurd (h q)
  no-counts (suc r) q h z = rw (q, z)

  read-owed : owed_by k e n (head_read size entries runs counts) [] bs ≡ first_of (head_rules n size runs counts bs inner_rules)
  unfolding head_read first_of owed_by
  read-owed = go (ltb MOST_ITEMS runs) (eqb runs 0) refl (ltb size (8 + counts)) (eqb counts 0) refl
    where
      go : (t u : Bool) → eqb runs 0 ≡ u → (v w : Bool) → eqb counts 0 ≡ w
          → owed_by k e n
          (cond t (Done LIMIT)
          (cond u (Done COUNTS)
          (cond v (Done CUT) (cond w (Done COUNTS) (Counts (size - (8 + counts)) runs counts runs 0 entries))))) [] bs
          ≡ first_of (LIMIT if t ∷ COUNTS if u ∷ CUT if v ∷ walk_number n (walked runs (take counts bs)) ∷ inner_rules ∷ [])
      go true u p v w q = refl
      go false true p v w q = refl
      go false false p true w q = refl
      go false false p false true q = rw (no-counts runs refl (eqb-false runs 0 p) (eqb-true counts 0 q))
      go false false p false false q = counts-owed

  read_fits :
      (m : ℕ) → coded e ≡ true → size ≤ 8 + m → ((e ≡ Dictionary → ⊥) → size ≡ 8 + m) → Fits k e (head_read size entries runs counts) [] m
  unfolding head_read Fits Unended
  read_fits m c h g = go (ltb MOST_ITEMS runs) (eqb runs 0) refl (ltb size (8 + counts)) refl (eqb counts 0) refl
    where
      go : (t u : Bool) → eqb runs 0 ≡ u → (v : Bool) → ltb size (8 + counts) ≡ v → (w : Bool) → eqb counts 0 ≡ w
          → Fits k e
          (cond t (Done LIMIT)
          (cond u (Done COUNTS)
          (cond v (Done CUT) (cond w (Done COUNTS) (Counts (size - (8 + counts)) runs counts runs 0 entries))))) [] m
      go true u p v o w q = refl
      go false true p v o w q = refl
      go false false p true o w q = refl
      go false false p false o true q = refl
      go false false p false o false q =
          let r = eqb-false runs 0 p in
          let s = ltb-false size (8 + counts) o in
          let z = eqb-false counts 0 q in
          (c, omega arith, omega arith, omega arith, tt, omega arith, λ d. let y = g d in omega arith)

-- ---- a dictionary's key block, in so many of the bytes
module _ (f bs : List ℕ) (eight : length f ≡ 8) (size : ℕ) (long : 8 ≤ size) (room : size ≤ length f + length bs) where
  key-block : take size (f ++ bs) ≡ f ++ take (size - 8) bs
  key-block = let m : size ≡ length f + (size - 8) = omega arith in ap (λ (i : ℕ). take i (f ++ bs)) m ∙ take-append-add f bs (size - 8)

  key-block-long : 8 + length (take (size - 8) bs) ≡ size
  key-block-long = let l = length-take-le (size - 8) bs (omega arith) in omega arith

  -- its counts, its keys and what lies behind it
  module _ (counts : ℕ) (fit : 8 + counts ≤ size) where
    key_counts : take counts (take (size - 8) bs) ≡ take counts bs
    key_counts = take-take counts (size - 8) bs (omega arith)

    key-inner : drop counts (take (size - 8) bs) ≡ take (size - (8 + counts)) (drop counts bs)
    key-inner =
        let m : size - 8 ≡ counts + (size - (8 + counts)) = omega arith in
        ap (λ (i : ℕ). drop counts (take i bs)) m ∙ drop-taken counts (size - (8 + counts)) bs

    key-behind : drop size (f ++ bs) ≡ drop (size - (8 + counts)) (drop counts bs)
    key-behind =
        let m : size ≡ length f + (counts + (size - (8 + counts))) = omega arith in
        ap (λ (i : ℕ). drop i (f ++ bs)) m
        ∙ drop-append-add f bs (counts + (size - (8 + counts)))
        ∙ sym (drop-drop (size - (8 + counts)) counts bs)

  dictionary-rules :
      (k : Kind) (n entries : ℕ)
      → keys_then k n size entries (f ++ bs)
      ≡ first_of
      (head_rules n size (number (take 4 f)) (number (drop 4 f)) bs
      (inner_owed k Dictionary (number (take 4 f)) (size - (8 + number (drop 4 f))) entries (drop (number (drop 4 f)) bs)))
  unfolding keys_then inner_owed
  dictionary-rules k n entries =
      rw (key-block, head-rules f (take (size - 8) bs) eight (plain_number i32) n, keys-read f (take (size - 8) bs) eight entries, key-block-long)
      (go (number (take 4 f)) (number (drop 4 f)) (ltb size (8 + number (drop 4 f))) refl)
    where
      go : (runs counts : ℕ) (t : Bool) → ltb size (8 + counts) ≡ t
          → first_of (
          first_of (
          LIMIT if ltb MOST_ITEMS runs
          ∷ COUNTS if eqb runs 0
          ∷ CUT if t
          ∷ walk_number n (walked runs (take counts (take (size - 8) bs)))
          ∷ plain_number i32 runs (drop counts (take (size - 8) bs))
          ∷ [])
          ∷ KEY if not (known entries (drop counts (take (size - 8) bs)) (places runs 0))
          ∷ plain_number k entries (drop size (f ++ bs))
          ∷ [])
          ≡ first_of (
          LIMIT if ltb MOST_ITEMS runs
          ∷ COUNTS if eqb runs 0
          ∷ CUT if t
          ∷ walk_number n (walked runs (take counts bs))
          ∷ inner_owed k Dictionary runs (size - (8 + counts)) entries (drop counts bs)
          ∷ [])
      go runs counts true h = first-before _ _ ∙ cut-alike (LIMIT if ltb MOST_ITEMS runs) (COUNTS if eqb runs 0) _ _
      go runs counts false h =
          let l = ltb-false size (8 + counts) h in
          rw (key_counts counts l, key-inner counts l, key-behind counts l) (rules-alike _ _ _ _ _ _ _)

-- ---- the rules of a block of coded runs, from its head and what lies behind it
module _ (f bs : List ℕ) (eight : length f ≡ 8) (size : ℕ) (long : 8 ≤ size) (room : size ≤ length f + length bs) where
  runs-rules :
      (k : Kind) (e : Encoding) (n entries : ℕ) → coded e ≡ true → ((e ≡ Dictionary → ⊥) → size ≡ length f + length bs)
      → runs_owed k e n size entries (f ++ bs)
      ≡ first_of
      (head_rules n size (number (take 4 f)) (number (drop 4 f)) bs
      (inner_owed k e (number (take 4 f)) (size - (8 + number (drop 4 f))) entries (drop (number (drop 4 f)) bs)))
  unfolding runs_owed inner_owed coded
  runs-rules k Plain n entries c h = clash (sym c)
  runs-rules k Nullable n entries c h = clash (sym c)
  runs-rules k RunLength n entries c h =
      let z = h (λ q. never cc) in
      let s : size ≡ 8 + length bs = omega arith in
      rw s (head-rules f bs eight (plain_number k) n)
  runs-rules k RunLengthNullable n entries c h =
      let z = h (λ q. never cc) in
      let s : size ≡ 8 + length bs = omega arith in
      rw s (head-rules f bs eight (nullable_number k) n)
  runs-rules k Dictionary n entries c h = dictionary-rules f bs eight size long room k n entries

-- ---- a byte of the head of a run-length block
module _ (k : Kind) (e : Encoding) (n size entries : ℕ) (held : List ℕ) (b : ℕ) (bs : List ℕ) where
  abbrev field : List ℕ
  field = held ++ (b ∷ [])

  pub run-head-step-owed : StepOwed k n (RunHead size entries) held b bs e
  unfolding Fits stepped_by field_of owed_by acted
  run-head-step-owed h =
      let l : length field ≡ suc (length held) = length_more held b in
      rw (one_more held bs b)
      (pushed-either (λ (w : Waiting). owed_by k e n (RunHead size entries) field bs ≡ owed k e n w bs) k e n (length bs) (RunHead size entries) field
      (λ q.
      runs-rules field bs q size h.2 (omega arith) k e n entries h.0 (λ d. let y = h.4 d in omega arith)
      ∙ sym (read-owed k e n size entries (number (take 4 field)) (number (drop 4 field)) bs))
      (λ q. refl))

  pub run-head-step-fits : StepFits k n (RunHead size entries) held b bs e
  unfolding Fits stepped_by field_of acted
  run-head-step-fits h =
      let l : length field ≡ suc (length held) = length_more held b in
      pushed-either (λ (w : Waiting). Fits k e w.stage w.held (length bs)) k e n (length bs) (RunHead size entries) field
      (λ q.
      read_fits k e n size entries (number (take 4 field)) (number (drop 4 field)) bs (length bs) h.0 (omega arith) (λ d. let y = h.4 d in omega arith))
      (λ q. (h.0, omega arith, h.2, omega arith, λ d. let y = h.4 d in omega arith))
