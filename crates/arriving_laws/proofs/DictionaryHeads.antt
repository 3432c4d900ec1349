-- The head of a dictionary block: the length of its key block and the number of its entries, and a byte of either. Assumes nothing.
use Prim.Native.Nat.{ℕ, suc, ◌+◌, ◌≤◌}
use native.Mathlib.Omega.{arith}
use mathlib.Core.Bool.{Bool, true, false, cond}
use mathlib.Core.List.{List, [], ◌∷◌, ◌++◌}
use mathlib.Core.Path.{◌≡◌, refl, sym, ap, subst, ◌∙◌}
use lib.Dec.{ltb}
use lib.ListN.{length, take, drop, length-append, length-drop}
use lib.Seq.{drop-append-add, take_at, drop_at, drop-drop}
use borrow.Author.Tests.{ltb-true, ltb-false, lt-ltb, le-ltb}
use Rattle.limits.specs.Limits.{MOST_ENTRIES}
use Rattle.limits.specs.Refusals.{LIMIT, CUT}
use Rattle.encode.specs.Bytes.{number_of, high-first}
use Rattle.encode.specs.declared.Kind.{Kind}
use Rattle.plain.specs.Rules.{◌if◌, first_of}
use Rattle.plain.specs.Plain.{plain_number}
use Rattle.rle.specs.RunLength.{run_length_number}
use Rattle.dict.specs.Dictionary.{i32, key_length, entries_in, key_part, entries_part, keys_number, dictionary_rules, dictionary_number}
use Rattle.format.specs.declared.Encoding.{Encoding}
use Rattle.format.specs.declared.Encoding.TheVariants.{Dictionary}
use Rattle.format.proofs.Answers.{first_one}
use Rattle.arriving.specs.Stages.{Done, KeyLength, Entries}
use Rattle.arriving.specs.Arriving.{Waiting, runs_from, field_of, acted, stepped_by}
use Rattle.arriving_laws.specs.Owed.{keys_then, owed_by, owed, coded, Fits, Checked}
use Rattle.arriving_laws.proofs.Fields.{one_more, length_more, pushed-either}
use Rattle.arriving_laws.proofs.Steps.{StepOwed, StepFits}
use Rattle.arriving_laws.proofs.RunHeads.{first-behind}
use Rattle.arriving_laws.proofs.Heads.{dictionary-runs-owed, runs-fits}

-- ---- the number of a dictionary's entries, in four bytes
module _ (k : Kind) (n : ℕ) (c : Checked k) (keys : ℕ) (f : List ℕ) where
  entries-acted :
      (bs : List ℕ) → length f ≡ 4
      → owed_by k Dictionary n (Entries keys) f bs ≡ owed_by k Dictionary n (acted k Dictionary n (length bs) (Entries keys) f) [] bs
  unfolding owed_by acted first_of
  entries-acted bs four =
      rw (take_at f bs 4 four, drop_at f bs 4 four) (go (ltb MOST_ENTRIES (number_of high-first f)) (ltb (length bs) keys) refl)
    where
      go : (t u : Bool) → ltb (length bs) keys ≡ u
          → first_of (LIMIT if t ∷ CUT if u ∷ keys_then k n keys (number_of high-first f) bs ∷ [])
          ≡ owed_by k Dictionary n
          (cond t (Done LIMIT) (cond u (Done CUT) (runs_from k Dictionary n keys (number_of high-first f) (length bs)))) [] bs
      go true u p = refl
      go false true p = refl
      go false false p =
          first_one (keys_then k n keys (number_of high-first f) bs)
          ∙ sym (dictionary-runs-owed k n c keys (number_of high-first f) bs (ltb-false (length bs) keys p))

  entries-acted-fits : (m : ℕ) → Fits k Dictionary (acted k Dictionary n m (Entries keys) f) [] m
  unfolding acted Fits coded
  entries-acted-fits m = go (ltb MOST_ENTRIES (number_of high-first f)) (ltb m keys) refl
    where
      go : (t u : Bool) → ltb m keys ≡ u
          → Fits k Dictionary (cond t (Done LIMIT) (cond u (Done CUT) (runs_from k Dictionary n keys (number_of high-first f) m))) [] m
      go true u p = refl
      go false true p = refl
      go false false p = runs-fits k Dictionary n c keys (number_of high-first f) m refl (ltb-false m keys p) (λ d. absurd (d refl))

-- ---- the length of its key block, in eight bytes, and the parts of the block from there
module _ (f bs : List ℕ) (eight : length f ≡ 8) where
  key-length-read : key_length (f ++ bs) ≡ number_of high-first f
  unfolding key_length
  key-length-read = ap (number_of high-first) (take_at f bs 8 eight)

  entries-read : entries_in (f ++ bs) ≡ number_of high-first (take 4 bs)
  unfolding entries_in
  entries-read = ap (λ (l : List ℕ). number_of high-first (take 4 l)) (drop_at f bs 8 eight)

  key-part : (len : ℕ) → key_part len (f ++ bs) ≡ take len (drop 4 bs)
  unfolding key_part
  key-part len =
      let m : 12 ≡ length f + 4 = omega arith in ap (λ (i : ℕ). take len (drop i (f ++ bs))) m ∙ ap (take len) (drop-append-add f bs 4)

  entries-part : (len : ℕ) → entries_part len (f ++ bs) ≡ drop len (drop 4 bs)
  unfolding entries_part
  entries-part len =
      let m : 12 + len ≡ length f + (4 + len) = omega arith in
      ap (λ (i : ℕ). drop i (f ++ bs)) m ∙ drop-append-add f bs (4 + len) ∙ sym (drop-drop len 4 bs)

  module _ (four : 4 ≤ length bs) where
    key-room : (keys : ℕ) → ltb (8 + length bs) (12 + keys) ≡ ltb (length (drop 4 bs)) keys
    key-room keys = go (ltb (length (drop 4 bs)) keys) refl
      where
        go : (t : Bool) → ltb (length (drop 4 bs)) keys ≡ t → ltb (8 + length bs) (12 + keys) ≡ t
        go true h =
            let s = ltb-true (length (drop 4 bs)) keys h in lt-ltb (8 + length bs) (12 + keys) (omega (arith, length-drop 4 bs))
        go false h =
            let s = ltb-false (length (drop 4 bs)) keys h in le-ltb (8 + length bs) (12 + keys) (omega (arith, length-drop 4 bs))

    key-length-acted : (k : Kind) (n : ℕ) → owed_by k Dictionary n KeyLength f bs ≡ owed_by k Dictionary n (Entries (number_of high-first f)) [] bs
    unfolding owed_by dictionary_number dictionary_rules first_of keys_then
    key-length-acted k n =
        let keys : ℕ = number_of high-first f in
        let l : length (f ++ bs) ≡ 8 + length bs = length-append f bs ∙ omega arith in
        let s : ltb (8 + length bs) 12 ≡ false = le-ltb (8 + length bs) 12 (omega arith) in
        rw (key-length-read, entries-read, key-part keys, entries-part keys, l, s, key-room keys)
        (sym
        (first-behind (LIMIT if ltb MOST_ENTRIES (number_of high-first (take 4 bs)) ∷ CUT if ltb (length (drop 4 bs)) keys ∷ [])
        (run_length_number (plain_number i32) n (take keys (drop 4 bs))
        ∷ keys_number (number_of high-first (take 4 bs)) (take keys (drop 4 bs))
        ∷ plain_number k (number_of high-first (take 4 bs)) (drop keys (drop 4 bs))
        ∷ [])))

-- ---- a byte of either
module _ (k : Kind) (n : ℕ) (c : Checked k) (held : List ℕ) (b : ℕ) (bs : List ℕ) where
  abbrev field : List ℕ
  field = held ++ (b ∷ [])

  entries-owed-at : (keys : ℕ) → StepOwed k n (Entries keys) held b bs Dictionary
  unfolding stepped_by field_of owed_by
  entries-owed-at keys h =
      rw (one_more held bs b)
      (pushed-either (λ (w : Waiting). owed_by k Dictionary n (Entries keys) field bs ≡ owed k Dictionary n w bs) k Dictionary n (length bs) (Entries keys) field
      (λ q. entries-acted k n c keys field bs q)
      (λ q. refl))

  entries-fits-at : (keys : ℕ) → StepFits k n (Entries keys) held b bs Dictionary
  unfolding Fits stepped_by field_of
  entries-fits-at keys h =
      let l : length field ≡ suc (length held) = length_more held b in
      pushed-either (λ (w : Waiting). Fits k Dictionary w.stage w.held (length bs)) k Dictionary n (length bs) (Entries keys) field
      (λ q. entries-acted-fits k n c keys field (length bs))
      (λ q. (refl, omega arith, omega arith))

  key-length-owed-at : StepOwed k n KeyLength held b bs Dictionary
  unfolding Fits stepped_by field_of owed_by acted
  key-length-owed-at h =
      let l : length field ≡ suc (length held) = length_more held b in
      rw (one_more held bs b)
      (pushed-either (λ (w : Waiting). owed_by k Dictionary n KeyLength field bs ≡ owed k Dictionary n w bs) k Dictionary n (length bs) KeyLength field
      (λ q. key-length-acted field bs q (omega arith) k n)
      (λ q. refl))

  key-length-fits-at : StepFits k n KeyLength held b bs Dictionary
  unfolding Fits stepped_by field_of acted
  key-length-fits-at h =
      let l : length field ≡ suc (length held) = length_more held b in
      pushed-either (λ (w : Waiting). Fits k Dictionary w.stage w.held (length bs)) k Dictionary n (length bs) KeyLength field
      (λ q. (refl, omega arith, omega arith))
      (λ q. (refl, omega arith, omega arith))

-- both are a dictionary's alone
module _ (k : Kind) (e : Encoding) (n : ℕ) (c : Checked k) where
  pub entries-step-owed : (keys : ℕ) (held : List ℕ) (b : ℕ) (bs : List ℕ) → StepOwed k n (Entries keys) held b bs e
  unfolding Fits
  entries-step-owed keys held b bs h = subst (StepOwed k n (Entries keys) held b bs) (sym h.0) (entries-owed-at k n c held b bs keys) h

  pub entries-step-fits : (keys : ℕ) (held : List ℕ) (b : ℕ) (bs : List ℕ) → StepFits k n (Entries keys) held b bs e
  unfolding Fits
  entries-step-fits keys held b bs h = subst (StepFits k n (Entries keys) held b bs) (sym h.0) (entries-fits-at k n c held b bs keys) h

  pub key-length-step-owed : (held : List ℕ) (b : ℕ) (bs : List ℕ) → StepOwed k n KeyLength held b bs e
  unfolding Fits
  key-length-step-owed held b bs h = subst (StepOwed k n KeyLength held b bs) (sym h.0) (key-length-owed-at k n c held b bs) h

  pub key-length-step-fits : (held : List ℕ) (b : ℕ) (bs : List ℕ) → StepFits k n KeyLength held b bs e
  unfolding Fits
  key-length-step-fits held b bs h = subst (StepFits k n KeyLength held b bs) (sym h.0) (key-length-fits-at k n c held b bs) h
