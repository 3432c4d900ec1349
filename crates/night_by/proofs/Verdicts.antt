-- Which case of the definitions the tests of `file_verdict`, `column_verdict` and `sheet_number` lead to, and that no verdict is that they differ. Assumes nothing.
use Prim.Native.Nat.{ℕ, zero, suc, ◌+◌, ◌≤◌, ◌<◌}
use native.Mathlib.Omega.{arith}
use mathlib.Core.Bool.{Bool, true, false, cond}
use mathlib.Core.List.{List, []}
use mathlib.Core.Logic.{⊎_elim}
use mathlib.Core.Path.{◌≡◌, refl, sym, ap, ◌∙◌}
use lib.Dec.{ltb, eqb}
use lib.ListN.{length, take, drop, length-take, length-drop}
use borrow.Author.Tests.{lt-ltb, le-ltb, eq-eqb, ne_eqb}
use Rattle.limits.specs.Limits.{MOST_INPUT, MOST_FILE, MOST_COLUMNS}
use Rattle.limits.specs.Refusals.{LIMIT, CUT, SHEET, OUTSIDE}
use Rattle.area.proofs.Laws.{lt-or-ge}
use Rattle.descriptor.specs.declared.Descriptor.{Descriptor}
use Rattle.descriptor.specs.Descriptor.{descriptor_of, described_number, described_opened}
use Rattle.text.specs.Input.{block_in}
use Rattle.sheet.specs.declared.Found.{Found}
use Rattle.sheet.specs.Sheet.{columns_in, directory_end, entry_at, descriptor_in, offset_in, length_in, named_by, sheet_number, opened_in, found_by, column_found, column_part}
use Rattle.sheet.proofs.Numbers as tests
use Rattle.slow_laws.specs.Agreeing.{fresh}
use Rattle.night_rows.specs.declared.Verdict.{Verdict}
use Rattle.night_rows.specs.declared.Verdict.TheVariants.{Same, Refused}
use Rattle.night_rows.specs.Night.{verdict_of}
use Rattle.night_by.specs.Night.{file_verdict, Directory, column_verdict, differing}
use Rattle.night_by.proofs.Openings.{found_number, found-reader}

-- a verdict of the same descriptor and block
verdict-as : {d d' : Descriptor} {b b' : List ℕ} {v : Verdict} → d ≡ d' → b ≡ b' → v ≡ verdict_of d b → v ≡ verdict_of d' b'
verdict-as {d} {d'} {b} p q e = e ∙ ap (λ (x : Descriptor). verdict_of x b) p ∙ ap (verdict_of d') q

-- ---- a file of a descriptor and a block
module _ (f : List ℕ) where
  pub no-descriptor : length f < 8 → Refused CUT ≡ file_verdict f
  unfolding file_verdict
  no-descriptor h = rw (lt-ltb (length f) 8 h)

  module _ (there : 8 ≤ length f) where
    pub too_long : MOST_INPUT < length f → Refused LIMIT ≡ file_verdict f
    unfolding file_verdict
    too_long h = rw (le-ltb (length f) 8 there, lt-ltb MOST_INPUT (length f) h)

    pub compared : length f ≤ MOST_INPUT → {d : Descriptor} {b : List ℕ} {v : Verdict} → d ≡ descriptor_of (take 8 f) → b ≡ block_in f
        → v ≡ verdict_of d b → v ≡ file_verdict f
    unfolding file_verdict
    compared h p q e = rw (le-ltb (length f) 8 there, le-ltb MOST_INPUT (length f) h) (verdict-as p q e)

    -- the block is shorter than the file
    pub block-short : {b : List ℕ} → b ≡ block_in f → length b ≤ length f
    unfolding block_in
    block-short q = rw (q, le-ltb (length f) 8 there) (omega (arith, length-drop 8 f))

-- ---- column j of a sheet file that has it
part-short : (f : List ℕ) (j : ℕ) → length (column_part f j) ≤ length f
unfolding column_part
part-short f j = go (eqb (sheet_number f j) 0)
  where
    go : (t : Bool) → length (cond t (named_by (entry_at j f) f) []) ≤ length f
    go true = omega (arith, length-take (length_in (entry_at j f)) (drop (offset_in (entry_at j f)) f), length-drop (offset_in (entry_at j f)) f)
    go false = omega arith

module _ (f : List ℕ) (j : ℕ) where
  abbrev d-named : Descriptor
  d-named = descriptor_in (entry_at j f)

  abbrev b-named : List ℕ
  b-named = named_by (entry_at j f) f

  abbrev opens : ℕ → Found
  opens m = found_by (opened_in m d-named b-named) (offset_in (entry_at j f)) (length_in (entry_at j f))

  -- a number of the file or the entry that isn't 0 is the column's
  refused-by : (m : ℕ) → (m ≡ 0 → ⊥) → (opens m).number ≡ m
  unfolding opened_in found_by
  refused-by zero h = absurd (h refl)
  refused-by (suc m) h = refl

  opened-by : (m : ℕ) → m ≡ 0 → opens m ≡ found_by (described_opened d-named b-named) (offset_in (entry_at j f)) (length_in (entry_at j f))
  unfolding opened_in
  opened-by m z = rw z

  refused-verdict : (sheet_number f j ≡ 0 → ⊥) → Refused (sheet_number f j) ≡ column_verdict f j
  unfolding column_verdict
  refused-verdict h = rw (ne_eqb (sheet_number f j) 0 h)

  opened-verdict : sheet_number f j ≡ 0 → {v : Verdict} → v ≡ verdict_of d-named b-named → v ≡ column_verdict f j
  unfolding column_verdict
  opened-verdict z e = rw (eq-eqb (sheet_number f j) 0 z) e

  block_refused : {e : ℕ} → e ≡ described_number d-named b-named → (e ≡ 0 → ⊥) → Refused e ≡ verdict_of d-named b-named
  unfolding verdict_of
  block_refused {e} p h = rw (← p, ne_eqb e 0 h)

  -- what is found, by the number of the file and the entry
  module _ {x : Found} (told : x ≡ column_found f j) where
    found-so : sheet_number f j ≡ 0 → x ≡ found_by (described_opened d-named b-named) (offset_in (entry_at j f)) (length_in (entry_at j f))
    found-so z = told ∙ opened-by (sheet_number f j) z

    by-entry : (sheet_number f j ≡ 0 → ⊥) → x.number ≡ sheet_number f j
    by-entry h = ap (λ (y : Found). y.number) told ∙ refused-by (sheet_number f j) h

  module _ (dir : Directory f) (there : j < columns_in f) where
    -- the only refusal left is that the entry names bytes outside
    outside : (sheet_number f j ≡ 0 → ⊥) → sheet_number f j ≡ OUTSIDE
    outside h =
        let short : length f ≤ MOST_FILE = omega (arith, dir.short) in
        let some : 0 < length f = omega (arith, dir.whole) in
        ⊎_elim
        (λ low. sym (tests.in-directory f j short some dir.few dir.whole there low))
        (λ behind. ⊎_elim
        (λ past. sym (tests.behind-file f j short some dir.few dir.whole there behind past))
        (λ inside. absurd (h (sym (tests.named f j short some dir.few dir.whole there behind inside))))
        (lt-or-ge (length f) (offset_in (entry_at j f) + length_in (entry_at j f))))
        (lt-or-ge (offset_in (entry_at j f)) (directory_end (columns_in f)))

    module _ {x : Found} (told : x ≡ column_found f j) where
      -- neither engine is asked
      pub not-asked : x.number ≡ OUTSIDE → Refused x.number ≡ column_verdict f j
      not-asked e = go (sheet_number f j) refl
        where
          go : (m : ℕ) → sheet_number f j ≡ m → Refused x.number ≡ column_verdict f j
          go zero q = opened-verdict q (block_refused (found_number d-named b-named _ _ (found-so told q)) (λ z. omega (arith, e, z)))
          go (suc m) q = let h : sheet_number f j ≡ 0 → ⊥ = λ z. omega (arith, q, z) in ap Refused (by-entry told h) ∙ refused-verdict h

      -- both are
      module _ (asked : x.number ≡ OUTSIDE → ⊥) where
        sound-entry : sheet_number f j ≡ 0
        sound-entry = go (sheet_number f j) refl
          where
            go : (m : ℕ) → sheet_number f j ≡ m → sheet_number f j ≡ 0
            go zero q = q
            go (suc m) q = let h : sheet_number f j ≡ 0 → ⊥ = λ z. omega (arith, q, z) in absurd (asked (by-entry told h ∙ outside h))

        module _ {d : Descriptor} {b : List ℕ} (d-read : d ≡ d-named) (b-read : b ≡ column_part f j) where
          b-is : b ≡ b-named
          unfolding column_part
          b-is = b-read ∙ rw (eq-eqb (sheet_number f j) 0 sound-entry)

          pub number-asked : x.number ≡ described_number d b
          number-asked = rw (d-read, b-is) (found_number d-named b-named _ _ (found-so told sound-entry))

          pub reader-asked : x.number ≡ 0 → x.reader ≡ fresh d b
          reader-asked z = rw (d-read, b-is) (found-reader d-named b-named _ _ (found-so told sound-entry) z)

          pub part-fits : length b ≤ length f
          part-fits = rw b-read (part-short f j)

          pub column-compared : {v : Verdict} → v ≡ verdict_of d b → v ≡ column_verdict f j
          column-compared e = opened-verdict sound-entry (verdict-as d-read b-is e)

-- ---- the directory: what is refused for another reason, or not at all, has one
module _ (f : List ℕ) (j : ℕ) (fits : length f ≤ MOST_INPUT) {x : Found} (told : x ≡ column_found f j) (other : x.number ≡ SHEET → ⊥) where
  not-sheet : SHEET ≡ sheet_number f j → ⊥
  not-sheet q = other (by-entry f j told (λ z. omega (arith, q, z)) ∙ sym q)

  short : length f ≤ MOST_FILE
  short = omega arith

  some : 0 < length f
  some = ⊎_elim (λ h. h) (λ none. absurd (not-sheet (tests.empty f j short none))) (lt-or-ge 0 (length f))

  few : columns_in f ≤ MOST_COLUMNS
  few = ⊎_elim (λ many. absurd (not-sheet (tests.too_many f j short some many))) (λ h. h) (lt-or-ge MOST_COLUMNS (columns_in f))

  pub directory-there : Directory f
  directory-there = record {
    short = fits;
    few = few;
    whole = ⊎_elim
        (λ cut. absurd (not-sheet (tests.directory-cut f j short some few cut)))
        (λ h. h)
        (lt-or-ge (length f) (directory_end (columns_in f)));
  }

-- ---- no verdict is that they differ
by_number : (t : Bool) (n e : ℕ) → differing (cond t (Same n) (Refused e)) ≡ false
unfolding differing
by_number true n e = refl
by_number false n e = refl

verdict-same : (d : Descriptor) (b : List ℕ) → differing (verdict_of d b) ≡ false
unfolding verdict_of
verdict-same d b = by_number (eqb (described_number d b) 0) _ _

pub refused-same : (e : ℕ) → differing (Refused e) ≡ false
unfolding differing
refused-same e = refl

pub file-same : (f : List ℕ) → differing (file_verdict f) ≡ false
unfolding file_verdict
file-same f = go (ltb (length f) 8) (ltb MOST_INPUT (length f))
  where
    go : (s t : Bool) → differing (cond s (Refused CUT) (cond t (Refused LIMIT) (verdict_of (descriptor_of (take 8 f)) (block_in f)))) ≡ false
    go true t = refused-same CUT
    go false true = refused-same LIMIT
    go false false = verdict-same _ _

pub column-same : (f : List ℕ) (j : ℕ) → differing (column_verdict f j) ≡ false
unfolding column_verdict
column-same f j = go (eqb (sheet_number f j) 0)
  where
    go : (t : Bool) → differing (cond t (verdict_of (d-named f j) (b-named f j)) (Refused (sheet_number f j))) ≡ false
    go true = verdict-same _ _
    go false = refused-same _
