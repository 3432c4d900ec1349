-- Which number of `sheet_number` the tests of `number_of` lead to, and what a file and an entry that none refuses are like. Assumes nothing.
use Prim.Native.Nat.{ℕ, ◌+◌, ◌≤◌, ◌<◌}
use native.Mathlib.Omega.{arith}
use mathlib.Core.Bool.{true, false, false≢true}
use mathlib.Core.Path.{◌≡◌, sym, ◌∙◌}
use mathlib.Core.List.{List}
use lib.Dec.{ltb, leb, eqb}
use lib.ListN.{length}
use borrow.Author.Tests.{lt-ltb, le-ltb, le-leb, lt-leb, eq-eqb, ne_eqb, ltb-false, leb-false, eqb-false}
use Rattle.limits.specs.Limits.{MOST_FILE, MOST_COLUMNS}
use Rattle.std.specs.Prelude.{Result, Ok, Err, is_err}
use Rattle.limits.specs.declared.refusal.Refusal.{Refusal}
use Rattle.limits.specs.Refusals.{LIMIT, NO_COLUMN, SHEET, OUTSIDE, refusal_number, number_in}
use Rattle.plain.specs.Rules.{◌if◌, first_of}
use Rattle.plain.proofs.Rules.{kept, whole}
use Rattle.sheet.specs.Sheet.{columns_in, directory_end, entry_at, offset_in, length_in, sheet_number}
use Rattle.limits.proofs.Refused.{refusal-above}

module _ (f : List ℕ) (j : ℕ) where
  -- ---- the tests, in order
  pub too_long : MOST_FILE < length f → LIMIT ≡ sheet_number f j
  unfolding sheet_number first_of
  too_long h = rw (lt-ltb MOST_FILE (length f) h)

  module _ (short : length f ≤ MOST_FILE) where
    not-long : ltb MOST_FILE (length f) ≡ false
    not-long = le-ltb MOST_FILE (length f) short

    pub empty : length f ≤ 0 → SHEET ≡ sheet_number f j
    unfolding sheet_number first_of
    empty h = let z : length f ≡ 0 = omega arith in rw (not-long, eq-eqb (length f) 0 z)

    module _ (some : 0 < length f) where
      not-empty : eqb (length f) 0 ≡ false
      not-empty = ne_eqb (length f) 0 (λ e. omega arith)

      pub too_many : MOST_COLUMNS < columns_in f → SHEET ≡ sheet_number f j
      unfolding sheet_number first_of
      too_many h = rw (not-long, not-empty, lt-ltb MOST_COLUMNS (columns_in f) h)

      module _ (few : columns_in f ≤ MOST_COLUMNS) where
        not-many : ltb MOST_COLUMNS (columns_in f) ≡ false
        not-many = le-ltb MOST_COLUMNS (columns_in f) few

        pub directory-cut : length f < directory_end (columns_in f) → SHEET ≡ sheet_number f j
        unfolding sheet_number first_of
        directory-cut h = rw (not-long, not-empty, not-many, lt-ltb (length f) (directory_end (columns_in f)) h)

        module _ (whole-directory : directory_end (columns_in f) ≤ length f) where
          not-cut : ltb (length f) (directory_end (columns_in f)) ≡ false
          not-cut = le-ltb (length f) (directory_end (columns_in f)) whole-directory

          pub no-column : columns_in f ≤ j → NO_COLUMN ≡ sheet_number f j
          unfolding sheet_number first_of
          no-column h = rw (not-long, not-empty, not-many, not-cut, le-leb (columns_in f) j h)

          module _ (there : j < columns_in f) where
            not-absent : leb (columns_in f) j ≡ false
            not-absent = lt-leb (columns_in f) j there

            pub in-directory : offset_in (entry_at j f) < directory_end (columns_in f) → OUTSIDE ≡ sheet_number f j
            unfolding sheet_number first_of
            in-directory h = rw (not-long, not-empty, not-many, not-cut, not-absent, lt-ltb (offset_in (entry_at j f)) (directory_end (columns_in f)) h)

            module _ (behind : directory_end (columns_in f) ≤ offset_in (entry_at j f)) where
              not-in-directory : ltb (offset_in (entry_at j f)) (directory_end (columns_in f)) ≡ false
              not-in-directory = le-ltb (offset_in (entry_at j f)) (directory_end (columns_in f)) behind

              pub behind-file : length f < offset_in (entry_at j f) + length_in (entry_at j f) → OUTSIDE ≡ sheet_number f j
              unfolding sheet_number first_of
              behind-file h = rw (
                not-long,
                not-empty,
                not-many,
                not-cut,
                not-absent,
                not-in-directory,
                lt-ltb (length f) (offset_in (entry_at j f) + length_in (entry_at j f)) h,
              )

              pub named : offset_in (entry_at j f) + length_in (entry_at j f) ≤ length f → 0 ≡ sheet_number f j
              unfolding sheet_number first_of
              named h = rw (
                not-long,
                not-empty,
                not-many,
                not-cut,
                not-absent,
                not-in-directory,
                le-ltb (length f) (offset_in (entry_at j f) + length_in (entry_at j f)) h,
              )

-- ---- none refuses
pub record Named (f : List ℕ) (j : ℕ) : Type 0 where
  pub short : length f ≤ MOST_FILE
  pub some : 0 < length f
  pub few : columns_in f ≤ MOST_COLUMNS
  pub whole-directory : directory_end (columns_in f) ≤ length f
  pub there : j < columns_in f
  pub behind : directory_end (columns_in f) ≤ offset_in (entry_at j f)
  pub inside : offset_in (entry_at j f) + length_in (entry_at j f) ≤ length f

pub none-refuses : (f : List ℕ) (j : ℕ) → sheet_number f j ≡ 0 → Named f j
unfolding sheet_number
none-refuses f j z =
    let a = kept (LIMIT if ltb MOST_FILE (length f)) _ z in
    let b = kept (SHEET if eqb (length f) 0) _ a.1 in
    let c = kept (SHEET if ltb MOST_COLUMNS (columns_in f)) _ b.1 in
    let d = kept (SHEET if ltb (length f) (directory_end (columns_in f))) _ c.1 in
    let e = kept (NO_COLUMN if leb (columns_in f) j) _ d.1 in
    let g = kept (OUTSIDE if ltb (offset_in (entry_at j f)) (directory_end (columns_in f))) _ e.1 in
    let h = kept (OUTSIDE if ltb (length f) (offset_in (entry_at j f) + length_in (entry_at j f))) _ g.1 in
    let n = eqb-false (length f) 0 (whole SHEET _ (omega arith) b.0) in
    record {
      short = ltb-false _ _ (whole LIMIT _ (omega arith) a.0);
      some = omega arith;
      few = ltb-false _ _ (whole SHEET _ (omega arith) c.0);
      whole-directory = ltb-false _ _ (whole SHEET _ (omega arith) d.0);
      there = leb-false _ _ (whole NO_COLUMN _ (omega arith) e.0);
      behind = ltb-false _ _ (whole OUTSIDE _ (omega arith) g.0);
      inside = ltb-false _ _ (whole OUTSIDE _ (omega arith) h.0);
    }

-- ---- what the outcome of `check` tells
pub refused-told : {A : Type 0} {x : Result A Refusal} {r : Refusal} (n m : ℕ) → number_in x ≡ m → x ≡ Err r → n ≡ refusal_number r → (n ≡ m) × (0 < n)
refused-told {r = r} n m told e q = (q ∙ (rw e at told), omega (arith, q, refusal-above r))

pub done-told : {A : Type 0} {x : Result A Refusal} {u : A} {m : ℕ} → number_in x ≡ m → x ≡ Ok u → m ≡ 0
done-told told e = sym (rw e at told)

pub none-told : {A : Type 0} (x : Result A Refusal) {m : ℕ} → number_in x ≡ m → is_err x ≡ false → m ≡ 0
none-told (Ok u) told e = sym told
none-told (Err r) told e = absurd (false≢true (sym e))

pub some-told : {A : Type 0} (x : Result A Refusal) {m : ℕ} → number_in x ≡ m → is_err x ≡ true → 0 < m
some-told (Ok u) told e = absurd (false≢true e)
some-told (Err r) told e = omega (arith, told, refusal-above r)
