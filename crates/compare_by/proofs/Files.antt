-- Which case of the definitions the tests of `tested`, `compare` and `print` lead to. Assumes nothing.
use Prim.Native.Nat.{ℕ, zero, suc, ◌≤◌, ◌<◌}
use native.Mathlib.Omega.{arith}
use mathlib.Core.List.{List, []}
use mathlib.Core.Path.{◌≡◌, refl, sym, ap, ◌∙◌}
use lib.Dec.{ltb}
use lib.ListN.{length, take}
use borrow.Author.Tests.{lt-ltb, le-ltb, eq-eqb, ne_eqb, ltb-false}
use Rattle.limits.specs.Limits.{MOST_INPUT}
use Rattle.limits.specs.Refusals.{COLUMN, LIMIT, ROOM, CUT}
use Rattle.encode.specs.Bytes.{in_eight}
use Rattle.encode.proofs.Bools.{neither}
use Rattle.plain.specs.Rules.{◌if◌, first_of}
use Rattle.plain.proofs.Rules.{kept, whole}
use Rattle.plain.proofs.Items.{take-item}
use Rattle.format.proofs.Answers.{first_one, broken-first, kept-first}
use Rattle.descriptor.specs.declared.Descriptor.{Descriptor}
use Rattle.descriptor.specs.Descriptor.{descriptor_of}
use Rattle.text.specs.Input.{block_in}
use Rattle.comparing.specs.declared.Compared.{Compared}
use Rattle.ranges.specs.Ranges.{Range}
use Rattle.comparing.specs.Comparing.{Compare, ranges_between, compare_number, compared, compare_by, compare}
use Rattle.compare_by.specs.Asked.{SLOTS, descriptor_in, file_number, files_number, blocks_compared, files_compared, compares_asked}

-- ---- one file
module _ (f : List ℕ) where
  pub no-descriptor : length f < 8 → CUT ≡ file_number f
  unfolding file_number first_of
  no-descriptor h = rw (lt-ltb (length f) 8 h)

  module _ (there : 8 ≤ length f) where
    pub too_long : MOST_INPUT < length f → LIMIT ≡ file_number f
    unfolding file_number first_of
    too_long h = rw (le-ltb (length f) 8 there, lt-ltb MOST_INPUT (length f) h)

    module _ (short : length f ≤ MOST_INPUT) where
      pub bit-set : ((descriptor_in f).zero ≡ 0 → ⊥) → COLUMN ≡ file_number f
      unfolding file_number first_of
      bit-set h = rw (le-ltb (length f) 8 there, le-ltb MOST_INPUT (length f) short, ne_eqb (descriptor_in f).zero 0 h)

      pub none-refuses : (descriptor_in f).zero ≡ 0 → 0 ≡ file_number f
      unfolding file_number first_of
      none-refuses h = rw (le-ltb (length f) 8 there, le-ltb MOST_INPUT (length f) short, eq-eqb (descriptor_in f).zero 0 h)

    pub descriptor-read : {item : List ℕ} {d : Descriptor} → item ≡ in_eight (take 8 f) → d ≡ descriptor_of (take 8 item) → d ≡ descriptor_in f
    descriptor-read p q = q ∙ ap (λ (l : List ℕ). descriptor_of (take 8 l)) p ∙ ap descriptor_of (take-item 8 0 f there)

  -- a file that isn't refused has a descriptor
  pub has-descriptor : file_number f ≡ 0 → 8 ≤ length f
  unfolding file_number
  has-descriptor z = ltb-false _ _ (whole CUT _ (omega arith) (kept (CUT if ltb (length f) 8) _ z).0)

-- ---- two files
by_number : (e : ℕ) (rs : List Range) (fs ls : List ℕ) → (compare_by e rs fs ls).answer.number ≡ e
unfolding compare_by
by_number zero rs fs ls = refl
by_number (suc e) rs fs ls = refl

by-ranges : (e : ℕ) (rs : List Range) (fs ls : List ℕ) → e ≡ 0 → (compare_by e rs fs ls).answer.ranges ≡ length rs
unfolding compare_by
by-ranges e rs fs ls z = rw z refl

module _ (x y fs ls : List ℕ) where
  -- the same descriptors and blocks, so the same call
  handed-over :
      {a b : Descriptor} {p q : List ℕ} → a ≡ descriptor_in x → p ≡ block_in x → b ≡ descriptor_in y → q ≡ block_in y
      → compare a p b q fs ls ≡ blocks_compared x y fs ls
  handed-over {a} {b} {p} {q} ea ep eb eq =
      ap (λ (d : Descriptor). compare d p b q fs ls) ea
      ∙ ap (λ (l : List ℕ). compare (descriptor_in x) l b q fs ls) ep
      ∙ ap (λ (d : Descriptor). compare (descriptor_in x) (block_in x) d q fs ls) eb
      ∙ ap (λ (l : List ℕ). compare (descriptor_in x) (block_in x) (descriptor_in y) l fs ls) eq

  pub blocks-compared :
      {a b : Descriptor} {p q : List ℕ} {r : Compared} {us vs : List ℕ} → a ≡ descriptor_in x → p ≡ block_in x → b ≡ descriptor_in y → q ≡ block_in y
      → (r ≡ (compare a p b q fs ls).answer) × ((us ≡ (compare a p b q fs ls).firsts) × (vs ≡ (compare a p b q fs ls).lasts))
      → (r ≡ (blocks_compared x y fs ls).answer) × ((us ≡ (blocks_compared x y fs ls).firsts) × (vs ≡ (blocks_compared x y fs ls).lasts))
  blocks-compared ea ep eb eq h =
      let e = handed-over ea ep eb eq in
      (h.0 ∙ ap (λ (c : Compare). c.answer) e, (h.1.0 ∙ ap (λ (c : Compare). c.firsts) e, h.1.1 ∙ ap (λ (c : Compare). c.lasts) e))

  abbrev Answered : Compared → List ℕ → List ℕ → Type 0
  Answered r us vs = (r ≡ (files_compared x y fs ls).answer) × ((us ≡ (files_compared x y fs ls).firsts) × (vs ≡ (files_compared x y fs ls).lasts))

  -- nothing is written on a refusal
  refused : (e : ℕ) → (e ≡ 0 → ⊥) → files_number x y (length fs) (length ls) ≡ e → {r : Compared} → r ≡ compared e 0 → Answered r fs ls
  unfolding compare_by
  refused zero h q told = absurd (h refl)
  refused (suc e) h q told = rw q (told, (refl, refl))

  pub first-refused : {e : ℕ} {r : Compared} → e ≡ file_number x → (e ≡ 0 → ⊥) → r ≡ compared e 0 → Answered r fs ls
  unfolding files_number
  first-refused {e} p h told = refused e h (broken-first (file_number x) _ (λ z. h (p ∙ z)) ∙ sym p) told

  module _ (first-kept : file_number x ≡ 0) where
    pub second-refused : {e : ℕ} {r : Compared} → e ≡ file_number y → (e ≡ 0 → ⊥) → r ≡ compared e 0 → Answered r fs ls
    unfolding files_number
    second-refused {e} p h told = refused e h (kept-first _ first-kept ∙ broken-first (file_number y) _ (λ z. h (p ∙ z)) ∙ sym p) told

    module _ (second-kept : file_number y ≡ 0) where
      as-blocks : files_number x y (length fs) (length ls) ≡ compare_number (descriptor_in x) (block_in x) (descriptor_in y) (block_in y) (length fs) (length ls)
      unfolding files_number
      as-blocks = kept-first _ first-kept ∙ kept-first _ second-kept ∙ first_one _

      pub files-compared :
          {r : Compared} {us vs : List ℕ}
          → (r ≡ (blocks_compared x y fs ls).answer) × ((us ≡ (blocks_compared x y fs ls).firsts) × (vs ≡ (blocks_compared x y fs ls).lasts))
          → Answered r us vs
      files-compared h = rw as-blocks h

  -- ---- what is printed
  module _ {r : Compared} (told : r ≡ (files_compared x y fs ls).answer) where
    pub number_is : r.number ≡ files_number x y (length fs) (length ls)
    number_is = ap (λ (c : Compared). c.number) told ∙ by_number _ _ fs ls

    -- the lists have a slot for every range
    pub slots-there : r.number ≡ 0 → (r.ranges ≤ length fs) × (r.ranges ≤ length ls)
    unfolding files_number compare_number
    slots-there z =
        let none : files_number x y (length fs) (length ls) ≡ 0 = sym number_is ∙ z in
        let n : r.ranges ≡ length (ranges_between (descriptor_in x) (block_in x) (descriptor_in y) (block_in y)) =
        ap (λ (c : Compared). c.ranges) told ∙ by-ranges _ _ fs ls none in
        let blocks = (kept _ [] (kept (file_number y) _ (kept (file_number x) _ none).1).1).0 in
        let room = (kept _ [] (kept _ _ (kept _ _ (kept _ _ blocks).1).1).1).0 in
        let few = neither _ _ (whole ROOM _ (omega arith) room) in
        (rw n (ltb-false _ _ few.0), rw n (ltb-false _ _ few.1))

pub as-asked : (x y : List ℕ) {n m e : ℕ} → SLOTS ≡ n → SLOTS ≡ m → e ≡ files_number x y n m → e ≡ compares_asked x y
as-asked x y {n} {m} f l q = q ∙ ap (λ (i : ℕ). files_number x y i m) (sym f) ∙ ap (λ (i : ℕ). files_number x y SLOTS i) (sym l)
