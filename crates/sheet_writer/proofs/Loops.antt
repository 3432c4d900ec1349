-- What holds at each turn of the two loops over the columns. Assumes nothing.
use Prim.Native.Nat.{ℕ, zero, suc, ◌+◌, ◌-◌, ◌*◌, ◌≤◌, ◌<◌}
use native.Mathlib.Nat.{zero-add}
use native.Mathlib.Omega.{arith}
use mathlib.Core.Path.{◌≡◌, refl, sym, ap, ◌∙◌}
use mathlib.Core.List.{List, [], ◌++◌}
use lib.ListN.{length, get_or, take, drop, length-append, length-drop}
use lib.Seq.{sets, drop-drop, length-sets}
use Rattle.area.proofs.Laws.{sets-none, sets-append}
use Rattle.encode.specs.Bytes.{big, in_eight}
use Rattle.descriptor.specs.declared.Descriptor.{Descriptor}
use Rattle.descriptor.specs.Descriptor.{descriptor_bytes}
use Rattle.sheet.specs.Sheet.{directory_end}
use Rattle.std.specs.Prelude.{Ok, Err}
use Rattle.sheet_writer.specs.Writing.{length_at, first_filed, first_number, blocks_number}
use Rattle.sheet_writer.specs.Lent.{lent_entry, lent_entries, lent_bytes, summed_by}
use Rattle.sheet_writer.proofs.Columns.{length-lent, first-held, next-number, first-bad}
use Rattle.sheet_writer.proofs.Files.{length-entry}

-- the numbers of the next column
next-numbers : (ns : List ℕ) (i : ℕ) → drop 5 (drop (5 * i) ns) ≡ drop (5 * (i + 1)) ns
next-numbers ns i = drop-drop 5 (5 * i) ns ∙ let e : 5 * i + 5 ≡ 5 * (i + 1) = omega arith in rw e

-- ---- the blocks looked at
pub record Summing (ns bs : List ℕ) (columns i at : ℕ) : Type 0 where
  pub few : i ≤ columns
  pub inside : at ≤ length bs
  pub number : blocks_number (columns - i) (drop (5 * i) ns) (drop at bs) ≡ blocks_number columns ns bs
  pub bytes : at + lent_bytes (columns - i) (drop (5 * i) ns) ≡ lent_bytes columns ns

pub summing_start : (ns bs : List ℕ) (columns : ℕ) → Summing ns bs columns 0 0
summing_start ns bs columns =
    let e : columns - 0 ≡ columns = omega arith in
    record { few = omega arith; inside = omega arith; number = rw e; bytes = rw (e, zero-add) }

module _ {ns bs : List ℕ} {columns i at : ℕ} (f : Summing ns bs columns i at) (more : i < columns) where
  abbrev rest : ℕ
  rest = columns - (i + 1)

  one_more : columns - i ≡ suc rest
  one_more = omega arith

  pub summing-bad : (e : ℕ) → e ≡ first_number (drop (5 * i) ns) (drop at bs) → 0 < e → Err e ≡ summed_by (blocks_number columns ns bs) (lent_bytes columns ns)
  unfolding summed_by
  summing-bad zero q h = absurd (omega arith)
  summing-bad (suc e) q h =
      let b : blocks_number columns ns bs ≡ suc e = sym f.number ∙ rw one_more (first-bad (drop (5 * i) ns) (drop at bs) rest q h) in
      rw b

  module _ (none : first_number (drop (5 * i) ns) (drop at bs) ≡ 0) where
    abbrev len : ℕ
    len = get_or ns (5 * i + 4) 0

    len-first : len ≡ length_at (drop (5 * i) ns)
    len-first = length-lent ns (5 * i)

    pub summing-held : at + len ≤ length bs
    summing-held = omega (arith, f.inside, len-first, first-held (drop (5 * i) ns) (drop at bs) none, length-drop at bs)

    pub summing-step : Summing ns bs columns (i + 1) (at + len)
    unfolding lent_bytes
    summing-step =
        let m : lent_bytes (columns - i) (drop (5 * i) ns) ≡ length_at (drop (5 * i) ns) + lent_bytes rest (drop 5 (drop (5 * i) ns)) = rw one_more in
        let n : blocks_number (columns - i) (drop (5 * i) ns) (drop at bs)
        ≡ blocks_number rest (drop 5 (drop (5 * i) ns)) (drop (length_at (drop (5 * i) ns)) (drop at bs))
        = rw one_more (next-number (drop (5 * i) ns) (drop at bs) rest none) in
        record {
          few = omega arith;
          inside = summing-held;
          number =
              ap (λ (l : List ℕ). blocks_number rest l (drop (at + len) bs)) (sym (next-numbers ns i))
              ∙ ap (blocks_number rest (drop 5 (drop (5 * i) ns))) (sym (drop-drop len at bs) ∙ ap (λ (k : ℕ). drop k (drop at bs)) len-first)
              ∙ sym n
              ∙ f.number;
          bytes =
              ap (λ (l : List ℕ). at + len + lent_bytes rest l) (sym (next-numbers ns i))
              ∙ omega (arith, f.bytes, m, len-first);
        }

pub summing-end : {ns bs : List ℕ} {columns i at : ℕ} → Summing ns bs columns i at → columns ≤ i → Ok at ≡ summed_by (blocks_number columns ns bs) (lent_bytes columns ns)
unfolding summed_by blocks_number lent_bytes
summing-end {ns} {bs} {columns} {i} {at} f h =
    let e : columns - i ≡ 0 = omega arith in
    let n : blocks_number columns ns bs ≡ 0 = sym f.number ∙ rw e in
    let t : at + 0 ≡ lent_bytes columns ns = rw e at f.bytes in
    let b : at ≡ lent_bytes columns ns = omega (arith, t) in
    rw n (ap Ok b)

-- ---- the entries written
pub record Entering (ns : List ℕ) (columns : ℕ) (out₀ out : List ℕ) (i at : ℕ) : Type 0 where
  pub few : i ≤ columns
  pub bytes : at + lent_bytes (columns - i) (drop (5 * i) ns) ≡ directory_end columns + lent_bytes columns ns
  pub same : sets out (directory_end i) (lent_entries (columns - i) at (drop (5 * i) ns)) ≡ sets out₀ 1 (lent_entries columns (directory_end columns) ns)
  pub long : length out ≡ length out₀

pub entering-start : (ns : List ℕ) (columns : ℕ) (out : List ℕ) → Entering ns columns out out 0 (directory_end columns)
entering-start ns columns out =
    let e : columns - 0 ≡ columns = omega arith in
    record { few = omega arith; bytes = rw e; same = rw e; long = refl }

module _ {ns : List ℕ} {columns : ℕ} {out₀ out : List ℕ} {i at : ℕ} (f : Entering ns columns out₀ out i at) (more : i < columns) where
  abbrev left : ℕ
  left = columns - (i + 1)

  abbrev next : ℕ
  next = at + get_or ns (5 * i + 4) 0

  left-more : columns - i ≡ suc left
  left-more = omega arith

  next_place : next ≡ at + length_at (drop (5 * i) ns)
  next_place = ap (λ (k : ℕ). at + k) (length-lent ns (5 * i))

  next-bytes : next + lent_bytes left (drop 5 (drop (5 * i) ns)) ≡ directory_end columns + lent_bytes columns ns
  unfolding lent_bytes
  next-bytes =
      let m : lent_bytes (columns - i) (drop (5 * i) ns) ≡ length_at (drop (5 * i) ns) + lent_bytes left (drop 5 (drop (5 * i) ns)) = rw left-more in
      omega (arith, f.bytes, m, next_place)

  pub entering-held : next ≤ directory_end columns + lent_bytes columns ns
  entering-held = omega (arith, next-bytes)

  pub entering-step : {out' : List ℕ} → out' ≡ sets out (directory_end i) (lent_entry at (drop (5 * i) ns)) → Entering ns columns out₀ out' (i + 1) next
  unfolding lent_entries
  entering-step {out'} q =
      let xs : List ℕ = lent_entry at (drop (5 * i) ns) in
      let to : directory_end i + length xs ≡ directory_end (i + 1) = omega (arith, length-entry at (drop (5 * i) ns)) in
      let entries : lent_entries (columns - i) at (drop (5 * i) ns) ≡ xs ++ lent_entries left next (drop (5 * (i + 1)) ns)
      = rw (left-more, next_place, ← next-numbers ns i) in
      record {
        few = omega arith;
        bytes = ap (λ (l : List ℕ). next + lent_bytes left l) (sym (next-numbers ns i)) ∙ next-bytes;
        same =
            rw (q, ← to) (sym (sets-append xs (lent_entries left next (drop (5 * (i + 1)) ns)) out (directory_end i)))
            ∙ ap (sets out (directory_end i)) (sym entries)
            ∙ f.same;
        long = ap length q ∙ length-sets out (directory_end i) xs ∙ f.long;
      }

pub entering-end :
    {ns : List ℕ} {columns : ℕ} {out₀ out : List ℕ} {i at : ℕ} → Entering ns columns out₀ out i at → columns ≤ i
    → out ≡ sets out₀ 1 (lent_entries columns (directory_end columns) ns)
unfolding lent_entries
entering-end {ns} {columns} {out₀} {out} {i} {at} f h =
    let e : columns - i ≡ 0 = omega arith in
    sym (sets-none out (directory_end i)) ∙ rw e at f.same

-- ---- an entry: its three parts one after the other
entry-laid :
    (xs ys zs out : List ℕ) (to : ℕ) → length xs ≡ 8 → length ys ≡ 4
    → sets (sets (sets out to xs) (to + 8) ys) (to + 12) zs ≡ sets out to (xs ++ ys ++ zs)
entry-laid xs ys zs out to h k =
    let l = length-append xs ys in
    let e : to + length (xs ++ ys) ≡ to + 12 = omega arith in
    sym (sets-append (xs ++ ys) zs out to ∙ rw (e, sets-append xs ys out to, h))

module _ (ns : List ℕ) (place at : ℕ) (out : List ℕ) (to : ℕ) where
  pub entry-put :
      {d : Descriptor} {packed from len out₁ out₂ out₃ : List ℕ} → d ≡ (first_filed (drop place ns) []).descriptor → packed ≡ descriptor_bytes d
      → from ≡ in_eight (big 4 at) → len ≡ in_eight (big 4 (get_or ns (place + 4) 0)) → out₁ ≡ sets out to (take 8 packed)
      → out₂ ≡ sets out₁ (to + 8) (take 4 from) → out₃ ≡ sets out₂ (to + 12) (take 4 len) → out₃ ≡ sets out to (lent_entry at (drop place ns))
  entry-put d p f l q r s =
      let e = length-lent ns place in
      s ∙ rw (r, q, l, f, p, d, e) (entry-laid (descriptor_bytes (first_filed (drop place ns) []).descriptor) (big 4 at) (big 4 (length_at (drop place ns))) out to refl refl)
