-- The file of columns whose blocks are held and sound: its parts, from the numbers that are lent, and its length. Assumes nothing.
use Prim.Native.Nat.{ℕ, zero, suc, ◌+◌, ◌*◌, ◌≤◌}
use native.Mathlib.Omega.{arith}
use mathlib.Core.Path.{◌≡◌, refl, sym, ap, ◌∙◌}
use mathlib.Core.List.{List, ◌++◌}
use lib.ListN.{length, take, drop, length-append, length-drop}
use lib.Seq.{take-add, length-take-le}
use Rattle.plain.specs.Plain.{joined}
use Rattle.sheet.specs.Sheet.{directory_end}
use Rattle.sheet_writer.specs.Writing.{blocks_of, entries_from, file_of, length_at, filed_in, blocks_number}
use Rattle.sheet_writer.specs.Lent.{lent_entry, lent_entries, lent_bytes, laid_out}
use Rattle.sheet_writer.proofs.Columns.{first-held, next-sound}

-- ---- lengths
pub length-filed : (n : ℕ) (ns bs : List ℕ) → length (filed_in n ns bs) ≡ n
unfolding filed_in
length-filed zero ns bs = refl
length-filed (suc n) ns bs = ap suc (length-filed n (drop 5 ns) (drop (length_at ns) bs))

pub length-entry : (at : ℕ) (ns : List ℕ) → length (lent_entry at ns) ≡ 16
length-entry at ns = refl

pub length-lent-entries : (n at : ℕ) (ns : List ℕ) → length (lent_entries n at ns) ≡ 16 * n
unfolding lent_entries
length-lent-entries zero at ns = refl
length-lent-entries (suc n) at ns =
    length-append (lent_entry at ns) (lent_entries n (at + length_at ns) (drop 5 ns))
    ∙ omega (arith, length-entry at ns, length-lent-entries n (at + length_at ns) (drop 5 ns))

-- ---- blocks that are held
pub blocks-held : (n : ℕ) (ns bs : List ℕ) → blocks_number n ns bs ≡ 0 → lent_bytes n ns ≤ length bs
unfolding lent_bytes
blocks-held zero ns bs z = omega arith
blocks-held (suc n) ns bs z =
    let s = next-sound ns bs n z in
    let h = first-held ns bs s.0 in
    let i = blocks-held n (drop 5 ns) (drop (length_at ns) bs) s.1 in
    omega (arith, h, i, length-drop (length_at ns) bs)

pub blocks-joined : (n : ℕ) (ns bs : List ℕ) → blocks_number n ns bs ≡ 0 → blocks_of (filed_in n ns bs) ≡ take (lent_bytes n ns) bs
unfolding joined filed_in lent_bytes
blocks-joined zero ns bs z = refl
blocks-joined (suc n) ns bs z =
    ap (λ (l : List ℕ). take (length_at ns) bs ++ l) (blocks-joined n (drop 5 ns) (drop (length_at ns) bs) (next-sound ns bs n z).1)
    ∙ sym (take-add (length_at ns) (lent_bytes n (drop 5 ns)) bs)

pub entries-same : (n at : ℕ) (ns bs : List ℕ) → blocks_number n ns bs ≡ 0 → entries_from at (filed_in n ns bs) ≡ lent_entries n at ns
unfolding entries_from filed_in lent_entries
entries-same zero at ns bs z = refl
entries-same (suc n) at ns bs z =
    let s = next-sound ns bs n z in
    let l : length (take (length_at ns) bs) ≡ length_at ns = length-take-le (length_at ns) bs (first-held ns bs s.0) in
    rw l (ap (λ (es : List ℕ). lent_entry at ns ++ es) (entries-same n (at + length_at ns) (drop 5 ns) (drop (length_at ns) bs) s.1))

module _ (n : ℕ) (ns bs : List ℕ) where
  pub laid_out_lem : blocks_number n ns bs ≡ 0 → file_of (filed_in n ns bs) ≡ laid_out n ns bs
  unfolding file_of
  laid_out_lem z = rw (length-filed n ns bs, entries-same n (directory_end n) ns bs z, blocks-joined n ns bs z)

  pub length-laid : lent_bytes n ns ≤ length bs → length (laid_out n ns bs) ≡ directory_end n + lent_bytes n ns
  length-laid h =
      let a = length-append (lent_entries n (directory_end n) ns) (take (lent_bytes n ns) bs) in
      omega (arith, a, length-lent-entries n (directory_end n) ns, length-take-le (lent_bytes n ns) bs h)
