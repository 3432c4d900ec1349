-- What a call that was answered with 0 wrote: the file of the columns that it was lent, each of them sound. Assumes nothing.
use Prim.Native.Nat.{ℕ, zero, suc, ◌%◌, ◌≤◌}
use native.Mathlib.Omega.{arith}
use mathlib.Core.Bool.{not}
use mathlib.Core.List.{List, [], ◌∷◌, ◌++◌}
use mathlib.Core.Path.{◌≡◌, refl, sym, ap, ◌∙◌}
use lib.Dec.{ltb, eqb}
use lib.ListN.{length, take, drop}
use lib.Seq.{take-append_seam}
use borrow.Author.Tests.{ltb-false}
use Rattle.limits.specs.Limits.{MOST_FILE, MOST_COLUMNS}
use Rattle.limits.specs.Refusals.{LIMIT, ROOM, SHEET}
use Rattle.area.specs.Area.{over}
use Rattle.plain.specs.Each.{Each}
use Rattle.plain.specs.Rules.{◌if◌}
use Rattle.plain.proofs.Rules.{kept, whole}
use Rattle.sheet_writer.specs.Writing.{file_of, length_at, first_filed, filed_in, columns_lent, lent_file, blocks_number, write_number, write_by, write}
use Rattle.sheet_writer.proofs.Columns.{first-sound, next-sound}
use Rattle.sheet_writer.proofs.Files.{length-filed}
use Rattle.sheet_laws.specs.Column.{file_in, columns_of}
use Rattle.sheet_laws.proofs.Laid.{SoundFiled}

-- each column is sound where the first bad one gives no number
each-sound : (n : ℕ) (ns bs : List ℕ) → blocks_number n ns bs ≡ 0 → Each SoundFiled (filed_in n ns bs)
unfolding filed_in
each-sound zero ns bs z = tt
each-sound (suc n) ns bs z =
    let s = next-sound ns bs n z in
    ((first-sound ns bs s.0, refl), each-sound n (drop 5 ns) (drop (length_at ns) bs) s.1)

-- what is laid over the start of the room is what stands there
front : (file out : List ℕ) → take (length file) (over out 0 file) ≡ file
unfolding over
front file out = take-append_seam file _

done-by : (m : ℕ) (file out : List ℕ) → (write_by m file out).answer.number ≡ 0 → (m ≡ 0) × (file_in (write_by m file out) ≡ file)
unfolding write_by
done-by zero file out z = (refl, front file out)
done-by (suc m) file out z = absurd (omega arith)

module _ (numbers blocks out : List ℕ) (done : (write numbers blocks out).answer.number ≡ 0) where
  no_number : write_number numbers blocks (length out) ≡ 0
  no_number = (done-by (write_number numbers blocks (length out)) (lent_file numbers blocks) out done).0

  pub file-written : file_in (write numbers blocks out) ≡ file_of (columns_of numbers blocks)
  file-written = (done-by (write_number numbers blocks (length out)) (lent_file numbers blocks) out done).1

  pub record Kept : Type 0 where
    pub few : length (columns_of numbers blocks) ≤ MOST_COLUMNS
    pub sound : Each SoundFiled (columns_of numbers blocks)
    pub short : length (file_of (columns_of numbers blocks)) ≤ MOST_FILE

  pub rules-kept : Kept
  unfolding write_number
  rules-kept =
      let n : ℕ = columns_lent numbers in
      let a = kept (SHEET if ltb MOST_COLUMNS n) _ no_number in
      let b = kept (SHEET if not (eqb (length numbers % 5) 0)) _ a.1 in
      let c = kept (blocks_number n numbers blocks) _ b.1 in
      let d = kept (LIMIT if ltb MOST_FILE (length (lent_file numbers blocks))) _ c.1 in
      record {
        few = omega (arith, length-filed n numbers blocks, ltb-false MOST_COLUMNS n (whole SHEET _ (omega arith) a.0));
        sound = each-sound n numbers blocks c.0;
        short = ltb-false _ _ (whole LIMIT _ (omega arith) d.0);
      }
