-- What writing comes to, by the tests that led there. Assumes nothing.
use Prim.Native.Nat.{ℕ, zero, suc, ◌+◌, ◌%◌, ◌≤◌, ◌<◌}
use native.Mathlib.Omega.{arith}
use mathlib.Core.Bool.{true}
use mathlib.Core.Path.{◌≡◌, refl, sym, ap, ◌∙◌}
use mathlib.Core.List.{List, [], ◌∷◌}
use lib.Dec.{ltb, eqb}
use lib.ListN.{length, set, take, drop}
use lib.Seq.{sets}
use borrow.Author.Tests.{lt-ltb, le-ltb, eq-eqb, ne_eqb}
use Rattle.limits.specs.Limits.{MOST_FILE, MOST_COLUMNS}
use Rattle.limits.specs.Refusals.{LIMIT, ROOM, SHEET}
use Rattle.area.specs.Area.{over}
use Rattle.area.proofs.Laws.{sets-append, over-sets}
use Rattle.plain.specs.Rules.{◌if◌, first_of}
use Rattle.format.proofs.Answers.{broken-first}
use Rattle.sheet.specs.Sheet.{directory_end}
use Rattle.sheet_writer.specs.declared.Written.{Written}
use Rattle.std.specs.Prelude.{Result, Ok, Err}
use Rattle.sheet_writer.specs.Writing.{columns_lent, lent_file, blocks_number, write_number, written, Write, write_by, write}
use Rattle.sheet_writer.specs.Lent.{lent_entries, lent_bytes, laid_out, summed_by, room_number, write_from}
use Rattle.sheet_writer.proofs.Files.{length-lent-entries, laid_out_lem, length-laid}

-- an answer, and what the room then holds
abbrev Comes : Written → List ℕ → Write → Type 0
Comes r out w = (r ≡ w.answer) × (out ≡ w.out)

refused-by : (e : ℕ) (file out : List ℕ) → 0 < e → Comes (written e 0) out (write_by e file out)
unfolding write_by
refused-by zero file out h = absurd (omega arith)
refused-by (suc e) file out h = (refl, refl)

-- ---- the blocks are held and sound
module _ (n : ℕ) (ns bs out : List ℕ) (held : lent_bytes n ns ≤ length bs) where
  long : length (laid_out n ns bs) ≡ directory_end n + lent_bytes n ns
  long = length-laid n ns bs held

  pub too_long : MOST_FILE < directory_end n + lent_bytes n ns → {r : Written} → r ≡ written LIMIT 0 → Comes r out (write_from n ns bs out)
  unfolding room_number first_of
  too_long h p = rw (p, long, lt-ltb MOST_FILE (directory_end n + lent_bytes n ns) h) (refused-by LIMIT (laid_out n ns bs) out (omega arith))

  module _ (short : directory_end n + lent_bytes n ns ≤ MOST_FILE) where
    pub no_room : length out < directory_end n + lent_bytes n ns → {r : Written} → r ≡ written ROOM 0 → Comes r out (write_from n ns bs out)
    unfolding room_number first_of
    no_room h p =
        rw (p, long, le-ltb MOST_FILE (directory_end n + lent_bytes n ns) short, lt-ltb (length out) (directory_end n + lent_bytes n ns) h)
        (refused-by ROOM (laid_out n ns bs) out (omega arith))

    module _ (room : directory_end n + lent_bytes n ns ≤ length out) where
      laid : sets (sets (set out 0 n) 1 (lent_entries n (directory_end n) ns)) (directory_end n) (take (lent_bytes n ns) bs) ≡ over out 0 (laid_out n ns bs)
      laid =
          let es : List ℕ = lent_entries n (directory_end n) ns in
          let e : 1 + length es ≡ directory_end n = omega (arith, length-lent-entries n (directory_end n) ns) in
          ap (λ (k : ℕ). sets (sets (set out 0 n) 1 es) k (take (lent_bytes n ns) bs)) (sym e)
          ∙ sym (sets-append es (take (lent_bytes n ns) bs) (set out 0 n) 1)
          ∙ over-sets (laid_out n ns bs) out 0 (omega (arith, long, room))

      pub put : {bytes : ℕ} {out₁ out₂ : List ℕ} → bytes ≡ lent_bytes n ns → out₁ ≡ sets (set out 0 n) 1 (lent_entries n (directory_end n) ns)
          → out₂ ≡ sets out₁ (directory_end n) (take bytes (drop 0 bs)) → Comes (written 0 (directory_end n + bytes)) out₂ (write_from n ns bs out)
      unfolding room_number first_of write_by
      put b p q =
          rw (long, le-ltb MOST_FILE (directory_end n + lent_bytes n ns) short, le-ltb (length out) (directory_end n + lent_bytes n ns) room)
          (ap (written 0) (rw b (sym long)), q ∙ rw (p, b) laid)

-- ---- the blocks summed
pub bytes-told : (m bytes : ℕ) {b : ℕ} {x : Result ℕ ℕ} → x ≡ summed_by m bytes → x ≡ Ok b → (m ≡ 0) × (b ≡ bytes)
unfolding summed_by
bytes-told zero bytes p q = (refl, cc)
bytes-told (suc m) bytes p q = let z : ◌≡◌ {A = ℕ} 0 1 = cc in absurd (omega arith)

pub bad-told : (m bytes : ℕ) {e : ℕ} {x : Result ℕ ℕ} → x ≡ summed_by m bytes → x ≡ Err e → (m ≡ e) × (0 < e)
unfolding summed_by
bad-told zero bytes p q = let z : ◌≡◌ {A = ℕ} 0 1 = cc in absurd (omega arith)
bad-told (suc m) bytes {e} p q = let s : suc m ≡ e = cc in (s, omega arith)

-- ---- the call
module _ (ns bs out : List ℕ) where
  refused_as : {e : ℕ} {r : Written} → write_number ns bs (length out) ≡ e → 0 < e → r ≡ written e 0 → Comes r out (write ns bs out)
  refused_as {e} q h p = rw (p, q) (refused-by e (lent_file ns bs) out h)

  pub too_many : MOST_COLUMNS < columns_lent ns → {r : Written} → r ≡ written SHEET 0 → Comes r out (write ns bs out)
  unfolding write_number
  too_many h = refused_as (rw (lt-ltb MOST_COLUMNS (columns_lent ns) h) (broken-first SHEET _ (λ z. omega arith))) (omega arith)

  module _ (few : columns_lent ns ≤ MOST_COLUMNS) where
    pub list-cut : 0 < length ns % 5 → {r : Written} → r ≡ written SHEET 0 → Comes r out (write ns bs out)
    unfolding write_number first_of
    list-cut h = refused_as (rw (le-ltb MOST_COLUMNS (columns_lent ns) few, ne_eqb (length ns % 5) 0 (λ z. omega arith))) (omega arith)

    module _ (fives : length ns % 5 ≤ 0) where
      no-rest : eqb (length ns % 5) 0 ≡ true
      no-rest = eq-eqb (length ns % 5) 0 (omega arith)

      pub bad-block : {e : ℕ} {r : Written} → blocks_number (columns_lent ns) ns bs ≡ e → 0 < e → r ≡ written e 0 → Comes r out (write ns bs out)
      unfolding write_number first_of
      bad-block {e} q h =
          let behind : List ℕ = LIMIT if ltb MOST_FILE (length (lent_file ns bs)) ∷ ROOM if ltb (length out) (length (lent_file ns bs)) ∷ [] in
          refused_as (rw (le-ltb MOST_COLUMNS (columns_lent ns) few, no-rest, q) (broken-first e behind (λ z. omega arith))) h

      -- the file that the numbers and the blocks make is the one that is laid out
      pub done : {r : Written} {out' : List ℕ} → blocks_number (columns_lent ns) ns bs ≡ 0 → Comes r out' (write_from (columns_lent ns) ns bs out) → Comes r out' (write ns bs out)
      unfolding write_number first_of room_number
      done z p = rw (le-ltb MOST_COLUMNS (columns_lent ns) few, no-rest, z, laid_out_lem (columns_lent ns) ns bs z) p
