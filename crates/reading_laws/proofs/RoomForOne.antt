-- A row has no more bytes than its block. So a read of the next row that is lent a slot of each sort and as many bytes as the block has is never refused.
-- Assumes nothing.
use Prim.Native.Nat.{ℕ, zero, suc, ◌+◌, ◌-◌, ◌*◌, ◌≤◌}
use native.Mathlib.Nat.{min-le_left, min-le_right}
use native.Mathlib.Omega.{arith}
use mathlib.Core.Bool.{Bool, true, false, cond, ◌||◌}
use mathlib.Core.List.{List, [], ◌∷◌, append-nil}
use mathlib.Core.Path.{◌≡◌, refl, ◌∙◌}
use lib.Dec.{ltb, eqb}
use lib.ListN.{length, take, drop, length-take, length-drop}
use borrow.Author.Tests.{le-ltb, eqb-true}
use Rattle.limits.specs.Limits.{MOST_GIVEN}
use Rattle.encode.specs.declared.Kind.{Kind}
use Rattle.encode.specs.declared.Kind.TheVariants.{Fixed, Char, Blob}
use Rattle.plain.specs.Rows.{Row, null, bytes_in}
use Rattle.plain.specs.Plain.{joined, before_nul, char_at, blob_at, end_at, start_at, plain_row}
use Rattle.nullable.specs.Nullable.{bitmap_length, plain_part, bitmap_part, bit_at, nullable_row}
use Rattle.rle.specs.RunLength.{inner_part}
use Rattle.dict.specs.Dictionary.{key_part, entries_part, slot_at, entry_row}
use Rattle.format.specs.declared.Encoding.{Encoding}
use Rattle.format.specs.declared.Encoding.TheVariants.{Plain, Nullable, RunLength, RunLengthNullable, Dictionary}
use Rattle.format.specs.declared.Head.{Head}
use Rattle.format.specs.Opening.{head_of, row_at}
use Rattle.block.specs.declared.Reader.{Reader}
use Rattle.block.specs.Reading.{Areas, Batch, is_bytes, short, read}
use Rattle.block.specs.Calls.{gave, refused, reading, handed, column_in, read_answer, answer_to, after}
use Rattle.reading_laws.specs.Calls.{due, moves}
use Rattle.reading_laws.proofs.RowsLeft.{Stands}
use Rattle.reading_laws.proofs.OneCall.{rows_at, one-call}

-- ---- parts are no longer than the whole
taken : (m : ℕ) (l : List ℕ) → length (take m l) ≤ length l
taken m l = rw length-take (min-le_right m (length l))

dropped : (m : ℕ) (l : List ℕ) → length (drop m l) ≤ length l
dropped m l = let e = length-drop m l in omega arith

cut_short : (l : List ℕ) → length (before_nul l) ≤ length l
unfolding before_nul
cut_short [] = omega arith
cut_short (x ∷ l) = go (eqb x 0) (cut_short l)
  where
    go : (t : Bool) → length (before_nul l) ≤ length l → length (cond t [] (x ∷ before_nul l)) ≤ suc (length l)
    go true h = omega arith
    go false h = omega arith

-- ---- a row of a plain block, of a nullable block, and of any
plain-bytes : (k : Kind) (n : ℕ) (b : List ℕ) (i : ℕ) → length (bytes_in (plain_row k n b i)) ≤ length b
unfolding plain_row bytes_in char_at blob_at
plain-bytes (Fixed p) n b i = omega arith
plain-bytes (Char w) n b i =
    let h = cut_short (take w (drop (i * w) b)) in
    let t = taken w (drop (i * w) b) in
    let d = dropped (i * w) b in
    omega arith
plain-bytes (Blob text) n b i =
    let t = taken (end_at b i - start_at b i) (drop (4 * n + start_at b i) b) in
    let d = dropped (4 * n + start_at b i) b in
    omega arith

nullable-bytes : (k : Kind) (n : ℕ) (b : List ℕ) (i : ℕ) → length (bytes_in (nullable_row k n b i)) ≤ length b
unfolding nullable_row plain_part bytes_in
nullable-bytes k n b i = go (eqb (bit_at (bitmap_part n b) i) 0)
  where
    part : List ℕ
    part = take (length b - (bitmap_length n + 4)) b

    go : (t : Bool) → length (bytes_in (cond t null (plain_row k n part i))) ≤ length b
    go true = omega arith
    go false = let h = plain-bytes k n part i in let t = taken (length b - (bitmap_length n + 4)) b in omega arith

entry-bytes : (k : Kind) (n : ℕ) (part : List ℕ) (s : ℕ) → length (bytes_in (entry_row k n part s)) ≤ length part
unfolding entry_row bytes_in
entry-bytes k n part zero = omega arith
entry-bytes k n part (suc s) = plain-bytes k n part s

row-bytes : (k : Kind) (e : Encoding) (n : ℕ) (h : Head) (b : List ℕ) (i : ℕ) → length (bytes_in (row_at k e n h b i)) ≤ length b
unfolding row_at inner_part entries_part
row-bytes k Plain n h b i = plain-bytes k n b i
row-bytes k Nullable n h b i = nullable-bytes k n b i
row-bytes k RunLength n h b i =
    let p = plain-bytes k h.runs (drop (8 + h.counts) b) i in
    let d = dropped (8 + h.counts) b in
    omega arith
row-bytes k RunLengthNullable n h b i =
    let p = nullable-bytes k h.runs (drop (8 + h.counts) b) i in
    let d = dropped (8 + h.counts) b in
    omega arith
row-bytes k Dictionary n h b i =
    let p = entry-bytes k h.entries (drop (12 + h.keys) b) (slot_at (inner_part h.counts (key_part h.keys b)) i) in
    let d = dropped (12 + h.keys) b in
    omega arith

-- ---- the room for one row
pub record Holds (b : List ℕ) (a : Areas) : Type 0 where
  pub values : 1 ≤ length a.values
  pub flags : 1 ≤ length a.flags
  pub ends : 1 ≤ length a.ends
  pub bytes : length b ≤ length a.bytes

long-enough : (k : Kind) (rs : List Row) (a : Areas)
    → length rs ≤ length a.values → length rs ≤ length a.flags → length rs ≤ length a.ends
    → length (joined bytes_in rs) ≤ length a.bytes → length (joined bytes_in rs) ≤ MOST_GIVEN → short k rs a ≡ false
unfolding short
long-enough k rs a v f e b m = go (is_bytes k)
  where
    n : ℕ
    n = length (joined bytes_in rs)

    go : (t : Bool)
        → ltb (length a.flags) (length rs) || cond t (ltb (length a.ends) (length rs) || ltb (length a.bytes) n || ltb MOST_GIVEN n) (ltb (length a.values) (length rs)) ≡ false
    go true = simp (le-ltb (length a.flags) (length rs) f, le-ltb (length a.ends) (length rs) e, le-ltb (length a.bytes) n b, le-ltb MOST_GIVEN n m)
    go false = simp (le-ltb (length a.flags) (length rs) f, le-ltb (length a.values) (length rs) v)

first-bytes : (k : Kind) (e : Encoding) (n : ℕ) (b is : List ℕ) → length (joined bytes_in (take 1 (rows_at k e n b is))) ≤ length b
unfolding joined
first-bytes k e n b [] = omega arith
first-bytes k e n b (i ∷ is) = rw append-nil (row-bytes k e n (head_of e b) b i)

-- ---- the call
given-told : (t : Bool) (x : ℕ) (rs ys : List Row) → cond t (gave 0 rs) (refused x) ≡ gave 0 ys → t ≡ true
given-told true x rs ys q = refl
given-told false x rs ys q = let z : ◌≡◌ {A = ℕ} 0 1 = cc in absurd (omega arith)

pub record Given (k : Kind) (e : Encoding) (n : ℕ) (b : List ℕ) (r : Reader) (a : Areas) : Type 0 where
  pub number : (read r b 0 1 a).answer.number ≡ 0
  pub rest : List ℕ
  pub stands : Stands k e n b (read r b 0 1 a).answer.reader rest

-- the next row, or none at the end, is given, and the reader stands well after it
pub row-given : {k : Kind} {e : Encoding} {n : ℕ} {b : List ℕ} {r : Reader} {is : List ℕ} → Stands k e n b r is
    → (a : Areas) → Holds b a → Given k e n b r a
unfolding answer_to read_answer after due
row-given {k} {e} {n} {b} {r} {is} g a h =
    let t = one-call g (reading 0 1 a) in
    let x : Batch = read r b 0 1 a in
    record {
      number = eqb-true x.answer.number 0 (given-told (eqb x.answer.number 0) x.answer.number (handed (column_in r) x.answer.rows x.areas) rs (t.answer ∙ due-given));
      rest = drop (moves (due k (rows_at k e n b is) (reading 0 1 a))) is;
      stands = t.stands;
    }
  where
    rs : List Row
    rs = take 1 (rows_at k e n b is)

    fits : short k rs a ≡ false
    fits =
        let l = length-take 1 (rows_at k e n b is) in
        let m = min-le_left 1 (length (rows_at k e n b is)) in
        let y = first-bytes k e n b is in
        let w = g.right.numbers.size in
        let z = g.long in
        let v = h.values in
        let f = h.flags in
        let d = h.ends in
        let c = h.bytes in
        long-enough k rs a (omega arith) (omega arith) (omega arith) (omega arith) (omega arith)

    due-given : due k (rows_at k e n b is) (reading 0 1 a) ≡ gave 0 rs
    due-given = simp (le-ltb (length (rows_at k e n b is)) 0 (omega arith), fits)
