-- What a read wrote, read back from its areas, is the rows that it gave. Assumes nothing.
use Rattle.std.specs.Prelude.{Some}
use Prim.Native.Nat.{ℕ, zero, suc, ◌+◌, ◌-◌, ◌<◌}
use native.Mathlib.Nat.{zero-add}
use native.Mathlib.Omega.{arith}
use mathlib.Core.Bool.{Bool, true, false, cond}
use mathlib.Core.List.{List, [], ◌∷◌, ◌++◌, map, append_assoc}
use mathlib.Core.Path.{◌≡◌, refl, sym, ap, ◌∙◌}
use lib.Dec.{eqb}
use lib.IntN.{pos}
use lib.ListN.{length, take, drop, get_or, length-append, length-map, get_or-append, get_or-map}
use lib.Seq.{take-append_seam, drop-append-add, ext_get_or}
use Rattle.area.specs.Area.{over}
use Rattle.encode.specs.declared.Kind.{Kind}
use Rattle.encode.specs.declared.Kind.TheVariants.{Fixed, Char, Blob}
use Rattle.plain.specs.Rows.{Row, null, int, bytes, int_in, bytes_in}
use Rattle.plain.specs.Plain.{places, joined, ends_from, plain_row}
use Rattle.plain.proofs.Ends.{length-ends}
use Rattle.plain.proofs.Places.{length_over, get_d_over}
use Rattle.nullable.specs.Nullable.{presence, bit_at, bitmap_part, plain_part, nullable_row}
use Rattle.dict.specs.Dictionary.{entry_row, slot_at, key_part, entries_part}
use Rattle.rle.specs.RunLength.{inner_part}
use Rattle.format.specs.declared.Encoding.{Encoding}
use Rattle.format.specs.declared.Encoding.TheVariants.{Plain, Nullable, RunLength, RunLengthNullable, Dictionary}
use Rattle.format.specs.declared.Head.{Head}
use Rattle.format.specs.Opening.{row_at}
use Rattle.block.specs.Reading.{is_bytes, Areas, filled_in}
use Rattle.block.specs.Calls.{start_in, handed_row, handed}
use Rattle.format.specs.Blocks.{column}

-- ---- what was laid over the front of an area
over-front : {A : Type 0} (vs d : List A) (i : ℕ) (z : A) → i < length vs → get_or (over d 0 vs) i z ≡ get_or vs i z
unfolding over
over-front vs d i z h = get_or-append vs (drop (0 + length vs) d) z i h

-- ---- where the bytes of each row stand
module _ where
  -- the bytes of the rows in front of row i
  abbrev start : List Row → ℕ → ℕ
  start rs i = length (joined bytes_in (take i rs))

  abbrev long : List Row → ℕ → ℕ
  long rs i = length (bytes_in (get_or rs i null))

  start-next : (rs : List Row) (i : ℕ) → i < length rs → start rs (suc i) ≡ start rs i + long rs i
  unfolding joined
  start-next [] i h = absurd (omega arith)
  start-next (r ∷ rs) zero h = simp length-append (omega arith)
  start-next (r ∷ rs) (suc i) h = simp length-append (omega (arith, start-next rs i (omega arith)))

  end-at : (rs : List Row) (o i : ℕ) → i < length rs → get_or (ends_from o (map bytes_in rs)) i 0 ≡ o + (start rs i + long rs i)
  unfolding joined ends_from
  end-at [] o i h = absurd (omega arith)
  end-at (r ∷ rs) o zero h = rw zero-add
  end-at (r ∷ rs) o (suc i) h = simp length-append (omega (arith, end-at rs (o + length (bytes_in r)) i (omega arith)))

  bytes-at : (rs : List Row) (rest : List ℕ) (i : ℕ) → i < length rs
      → take (long rs i) (drop (start rs i) (joined bytes_in rs ++ rest)) ≡ bytes_in (get_or rs i null)
  unfolding joined
  bytes-at [] rest i h = absurd (omega arith)
  bytes-at (r ∷ rs) rest zero h = rw (append_assoc, take-append_seam)
  bytes-at (r ∷ rs) rest (suc i) h = rw (length-append, append_assoc, drop-append-add) (bytes-at rs rest i (omega arith))

-- ---- one row
-- a row as its flag, its value and its bytes give it
unfoldable pub as_handed : Kind → Row → Row
as_handed k r = cond (eqb (presence r) 0) null (cond (is_bytes k) (bytes (bytes_in r)) (int (int_in r)))

module _ (rs : List Row) (a : Areas) (i : ℕ) (h : i < length rs) where
  flag_at : get_or (over a.flags 0 (map presence rs)) i 0 ≡ presence (get_or rs i null)
  unfolding presence
  flag_at =
      let l = length-map rs presence in
      over-front (map presence rs) a.flags i 0 (omega arith) ∙ get_or-map presence rs i null

  value-at : get_or (over a.values 0 (map int_in rs)) i (pos 0) ≡ int_in (get_or rs i null)
  unfolding int_in
  value-at =
      let l = length-map rs int_in in
      over-front (map int_in rs) a.values i (pos 0) (omega arith) ∙ get_or-map int_in rs i null

  abbrev ends : List ℕ
  ends = over a.ends 0 (ends_from 0 (map bytes_in rs))

  ends-long : length (ends_from 0 (map bytes_in rs)) ≡ length rs
  ends-long = length-ends 0 (map bytes_in rs) ∙ length-map rs bytes_in

  end-in : (j : ℕ) → j < length rs → get_or ends j 0 ≡ start rs j + long rs j
  end-in j l =
      let m = ends-long in
      over-front (ends_from 0 (map bytes_in rs)) a.ends j 0 (omega arith) ∙ end-at rs 0 j l ∙ zero-add _

  start-in : (j : ℕ) → j < length rs → start_in ends j ≡ start rs j
  unfolding start_in joined
  start-in zero l = refl
  start-in (suc j) l = end-in j (omega arith) ∙ sym (start-next rs j (omega arith))

  bytes-in : take (get_or ends i 0 - start_in ends i) (drop (start_in ends i) (over a.bytes 0 (joined bytes_in rs))) ≡ bytes_in (get_or rs i null)
  unfolding over
  bytes-in =
      let m : start rs i + long rs i - start rs i ≡ long rs i = omega arith in
      rw (end-in i h, start-in i h, m) (bytes-at rs (drop (0 + length (joined bytes_in rs)) a.bytes) i h)

  row-at : (k : Kind) → handed_row k (filled_in k rs a) i ≡ as_handed k (get_or rs i null)
  unfolding handed_row filled_in as_handed is_bytes
  row-at (Fixed p) = rw (flag_at, value-at)
  row-at (Char w) = rw (flag_at, bytes-in)
  row-at (Blob text) = rw (flag_at, bytes-in)

-- ---- all rows
null-handed : (k : Kind) → as_handed k null ≡ null
unfolding as_handed presence
null-handed k = refl

pub read_back : (k : Kind) (e : Encoding) (rs : List Row) (a : Areas) → handed (Some (column k e)) (length rs) (filled_in k rs a) ≡ map (as_handed k) rs
unfolding handed
read_back k e rs a =
    let f = handed_row k (filled_in k rs a) in
    let l : length (map f (places (length rs) 0)) ≡ length rs = length_over f (length rs) 0 in
    let m : length (map (as_handed k) rs) ≡ length rs = length-map rs (as_handed k) in
    ext_get_or null _ _ (l ∙ sym m) (λ i h. at i (omega arith))
  where
    at : (i : ℕ) → i < length rs → get_or (map (handed_row k (filled_in k rs a)) (places (length rs) 0)) i null ≡ get_or (map (as_handed k) rs) i null
    at i h =
        get_d_over (handed_row k (filled_in k rs a)) (length rs) 0 i null h
        ∙ ap (handed_row k (filled_in k rs a)) (zero-add i)
        ∙ row-at rs a i h k
        ∙ sym (get_or-map (as_handed k) rs i null)
        ∙ ap (λ (d : Row). get_or (map (as_handed k) rs) i d) (null-handed k)

-- ---- the rows of a block are such rows
plain-handed : (k : Kind) (n : ℕ) (b : List ℕ) (i : ℕ) → as_handed k (plain_row k n b i) ≡ plain_row k n b i
unfolding as_handed plain_row presence is_bytes int_in bytes_in
plain-handed (Fixed p) n b i = refl
plain-handed (Char w) n b i = refl
plain-handed (Blob text) n b i = refl

nullable-handed : (k : Kind) (n : ℕ) (b : List ℕ) (i : ℕ) → as_handed k (nullable_row k n b i) ≡ nullable_row k n b i
unfolding nullable_row as_handed presence
nullable-handed k n b i = go (eqb (bit_at (bitmap_part n b) i) 0)
  where
    go : (t : Bool) → as_handed k (cond t null (plain_row k n (plain_part n b) i)) ≡ cond t null (plain_row k n (plain_part n b) i)
    go true = refl
    go false = plain-handed k n (plain_part n b) i

entry-handed : (k : Kind) (n : ℕ) (b : List ℕ) (s : ℕ) → as_handed k (entry_row k n b s) ≡ entry_row k n b s
unfolding entry_row as_handed presence
entry-handed k n b zero = refl
entry-handed k n b (suc i) = plain-handed k n b i

module _ (k : Kind) (n : ℕ) (h : Head) (b : List ℕ) where
  pub row-handed : (e : Encoding) (i : ℕ) → as_handed k (row_at k e n h b i) ≡ row_at k e n h b i
  unfolding row_at
  row-handed Plain i = plain-handed k n b i
  row-handed Nullable i = nullable-handed k n b i
  row-handed RunLength i = plain-handed k h.runs (inner_part h.counts b) i
  row-handed RunLengthNullable i = nullable-handed k h.runs (inner_part h.counts b) i
  row-handed Dictionary i = entry-handed k h.entries (entries_part h.keys b) (slot_at (inner_part h.counts (key_part h.keys b)) i)

  pub rows-handed : (e : Encoding) (is : List ℕ) → map (as_handed k) (map (row_at k e n h b) is) ≡ map (row_at k e n h b) is
  rows-handed e [] = refl
  rows-handed e (i ∷ is) = rw (row-handed e i, rows-handed e is)
