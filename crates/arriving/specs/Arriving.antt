-- 02 (x): a block checked as it arrives, byte by byte: what is waited for (a stage, and the bytes of an unfinished field), and what the next byte makes of it.
-- That the verdict at the end is opening's, for every cutting, is a theorem (arriving_laws). Assumes nothing.
use Rattle.std.specs.Prelude.{ℕ, zero, suc, ◌+◌, ◌-◌, ◌*◌, Bool, true, false, cond, not, ◌&&◌, ◌||◌, List, [], ◌∷◌, ◌++◌, ltb, leb, eqb, length, take, drop, Option, Some, None}
use Rattle.limits.specs.Limits.{MOST_ITEMS, MOST_ENTRIES, MOST_BYTES}
use Rattle.limits.specs.Refusals.{LIMIT, CUT, LENGTH, VARINT, COUNTS, ENDS, KEY, SUM, TEXT}
use Rattle.encode.specs.Bytes.{number, number_of, high-first}
use Rattle.encode.specs.Kinds.{width_of}
use Rattle.encode.specs.declared.Kind.{Kind}
use Rattle.encode.specs.declared.Kind.TheVariants.{Fixed, Char, Blob}
use Rattle.varint.specs.declared.Count.{Count}
use Rattle.varint.specs.Varint.{count_of}
use Rattle.utf8.specs.Utf8.{Due, due, never, after}
use Rattle.plain.specs.Rules.{◌if◌}
use Rattle.nullable.specs.Nullable.{bitmap_length}
use Rattle.dict.specs.Dictionary.{slot_at}
use Rattle.format.specs.declared.Encoding.{Encoding}
use Rattle.format.specs.declared.Encoding.TheVariants.{Plain, Nullable, RunLength, RunLengthNullable, Dictionary}
use Rattle.format.specs.Opening.{most_rows}
use Rattle.arriving.specs.Stages.{Stage, Done, KeyLength, Entries, RunHead, Counts, Keys, Ends, Chars, Trailer}

-- what is waited for: a stage, and the bytes of a field of it that have come
pub record Waiting : Type 0 where
  pub stage : Stage
  pub held : List ℕ

abbrev pub waiting : Stage → List ℕ → Waiting
waiting s h = record { stage = s; held = h }

-- ---- plain rules: their number is the verdict, or waits for the trailer of a nullable block, whose bitmap has so many bytes
unfoldable pub trailed : Encoding → Bool
trailed Plain = false
trailed Nullable = true
trailed RunLength = false
trailed RunLengthNullable = true
trailed Dictionary = false

unfoldable pub settled : Encoding → ℕ → ℕ → Stage
settled e bits v = cond (trailed e) (Trailer bits v) (Done v)

-- the ends of so many items more
unfoldable pub ends_from : Encoding → ℕ → ℕ → ℕ → ℕ → Stage
ends_from e bits zero last data' = settled e bits (LENGTH if not (eqb last data'))
ends_from e bits (suc n) last data' = Ends (suc n) last data' bits

-- so many bytes more of char items, of which one begins or is in part there
unfoldable pub chars_from : Encoding → ℕ → ℕ → ℕ → Bool → Stage
chars_from e bits zero at ended = settled e bits 0
chars_from e bits (suc n) at ended = Chars (suc n) at ended bits

-- a plain block of so many items in the next `len` bytes
unfoldable pub plain_from : Kind → Encoding → ℕ → ℕ → ℕ → Stage
plain_from (Fixed p) e bits n len = settled e bits (LENGTH if not (eqb len (n * width_of p)))
plain_from (Char w) e bits n len = cond (eqb len (n * w)) (chars_from e bits len 0 false) (settled e bits LENGTH)
plain_from (Blob text) e bits n len = cond (ltb len (4 * n)) (settled e bits CUT) (ends_from e bits n 0 (len - 4 * n))

-- a nullable one: whether bitmap and trailer fit is known, but the trailer's own rule comes first
unfoldable pub nullable_from : Kind → Encoding → ℕ → ℕ → Stage
nullable_from k e n len =
    cond (ltb len 4) (Done CUT)
    (cond (ltb len (bitmap_length n + 4)) (Trailer (bitmap_length n) CUT)
    (plain_from k e (bitmap_length n) n (len - (bitmap_length n + 4))))

-- a run-length block of no bytes: of a dictionary it is the key block, and the entries follow, in the bytes that are left
unfoldable pub no_runs : Kind → Encoding → ℕ → ℕ → Stage
no_runs k Plain entries rest = Done 0
no_runs k Nullable entries rest = Done 0
no_runs k RunLength entries rest = Done 0
no_runs k RunLengthNullable entries rest = Done 0
no_runs k Dictionary entries rest = plain_from k Dictionary 0 entries rest

-- ... of so many bytes
unfoldable pub runs_from : Kind → Encoding → ℕ → ℕ → ℕ → ℕ → Stage
runs_from k e n size entries rest =
    cond (eqb size 0) (cond (eqb n 0) (no_runs k e entries rest) (Done SUM))
    (cond (ltb size 8) (Done CUT) (RunHead size entries))

-- ---- before the first byte
unfoldable pub began_by : Kind → Encoding → ℕ → ℕ → Stage
began_by k Plain n total = plain_from k Plain 0 n total
began_by k Nullable n total = nullable_from k Nullable n total
began_by k RunLength n total = runs_from k RunLength n total 0 total
began_by k RunLengthNullable n total = runs_from k RunLengthNullable n total 0 total
began_by k Dictionary n total = cond (ltb total 12) (Done CUT) KeyLength

unfoldable pub began : Kind → Encoding → ℕ → ℕ → Stage
began k e n total = cond (ltb MOST_BYTES total) (Done LIMIT) (cond (ltb (most_rows e) n) (Done LIMIT) (began_by k e n total))

-- ---- behind the last count: the inner block, or of a dictionary the keys
unfoldable pub keys_from : Kind → ℕ → ℕ → ℕ → Stage
keys_from k zero entries rest = plain_from k Dictionary 0 entries rest
keys_from k (suc n) entries rest = Keys (suc n) entries

unfoldable pub inner_from : Kind → Encoding → ℕ → ℕ → ℕ → ℕ → Stage
inner_from k Plain runs inner entries rest = Done 0
inner_from k Nullable runs inner entries rest = Done 0
inner_from k RunLength runs inner entries rest = plain_from k RunLength 0 runs inner
inner_from k RunLengthNullable runs inner entries rest = nullable_from k RunLengthNullable runs inner
inner_from k Dictionary runs inner entries rest = cond (eqb inner (4 * runs)) (keys_from k runs entries rest) (Done LENGTH)

-- ---- a whole field; `rest` bytes are to come behind it
-- how many bytes it has
unfoldable pub field_of : Stage → ℕ
field_of (Done v) = 0
field_of KeyLength = 8
field_of (Entries keys) = 4
field_of (RunHead size entries) = 8
field_of (Counts inner runs left more sum entries) = 0
field_of (Keys left entries) = 4
field_of (Ends left last data' bits) = 4
field_of (Chars left at ended bits) = 0
field_of (Trailer bits later) = 4

unfoldable pub head_read : ℕ → ℕ → ℕ → ℕ → Stage
head_read size entries runs counts =
    cond (ltb MOST_ITEMS runs) (Done LIMIT)
    (cond (eqb runs 0) (Done COUNTS)
    (cond (ltb size (8 + counts)) (Done CUT)
    (cond (eqb counts 0) (Done COUNTS)
    (Counts (size - (8 + counts)) runs counts runs 0 entries))))

unfoldable pub acted : Kind → Encoding → ℕ → ℕ → Stage → List ℕ → Stage
acted k e n rest (Done v) f = Done v
acted k e n rest KeyLength f = Entries (number_of high-first f)
acted k e n rest (Entries keys) f =
    cond (ltb MOST_ENTRIES (number_of high-first f)) (Done LIMIT)
    (cond (ltb rest keys) (Done CUT) (runs_from k e n keys (number_of high-first f) rest))
acted k e n rest (RunHead size entries) f = head_read size entries (number (take 4 f)) (number (drop 4 f))
acted k e n rest (Counts inner runs left more sum entries) f = Counts inner runs left more sum entries
acted k e n rest (Keys left entries) f = cond (ltb entries (slot_at f 0)) (Done KEY) (keys_from k (left - 1) entries rest)
acted k e n rest (Ends left last data' bits) f =
    cond (leb last (number f) && leb (number f) data') (ends_from e bits (left - 1) (number f) data') (settled e bits ENDS)
acted k e n rest (Chars left at ended bits) f = Chars left at ended bits
acted k e n rest (Trailer bits later) f = Done (cond (eqb (number f) bits) later LENGTH)

-- ---- a byte of the counts: a count ends with the first byte below 128, and with the fifth; the part ends with its last byte
unfoldable pub count_read : Kind → Encoding → ℕ → ℕ → (inner runs left more sum entries : ℕ) → Option Count → Stage
count_read k e n rest inner runs left more sum entries None = Done VARINT
count_read k e n rest inner runs left more sum entries (Some c) =
    cond (eqb c.value 0) (Done COUNTS)
    (cond (eqb more 1)
    (cond (eqb left 0) (cond (eqb (sum + c.value) n) (inner_from k e runs inner entries rest) (Done SUM)) (Done COUNTS))
    (cond (eqb left 0) (Done COUNTS) (Counts inner runs left (more - 1) (sum + c.value) entries)))

unfoldable pub counted : Kind → Encoding → ℕ → ℕ → (inner runs left more sum entries : ℕ) → List ℕ → ℕ → Waiting
counted k e n rest inner runs left more sum entries held b =
    cond (ltb b 128 || eqb (length held) 4) (waiting (count_read k e n rest inner runs left more sum entries (count_of (held ++ (b ∷ [])))) [])
    (cond (eqb left 0) (waiting (Done VARINT) []) (waiting (Counts inner runs left more sum entries) (held ++ (b ∷ []))))

-- ---- a byte of a char item, of width w, at a place of it: up to its first NUL it is text
unfoldable pub item_ends : Encoding → ℕ → ℕ → ℕ → ℕ → Bool → List ℕ → Waiting
item_ends e w bits left at ended held =
    cond (eqb (at + 1) w)
    (cond (eqb (length held) 0) (waiting (chars_from e bits left 0 false) []) (waiting (settled e bits TEXT) []))
    (waiting (chars_from e bits left (at + 1) ended) held)

unfoldable pub text_read : Encoding → ℕ → ℕ → ℕ → ℕ → List ℕ → Due → Waiting
text_read e w bits left at held never = waiting (settled e bits TEXT) []
text_read e w bits left at held (due []) = item_ends e w bits left at false []
text_read e w bits left at held (due (r ∷ rs)) = item_ends e w bits left at false held

unfoldable pub char_read : Encoding → ℕ → ℕ → ℕ → ℕ → Bool → List ℕ → ℕ → Waiting
char_read e w bits left at true held b = item_ends e w bits left at true []
char_read e w bits left at false held b =
    cond (eqb b 0) (cond (eqb (length held) 0) (item_ends e w bits left at true []) (waiting (settled e bits TEXT) []))
    (text_read e w bits left at (held ++ (b ∷ [])) (after (due []) (held ++ (b ∷ []))))

-- ---- the next byte, behind which `rest` are to come
-- one byte more of a field, and the whole field with its last byte
unfoldable pub pushed : Kind → Encoding → ℕ → ℕ → Stage → List ℕ → Waiting
pushed k e n rest s f = cond (eqb (length f) (field_of s)) (waiting (acted k e n rest s f) []) (waiting s f)

unfoldable pub width_in : Kind → ℕ
width_in (Fixed p) = 0
width_in (Char w) = w
width_in (Blob text) = 0

unfoldable pub stepped_by : Kind → Encoding → ℕ → ℕ → Stage → List ℕ → ℕ → Waiting
stepped_by k e n rest (Done v) held b = waiting (Done v) []
stepped_by k e n rest (Counts inner runs left more sum entries) held b = counted k e n rest inner runs (left - 1) more sum entries held b
stepped_by k e n rest (Chars left at ended bits) held b = char_read e (width_in k) bits (left - 1) at ended held b
-- what lies before the trailer is passed over
stepped_by k e n rest (Trailer bits later) held b =
    cond (leb 4 rest) (waiting (Trailer bits later) []) (pushed k e n rest (Trailer bits later) (held ++ (b ∷ [])))
stepped_by k e n rest KeyLength held b = pushed k e n rest KeyLength (held ++ (b ∷ []))
stepped_by k e n rest (Entries keys) held b = pushed k e n rest (Entries keys) (held ++ (b ∷ []))
stepped_by k e n rest (RunHead size entries) held b = pushed k e n rest (RunHead size entries) (held ++ (b ∷ []))
stepped_by k e n rest (Keys left entries) held b = pushed k e n rest (Keys left entries) (held ++ (b ∷ []))
stepped_by k e n rest (Ends left last data' bits) held b = pushed k e n rest (Ends left last data' bits) (held ++ (b ∷ []))

abbrev pub stepped : Kind → Encoding → ℕ → ℕ → Waiting → ℕ → Waiting
stepped k e n rest w b = stepped_by k e n rest w.stage w.held b

-- some bytes, where `rest` are to come
unfoldable pub fed : Kind → Encoding → ℕ → ℕ → Waiting → List ℕ → Waiting
fed k e n rest w [] = w
fed k e n rest w (b ∷ bs) = fed k e n (rest - 1) (stepped k e n (rest - 1) w b) bs
