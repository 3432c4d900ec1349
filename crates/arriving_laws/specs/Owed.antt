-- For the proofs: the verdict that is owed where a check waits, by the rules of 01 on the bytes of the unfinished field and those to come. Assumes nothing.
use Rattle.std.specs.Prelude.{ℕ, ◌+◌, ◌-◌, ◌*◌, ◌≤◌, ◌<◌, Bool, true, false, cond, not, List, [], ◌∷◌, ◌++◌, ◌⊎◌, ◌≡◌, ltb, eqb, length, take, drop}
use Rattle.limits.specs.Limits.{MOST_ENTRIES}
use Rattle.limits.specs.Refusals.{LIMIT, CUT, LENGTH, ENDS, KEY, TEXT}
use Rattle.encode.specs.Bytes.{number_of, high-first}
use Rattle.encode.specs.declared.Kind.{Kind}
use Rattle.encode.specs.declared.Kind.TheVariants.{Fixed, Char, Blob}
use Rattle.utf8.specs.Utf8.{Range, Due, due, never, after}
use Rattle.plain.specs.Rules.{◌if◌, first_of}
use Rattle.plain.specs.Plain.{places, ends_of, rising, last_of, plain_number}
use Rattle.nullable.specs.Nullable.{trailer_of, nullable_number}
use Rattle.rle.specs.RunLength.{plus, walked, walk_number, run_length_number}
use Rattle.dict.specs.Dictionary.{i32, known, keys_number, dictionary_number}
use Rattle.format.specs.declared.Encoding.{Encoding}
use Rattle.format.specs.declared.Encoding.TheVariants.{Plain, Nullable, RunLength, RunLengthNullable, Dictionary}
use Rattle.arriving.specs.Stages.{Stage, Done, KeyLength, Entries, RunHead, Counts, Keys, Ends, Chars, Trailer}
use Rattle.arriving.specs.Arriving.{Waiting, trailed, width_in}

-- what the plain rules say, and before it, of a nullable block, its trailer
unfoldable pub trailed_by : Encoding → ℕ → List ℕ → ℕ → ℕ
trailed_by e bits xs v = cond (trailed e) (first_of (LENGTH if not (eqb (trailer_of xs) bits) ∷ v ∷ [])) v

-- of a dictionary: the key block of so many bytes, its keys, and the entries behind it
unfoldable pub keys_then : Kind → ℕ → ℕ → ℕ → List ℕ → ℕ
keys_then k n size entries xs =
    first_of (
    run_length_number (plain_number i32) n (take size xs)
    ∷ keys_number entries (take size xs)
    ∷ plain_number k entries (drop size xs)
    ∷ [])

unfoldable pub runs_owed : Kind → Encoding → ℕ → ℕ → ℕ → List ℕ → ℕ
runs_owed k Plain n size entries xs = 0
runs_owed k Nullable n size entries xs = 0
runs_owed k RunLength n size entries xs = run_length_number (plain_number k) n xs
runs_owed k RunLengthNullable n size entries xs = run_length_number (nullable_number k) n xs
runs_owed k Dictionary n size entries xs = keys_then k n size entries xs

-- behind the counts: the inner block of so many items, or so many keys and the entries
unfoldable pub inner_owed : Kind → Encoding → ℕ → ℕ → ℕ → List ℕ → ℕ
inner_owed k Plain runs inner entries xs = 0
inner_owed k Nullable runs inner entries xs = 0
inner_owed k RunLength runs inner entries xs = plain_number k runs xs
inner_owed k RunLengthNullable runs inner entries xs = nullable_number k runs xs
inner_owed k Dictionary runs inner entries xs =
    first_of (
    plain_number i32 runs (take inner xs)
    ∷ KEY if not (known entries (take inner xs) (places runs 0))
    ∷ plain_number k entries (drop inner xs)
    ∷ [])

-- char items of width w: a place in one, whether it has had its NUL, and the bytes of a sequence that has begun; or no text
pub data Place : Type 0 where
  on : ℕ → Bool → List ℕ → Place
  bad : Place

unfoldable pub place_behind : ℕ → ℕ → Bool → List ℕ → Place
place_behind w at ended held = cond (eqb (at + 1) w) (cond (eqb (length held) 0) (on 0 false []) bad) (on (at + 1) ended held)

unfoldable pub sequence_behind : ℕ → ℕ → List ℕ → Due → Place
sequence_behind w at held never = bad
sequence_behind w at held (due []) = place_behind w at false []
sequence_behind w at held (due (r ∷ rs)) = place_behind w at false held

unfoldable pub next_place : ℕ → Place → ℕ → Place
next_place w bad b = bad
next_place w (on at true held) b = place_behind w at true []
next_place w (on at false held) b =
    cond (eqb b 0) (cond (eqb (length held) 0) (place_behind w at true []) bad)
    (sequence_behind w at (held ++ (b ∷ [])) (after (due []) (held ++ (b ∷ []))))

unfoldable pub places_behind : ℕ → Place → List ℕ → Place
places_behind w p [] = p
places_behind w p (b ∷ bs) = places_behind w (next_place w p b) bs

-- whether each is text up to its first NUL
abbrev pub is_on : Place → Bool
is_on bad = false
is_on (on at ended held) = true

abbrev pub text_from : ℕ → Place → List ℕ → Bool
text_from w p bs = is_on (places_behind w p bs)

-- the verdict owed
unfoldable pub owed_by : Kind → Encoding → ℕ → Stage → List ℕ → List ℕ → ℕ
owed_by k e n (Done v) held bs = v
owed_by k e n KeyLength held bs = dictionary_number k n (held ++ bs)
owed_by k e n (Entries keys) held bs =
    let xs : List ℕ = held ++ bs in
    first_of (
    LIMIT if ltb MOST_ENTRIES (number_of high-first (take 4 xs))
    ∷ CUT if ltb (length (drop 4 xs)) keys
    ∷ keys_then k n keys (number_of high-first (take 4 xs)) (drop 4 xs)
    ∷ [])
owed_by k e n (RunHead size entries) held bs = runs_owed k e n size entries (held ++ bs)
owed_by k e n (Counts inner runs left more sum entries) held bs =
    let xs : List ℕ = held ++ bs in
    first_of (
    walk_number n (plus sum (walked more (take (length held + left) xs)))
    ∷ inner_owed k e runs inner entries (drop (length held + left) xs)
    ∷ [])
owed_by k e n (Keys left entries) held bs =
    first_of (KEY if not (known entries (held ++ bs) (places left 0)) ∷ plain_number k entries (drop (4 * left) (held ++ bs)) ∷ [])
owed_by k e n (Ends left last data' bits) held bs =
    trailed_by e bits (held ++ bs)
    (first_of (
    ENDS if not (rising last data' (ends_of left (held ++ bs)))
    ∷ LENGTH if not (eqb (last_of last (ends_of left (held ++ bs))) data')
    ∷ []))
owed_by k e n (Chars left at ended bits) held bs =
    trailed_by e bits bs (TEXT if not (text_from (width_in k) (on at ended held) (take left bs)))
owed_by k e n (Trailer bits later) held bs = first_of (LENGTH if not (eqb (trailer_of (held ++ bs)) bits) ∷ later ∷ [])

abbrev pub owed : Kind → Encoding → ℕ → Waiting → List ℕ → ℕ
owed k e n w bs = owed_by k e n w.stage w.held bs

-- ---- what a check keeps while it waits and so many bytes are to come
-- what lies behind the plain part: bitmap and trailer of a nullable block
unfoldable pub tail_of : Encoding → ℕ → ℕ
tail_of e bits = cond (trailed e) (bits + 4) 0

-- a sequence has begun, and isn't whole; it has no NUL
unfoldable pub Begun : List ℕ → Type 0
Begun held = (r : Range) × (rs : List Range) × (after (due []) held ≡ due (r ∷ rs))

-- bytes of a count that goes on
unfoldable pub Unended : List ℕ → Type 0
Unended [] = Unit
Unended (b ∷ bs) = (128 ≤ b) × Unended bs

-- runs are coded
unfoldable pub coded : Encoding → Bool
coded Plain = false
coded Nullable = false
coded RunLength = true
coded RunLengthNullable = true
coded Dictionary = true

unfoldable pub Fits : Kind → Encoding → Stage → List ℕ → ℕ → Type 0
Fits k e (Done v) held m = held ≡ []
Fits k e KeyLength held m = (e ≡ Dictionary) × (length held < 8) × (12 ≤ length held + m)
Fits k e (Entries keys) held m = (e ≡ Dictionary) × (length held < 4) × (4 ≤ length held + m)
Fits k e (RunHead size entries) held m =
    (coded e ≡ true) × (length held < 8) × (8 ≤ size) × (size ≤ length held + m) × ((e ≡ Dictionary → ⊥) → size ≡ length held + m)
Fits k e (Counts inner runs left more sum entries) held m =
    (coded e ≡ true) × (0 < left) × (0 < more) × (length held < 5) × Unended held × (left + inner ≤ m) × ((e ≡ Dictionary → ⊥) → left + inner ≡ m)
Fits k e (Keys left entries) held m = (e ≡ Dictionary) × (0 < left) × (length held < 4) × (4 * left ≤ length held + m)
Fits k e (Ends left last data' bits) held m = (0 < left) × (length held < 4) × (length held + m ≡ 4 * left + data' + tail_of e bits)
Fits k e (Chars left at ended bits) held m =
    (0 < left) × (at < width_in k) × (m ≡ left + tail_of e bits) × (ended ≡ true → held ≡ []) × ((held ≡ []) ⊎ Begun held)
    × ((j : ℕ) × (left ≡ (width_in k - at) + j * width_in k))
-- held is as much of the last four bytes as has come
Fits k e (Trailer bits later) held m = (trailed e ≡ true) × (0 < m) × (length held ≡ 4 - m)

-- the kinds that are checked: no strings, and no char of no bytes
unfoldable pub Checked : Kind → Type 0
Checked (Fixed p) = Unit
Checked (Char w) = 0 < w
Checked (Blob text) = text ≡ false
