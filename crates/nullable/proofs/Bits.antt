-- A bit is 0 or 1, a bitmap has room for its bits, and bit i of the bitmap of some rows says whether row i is there. Assumes nothing.
use Prim.Native.Nat.{ℕ, zero, suc, ◌+◌, ◌*◌, ◌/◌, ◌%◌, ◌^◌, ◌≤◌, ◌<◌}
use native.Mathlib.Nat.{zero-add, mul_comm, zero-div, pow-suc, div-div-eq-div-mul}
use native.Mathlib.Omega.{arith}
use mathlib.Core.Path.{◌≡◌, refl, sym, ap, ◌∙◌}
use mathlib.Core.List.{List, [], ◌∷◌, map}
use lib.ListN.{length, take, drop, get_or}
use lib.Seq.{get_or-take, get_or-drop}
use Rattle.limits.specs.Limits.{MOST_ITEMS}
use Rattle.plain.specs.Rows.{Row, null, int, bytes}
use Rattle.plain.proofs.Places.{length_over, get_d_over}
use Rattle.nullable.specs.Nullable.{bitmap_length, presence, byte_of, bitmap_byte, bitmap_of, bit_at}

pub bit-small : (bitmap : List ℕ) (i : ℕ) → bit_at bitmap i < 2
unfolding bit_at
bit-small bitmap i = let x : ℕ = get_or bitmap (i / 8) 0 / 2 ^ (i % 8) in omega arith

pub bits_fit : (n : ℕ) → n ≤ 8 * bitmap_length n
unfolding bitmap_length
bits_fit n = omega arith

pub bitmap-small : (n : ℕ) → n ≤ MOST_ITEMS → bitmap_length n ≤ MOST_ITEMS / 8
unfolding bitmap_length
bitmap-small n h = omega arith

pub length-bitmap : (rows : List Row) → length (bitmap_of rows) ≡ bitmap_length (length rows)
unfolding bitmap_of
length-bitmap rows = length_over (bitmap_byte rows) (bitmap_length (length rows)) 0

-- ---- a bit of a byte
pub presence-small : (r : Row) → presence r < 2
unfolding presence
presence-small null = omega arith
presence-small (int v) = omega arith
presence-small (bytes bs) = omega arith

byte-bit : (rows : List Row) (j : ℕ) → byte_of (map presence rows) / 2 ^ j % 2 ≡ get_or (map presence rows) j 0
unfolding byte_of
byte-bit [] j = rw zero-div
byte-bit (r ∷ rows) zero = let s : presence r < 2 = presence-small r in omega arith
byte-bit (r ∷ rows) (suc j) =
    let s : presence r < 2 = presence-small r in
    let h : (presence r + 2 * byte_of (map presence rows)) / 2 ≡ byte_of (map presence rows) = omega arith in
    rw (pow-suc 2 j, mul_comm (2 ^ j) 2, ← div-div-eq-div-mul (presence r + 2 * byte_of (map presence rows)) 2 (2 ^ j), h) (byte-bit rows j)

-- ---- a bit of the bitmap
taken : (n : ℕ) (rows : List Row) → take n (map presence rows) ≡ map presence (take n rows)
taken zero rows = refl
taken (suc n) [] = refl
taken (suc n) (r ∷ rows) = ap (λ (l : List ℕ). presence r ∷ l) (taken n rows)

dropped : (n : ℕ) (rows : List Row) → drop n (map presence rows) ≡ map presence (drop n rows)
dropped zero rows = refl
dropped (suc n) [] = refl
dropped (suc n) (r ∷ rows) = dropped n rows

pub bit-row : (rows : List Row) (i : ℕ) → i < length rows → bit_at (bitmap_of rows) i ≡ get_or (map presence rows) i 0
unfolding bit_at bitmap_of bitmap_byte bitmap_length
bit-row rows i h =
    let k : ℕ = i / 8 in
    let j : ℕ = i % 8 in
    let part : List Row = take 8 (drop (8 * k) rows) in
    let p : take 8 (drop (8 * k) (map presence rows)) ≡ map presence part = rw (dropped, taken) in
    let q : 8 * k + j ≡ i = omega arith in
    ap (λ (x : ℕ). x / 2 ^ j % 2) (get_d_over (bitmap_byte rows) ((length rows + 7) / 8) 0 k 0 (omega arith) ∙ rw (zero-add, p))
    ∙ byte-bit part j
    ∙ ap (λ (l : List ℕ). get_or l j 0) (sym p)
    ∙ get_or-take 8 (drop (8 * k) (map presence rows)) j 0 (omega arith)
    ∙ get_or-drop (8 * k) (map presence rows) j 0
    ∙ ap (λ (m : ℕ). get_or (map presence rows) m 0) q
