-- A text laid at the start of lent memory, the loop of hex digits, and a row's text by its case. Assumes nothing.
use Prim.Native.Nat.{ℕ, suc, ◌+◌, ◌-◌, ◌*◌, ◌/◌, ◌%◌, ◌≤◌, ◌<◌}
use native.Mathlib.Nat.{zero-add}
use native.Mathlib.Numerals.{add-one}
use native.Mathlib.Omega.{arith}
use mathlib.Core.Bool.{Bool, true, false}
use mathlib.Core.Path.{◌≡◌, refl, sym, ap, ◌∙◌}
use mathlib.Core.List.{List, [], ◌∷◌}
use lib.IntN.{ℤ}
use lib.ListN.{length, take, drop, get_or, set, length-set}
use lib.Seq.{sets, sets-eq, take-append_seam, drop-cons, drop-length}
use borrow.Author.Tests.{lt-ltb, le-ltb}
use Rattle.area.proofs.Laws.{over-sets}
use Rattle.io.specs.Digits.{hex_digit_ascii}
use Rattle.encode.specs.declared.Kind.{Kind}
use Rattle.encode.specs.declared.Kind.TheVariants.{Fixed, Char, Blob}
use Rattle.encode.specs.declared.Primitive.{Primitive}
use Rattle.plain.specs.Rows.{row_of, value_of}
use Rattle.std.specs.Prelude.{Option, Some, None}
use Rattle.text.specs.Text.{value_text, hex_of, bytes_text, null_text, int_text, row_text, made_in, held_after}

-- what making a text comes to: the answer and what the memory then holds
abbrev pub Lays : List ℕ → List ℕ → Option ℕ → List ℕ → Type 0
Lays t out r out' = (r ≡ made_in out t) × (out' ≡ held_after out t)

module _ (t out : List ℕ) where
  pub lays-nothing : length out < length t → Lays t out None out
  unfolding made_in held_after
  lays-nothing h = (rw (lt-ltb (length out) (length t) h), rw (lt-ltb (length out) (length t) h))

  pub lays-whole : {n : ℕ} {out' : List ℕ} → length t ≤ length out → n ≡ length t → out' ≡ sets out 0 t → Lays t out (Some n) out'
  unfolding made_in held_after
  lays-whole h e q = (
    rw (le-ltb (length out) (length t) h) (ap Some e),
    rw (le-ltb (length out) (length t) h) (q ∙ over-sets t out 0 (omega (arith, zero-add (length t)))),
  )

-- a text by another name
pub lays-same : (out : List ℕ) {s t : List ℕ} {r : Option ℕ} {out' : List ℕ} → s ≡ t → Lays s out r out' → Lays t out r out'
lays-same out e p = rw e at p

-- what was put at the start of a room, taken from it
taken_back : (t room : List ℕ) {n : ℕ} {room' : List ℕ} → n ≡ 0 + length t → n ≤ length room → room' ≡ sets room 0 t → take n room' ≡ t
taken_back t room {n} {room'} e h q =
    let m : n ≡ length t = e ∙ zero-add (length t) in
    rw (q, m, sets-eq t room 0 (omega (arith, zero-add (length t)))) (take-append_seam t (drop (0 + length t) room))

pub value-back :
    (p : Primitive) (u v : ℤ) (room : List ℕ) {n : ℕ} {room' : List ℕ} → u ≡ v → n ≡ 0 + length (value_text p u) → n ≤ length room
    → room' ≡ sets room 0 (value_text p u) → take n room' ≡ value_text p v
value-back p u v room w e h q = taken_back (value_text p u) room e h q ∙ ap (value_text p) w

-- ---- hex
pub record Hexing (bytes out₀ out : List ℕ) (i to : ℕ) : Type 0 where
  pub same : sets out to (hex_of (drop i bytes)) ≡ sets out₀ 0 (hex_of bytes)
  pub hi : i ≤ length bytes
  pub room : to + 2 * (length bytes - i) ≤ length out
  pub long : length out ≡ length out₀

pub hexing-start : (bytes out : List ℕ) → 2 * length bytes ≤ length out → Hexing bytes out out 0 0
hexing-start bytes out h = record { same = refl; hi = omega arith; room = omega arith; long = refl }

module _ {bytes out₀ out : List ℕ} {i to : ℕ} (f : Hexing bytes out₀ out i to) where
  pub hexing-step :
      {x g h : ℕ} → i < length bytes → x ≡ get_or bytes i 0 → g ≡ hex_digit_ascii (x / 16) → h ≡ hex_digit_ascii (x % 16)
      → Hexing bytes out₀ (set (set out to g) (to + 1) h) (i + 1) (to + 2)
  unfolding hex_of
  hexing-step {x} {g} {h} k e p q =
      let two : to + 2 ≡ suc (suc to) = omega arith in
      let l : length (set (set out to g) (to + 1) h) ≡ length out = length-set (set out to g) (to + 1) h ∙ length-set out to g in
      record {
        same = rw (two, add-one to, add-one i, p, q, e) (rw (drop-cons bytes i 0 k) at f.same);
        hi = omega arith;
        room = omega (arith, f.room);
        long = l ∙ f.long;
      }

  pub hexing-end : length bytes ≤ i → out ≡ sets out₀ 0 (hex_of bytes)
  unfolding hex_of
  hexing-end h =
      let e : i ≡ length bytes = omega (arith, f.hi) in
      rw (e, drop-length bytes) at f.same

pub length-hex : (bs : List ℕ) → length (hex_of bs) ≡ 2 * length bs
unfolding hex_of
length-hex [] = refl
length-hex (b ∷ bs) = let m : length (hex_of bs) ≡ 2 * length bs = length-hex bs in omega arith

-- ---- bytes
pub bytes-none : (bs : List ℕ) → length bs ≤ 0 → 45 ∷ [] ≡ bytes_text bs
unfolding bytes_text
bytes-none [] h = refl
bytes-none (b ∷ bs) h = absurd (omega arith)

pub bytes-some : (bs : List ℕ) → 0 < length bs → hex_of bs ≡ bytes_text bs
unfolding bytes_text
bytes-some [] h = absurd (omega arith)
bytes-some (b ∷ bs) h = refl

module _ (bs out : List ℕ) (some : 0 < length bs) where
  pub bytes-short : length out / 2 < length bs → Lays (bytes_text bs) out None out
  bytes-short h =
      let l = length-hex bs in
      lays-same out (bytes-some bs some) (lays-nothing (hex_of bs) out (omega arith))

  pub bytes_whole : {out' : List ℕ} → length bs ≤ length out / 2 → out' ≡ sets out 0 (hex_of bs) → Lays (bytes_text bs) out (Some (2 * length bs)) out'
  bytes_whole h q =
      let l = length-hex bs in
      lays-same out (bytes-some bs some) (lays-whole (hex_of bs) out (omega arith) (sym l) q)

-- ---- a row
module _ (k : Kind) {present : Bool} (v : ℤ) (bs : List ℕ) where
  pub row-null : present ≡ false → null_text ≡ row_text k (row_of k present v bs)
  unfolding row_text row_of
  row-null e = rw e

  pub row-value : {p : Primitive} {u : ℤ} → u ≡ v → present ≡ true → k ≡ Fixed p → value_text p u ≡ row_text k (row_of k present v bs)
  unfolding row_text row_of value_of int_text
  row-value h e q = rw (h, e, q)

  pub row-char : {w : ℕ} → present ≡ true → k ≡ Char w → bytes_text bs ≡ row_text k (row_of k present v bs)
  unfolding row_text row_of value_of
  row-char e q = rw (e, q)

  pub row-blob : present ≡ true → {text : Bool} → k ≡ Blob text → bytes_text bs ≡ row_text k (row_of k present v bs)
  unfolding row_text row_of value_of
  row-blob e q = rw (e, q)
