-- Plain blocks: the items are as the layout says exactly when no plain rule refuses them. Assumes nothing.
use Prim.Native.Nat.{ℕ, zero, suc, ◌+◌, ◌-◌, ◌*◌, ◌≤◌}
use native.Mathlib.Omega.{arith}
use mathlib.Core.Bool.{Bool, true, false, ◌&&◌}
use mathlib.Core.List.{List, [], ◌∷◌, ◌++◌, map, append_assoc}
use mathlib.Core.Path.{◌≡◌, refl, sym, ap, ◌∙◌}
use lib.Dec.{leb}
use lib.ListN.{length, take, drop, length-append, length-drop, take-append-drop}
use lib.Seq.{take_at, drop-append-add, length-take-le}
use borrow.Author.Tests.{le-leb, leb-true}
use Rattle.encode.specs.Bytes.{low_first, number}
use Rattle.encode.specs.Kinds.{blob, string}
use Rattle.encode.specs.declared.Kind.{Kind}
use Rattle.encode.specs.declared.Kind.TheVariants.{Fixed, Char, Blob}
use Rattle.encode.proofs.Bools.{clash, both}
use Rattle.plain.specs.Plain.{joined, places, end_at, ends_of, rising, lengths_number, plain_number}
use Rattle.plain.proofs.Ends.{last-same}
use Rattle.plain.proofs.Numbers.{fixed-length, char-length, all-text, text-kept, fixed_plain, char-plain, blobs-plain}
use Rattle.plain.proofs.TextItems.{row-text, rows-text}
use Rattle.plain.proofs.Places.{over-shift, over-same}
use Rattle.plain.specs.Each.{Each}
use Rattle.utf8.proofs.Spelled.{sequences-text, text-sequences}
use Rattle.soundness_laws.specs.Sound.{Written, values, written, Field, NeverFall, Blobs, Items}

-- ---- four bytes and more: the first end, and those behind it
end-behind : (f l : List ℕ) (i : ℕ) → length f ≡ 4 → end_at (f ++ l) (1 + i) ≡ end_at l i
unfolding end_at
end-behind f l i h =
    let m : 4 * (1 + i) ≡ length f + 4 * i = omega arith in
    rw (m, drop-append-add f l (4 * i))

ends_more : (f l : List ℕ) (n : ℕ) → length f ≡ 4 → ends_of (suc n) (f ++ l) ≡ number f ∷ ends_of n l
unfolding ends_of end_at places
ends_more f l n h =
    ap (λ (b : List ℕ). number b ∷ map (end_at (f ++ l)) (places n 1)) (take_at f l 4 h)
    ∙ ap (λ (es : List ℕ). number f ∷ es)
    (over-shift (end_at (f ++ l)) n 1 0
    ∙ over-same (λ (i : ℕ). end_at (f ++ l) (1 + i)) (end_at l) n 0 (λ i a b. end-behind f l i h))

-- ---- so the ends that are read are the fields' values
length-ends : (ends : List Written) → Each (Field 4 low_first) ends → length (written ends) ≡ 4 * length ends
unfolding joined
length-ends [] h = refl
length-ends (w ∷ ends) h = omega (arith, length-append w.bytes (written ends), h.0.0, length-ends ends h.1)

read-ends : (ends : List Written) (rest : List ℕ) → Each (Field 4 low_first) ends → ends_of (length ends) (written ends ++ rest) ≡ values ends
unfolding joined
read-ends [] rest h = unfold ends_of places in refl
read-ends (w ∷ ends) rest h =
    ap (ends_of (suc (length ends))) (append_assoc w.bytes (written ends) rest)
    ∙ ends_more w.bytes (written ends ++ rest) (length ends) h.0.0
    ∙ ap (λ (v : ℕ). v ∷ ends_of (length ends) (written ends ++ rest)) h.0.1
    ∙ ap (λ (vs : List ℕ). w.value ∷ vs) (read-ends ends rest h.1)

-- n fields, and what stands behind them
record Cut (n : ℕ) (b : List ℕ) : Type 0 where
  ends : List Written
  rest : List ℕ
  whole : b ≡ written ends ++ rest
  count : length ends ≡ n
  fields : Each (Field 4 low_first) ends

cut : (n : ℕ) (b : List ℕ) → 4 * n ≤ length b → Cut n b
unfolding joined
cut zero b h = record { ends = []; rest = b; whole = refl; count = refl; fields = tt }
cut (suc n) b h =
    let c = cut n (drop 4 b) (simp length-drop (omega arith)) in
    record {
      ends = record { value = number (take 4 b); bytes = take 4 b } ∷ c.ends;
      rest = c.rest;
      whole = sym (take-append-drop 4 b) ∙ ap (λ (l : List ℕ). take 4 b ++ l) c.whole ∙ sym (append_assoc (take 4 b) (written c.ends) c.rest);
      count = ap suc c.count;
      fields = ((length-take-le 4 b (omega arith), refl), c.fields);
    }

module _ {n : ℕ} {b : List ℕ} (c : Cut n b) where
  room-behind : length b ≡ 4 * n + length c.rest
  room-behind =
      let m = ap length c.whole ∙ length-append (written c.ends) c.rest in
      let l = c.count in
      omega (arith, length-ends c.ends c.fields)

  ends-behind : ends_of n b ≡ values c.ends
  ends-behind =
      ap (λ (m : ℕ). ends_of m b) (sym c.count)
      ∙ ap (ends_of (length c.ends)) c.whole
      ∙ read-ends c.ends c.rest c.fields

-- ---- ends that never fall and never pass the data rise, and the other way round
rise : (before room : ℕ) (ends : List Written) → NeverFall before (values ends) → Each (λ e. e.value ≤ room) ends
    → rising before room (values ends) ≡ true
unfolding rising
rise before room [] f p = refl
rise before room (w ∷ ends) f p = simp (le-leb before w.value f.0, le-leb w.value room p.0) (rise w.value room ends f.1 p.1)

risen : (before room : ℕ) (ends : List Written) → rising before room (values ends) ≡ true
    → NeverFall before (values ends) × Each (λ e. e.value ≤ room) ends
unfolding rising
risen before room [] h = (tt, tt)
risen before room (w ∷ ends) h =
    let x = both (leb before w.value && leb w.value room) (rising w.value room (values ends)) h in
    let y = both (leb before w.value) (leb w.value room) x.0 in
    let z = risen w.value room ends x.1 in
    ((leb-true before w.value y.0, z.0), (leb-true w.value room y.1, z.1))

-- ---- blobs
blobs-open : (n : ℕ) (b : List ℕ) → Blobs n b → lengths_number blob n b ≡ 0
blobs-open n b s =
    let c : Cut n b = record { ends = s.ends; rest = s.data'; whole = s.whole; count = s.count; fields = s.fields } in
    let l = room-behind c in
    let r : length b - 4 * n ≡ length s.data' = omega arith in
    sym (last-same n b (omega arith)
    (rw (ends-behind c, r) (rise 0 (length s.data') s.ends s.never_fall s.never_pass))
    (rw (ends-behind c, r) s.last))

opens-blobs : (text : Bool) (n : ℕ) (b : List ℕ) → plain_number (Blob text) n b ≡ 0 → Blobs n b
opens-blobs text n b z =
    let t = blobs-plain text n b z in
    let c = cut n b t.0 in
    let l = room-behind c in
    let r : length b - 4 * n ≡ length c.rest = omega arith in
    let up = risen 0 (length c.rest) c.ends (rw (ends-behind c, r) at t.1) in
    record {
      ends = c.ends;
      data' = c.rest;
      whole = c.whole;
      count = c.count;
      fields = c.fields;
      never_fall = up.0;
      never_pass = up.1;
      last = rw (ends-behind c, r) at t.2;
    }

string-lengths : (n : ℕ) (b : List ℕ) → Blobs n b → lengths_number string n b ≡ 0
unfolding lengths_number
string-lengths n b s = blobs-open n b s

-- ---- every kind
pub items-open : (k : Kind) (n : ℕ) (b : List ℕ) → Items k n b → plain_number k n b ≡ 0
items-open (Fixed p) n b s = all-text (Fixed p) n b (fixed-length p n b s) (rows-text (Fixed p) n b (λ h. clash (sym h)))
items-open (Char w) n b s = all-text (Char w) n b (char-length w n b s.0) (rows-text (Char w) n b (λ h i l. sequences-text (s.1 i l)))
items-open (Blob false) n b s = all-text blob n b (blobs-open n b s) (rows-text blob n b (λ h. clash (sym h)))
items-open (Blob true) n b s = all-text string n b (string-lengths n b s.0) (rows-text string n b (λ h i l. sequences-text (s.1 i l)))

pub opens-items : (k : Kind) (n : ℕ) (b : List ℕ) → plain_number k n b ≡ 0 → Items k n b
opens-items (Fixed p) n b z = fixed_plain p n b z
opens-items (Char w) n b z = (char-plain w n b z, λ i l. text-sequences _ (row-text (Char w) n b (text-kept (Char w) n b z) refl i l))
opens-items (Blob false) n b z = opens-blobs false n b z
opens-items (Blob true) n b z = (opens-blobs true n b z, λ i l. text-sequences _ (row-text string n b (text-kept string n b z) refl i l))
