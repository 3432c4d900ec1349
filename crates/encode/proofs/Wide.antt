-- The bytes that std gives and reads of a number are ours, and those of a part of it: laws over the width, up to eight. Assumes nothing.
use Prim.Native.Nat.{ℕ, zero, suc, ◌+◌, ◌-◌, ◌*◌, ◌/◌, ◌%◌, ◌^◌, ◌<◌, ◌≤◌}
use native.Mathlib.Nat.{pow-suc}
use native.Mathlib.Omega.{arith}
use mathlib.Core.Path.{◌≡◌, refl, sym, ap, ◌∙◌, subst}
use mathlib.Core.List.{List, [], ◌∷◌, ◌++◌, reverse}
use lib.ListN.{length, take, drop, replicate, length-reverse}
use Rattle.std.specs.List.{All}
use Rattle.std.specs.Int.{w64, to_le_bytes, to_be_bytes, from_le_bytes, from_be_bytes}
use Rattle.std.proofs.Math.Nat.{div-div-eq-div-mul}
use Rattle.std.proofs.Common.{rules}
use Rattle.std.proofs.Math.Seq.{take-length, drop-append_seam}
use Rattle.std.proofs.lemmas.Slice.{take-put_mid}
use borrow.Rule.Slice.PartMut.{put_mid, same_len_mid, mid_of}
use Rattle.std.proofs.lemmas.List.{reverse-append, take-append-drop, length-drop, take_all, take-replicate, drop-replicate, length-append, length-replicate, get_or-reverse}
use Rattle.std.proofs.lemmas.List.Elements.{All-from_get_or}
use Rattle.encode.specs.Bytes.{low_first, high-first, little, big, number, in_eight}
use Rattle.encode.proofs.RoundTrip.{length-bytes}
use Rattle.encode.proofs.Cells.{number_read}

-- ---- the bytes of a number
pub little-all : (n : ℕ) → to_le_bytes w64 n ≡ little 8 n
little-all n = simp div-div-eq-div-mul

pub big-all : (n : ℕ) → to_be_bytes w64 n ≡ big 8 n
big-all n = simp div-div-eq-div-mul

-- the lowest w of w + k bytes come first, lowest first, and last, highest first
little-front : (w k n : ℕ) → take w (little (w + k) n) ≡ little w n
little-front zero k n = refl
little-front (suc w) k n =
    let e : suc (w + k) ≡ suc w + k = omega arith in
    subst (λ (m : ℕ). take (suc w) (little m n) ≡ little (suc w) n) e (ap (λ (l : List ℕ). n % 256 ∷ l) (little-front w k (n / 256)))

pub little-part : (w n : ℕ) → w ≤ 8 → take w (little 8 n) ≡ little w n
little-part w n h = let e : w + (8 - w) ≡ 8 = omega arith in subst (λ (m : ℕ). take w (little m n) ≡ little w n) e (little-front w (8 - w) n)

-- (std's slice `[8 - w..]` is the rest's whole length of what stands from there on)
pub big-part : (w n : ℕ) → w ≤ 8 → take (8 - (8 - w)) (drop (8 - w) (big 8 n)) ≡ big w n
big-part w n h =
    let long : length (little 8 n) ≡ 8 = length-bytes low_first 8 n in
    let cut : reverse (little 8 n) ≡ reverse (drop w (little 8 n)) ++ reverse (take w (little 8 n)) =
    ap reverse (sym (take-append-drop w (little 8 n))) ∙ reverse-append (take w (little 8 n)) (drop w (little 8 n)) in
    let seam : 8 - w ≡ length (reverse (drop w (little 8 n))) = sym (length-reverse (drop w (little 8 n)) ∙ length-drop w (little 8 n) ∙ ap (λ (m : ℕ). m - w) long) in
    let last : drop (8 - w) (big 8 n) ≡ big w n =
    ap (λ (m : ℕ). drop m (big 8 n)) seam
    ∙ ap (drop (length (reverse (drop w (little 8 n))))) cut
    ∙ drop-append_seam (reverse (drop w (little 8 n))) (reverse (take w (little 8 n)))
    ∙ ap reverse (little-part w n h) in
    let short : length (big w n) ≡ w = length-bytes high-first w n in
    ap (take (8 - (8 - w))) last ∙ take_all (8 - (8 - w)) (big w n) (omega arith)

-- an item of eight bytes, made of a part and zeros
pub eight : (w : ℕ) (bs : List ℕ) → length bs ≡ w → bs ++ drop w (replicate 8 0) ≡ in_eight bs
eight w bs e = ap (λ (l : List ℕ). bs ++ l) (drop-replicate w 8 0 ∙ ap (λ (m : ℕ). replicate (8 - m) 0) (sym e))

-- ---- the number of bytes
abbrev zeros : ℕ → List ℕ
zeros k = replicate k 0

replicate-snoc : (k : ℕ) → zeros k ++ 0 ∷ [] ≡ 0 ∷ zeros k
replicate-snoc zero = refl
replicate-snoc (suc k) = ap (λ (l : List ℕ). 0 ∷ l) (replicate-snoc k)

reverse-replicate : (k : ℕ) → reverse (zeros k) ≡ zeros k
reverse-replicate zero = refl
reverse-replicate (suc k) = reverse-append (0 ∷ []) (zeros k) ∙ ap (λ (l : List ℕ). l ++ 0 ∷ []) (reverse-replicate k) ∙ replicate-snoc k

number-zeros : (bs : List ℕ) (k : ℕ) → number (bs ++ replicate k 0) ≡ number bs
number-zeros [] zero = refl
number-zeros [] (suc k) = let e : number (replicate k 0) ≡ 0 = number-zeros [] k in omega arith
number-zeros (b ∷ bs) k = ap (λ (m : ℕ). b + 256 * m) (number-zeros bs k)

-- w bytes make a number below 256 ^ w
abbrev pub IsByte : ℕ → Type 0
IsByte b = b < 256

pub number-below : (bs : List ℕ) → All IsByte bs → number bs < 256 ^ length bs
number-below [] h = omega arith
number-below (b ∷ bs) h =
    let r : number bs < 256 ^ length bs = number-below bs (λ (k d : ℕ) (p : k < length bs). h (suc k) d (omega arith)) in
    let e : 256 ^ suc (length bs) ≡ 256 ^ length bs * 256 = pow-suc 256 (length bs) in
    let first : b < 256 = h 0 0 (omega arith) in
    omega arith

pub bytes-reversed : (bs : List ℕ) → All IsByte bs → All IsByte (reverse bs)
bytes-reversed bs h =
    All-from_get_or IsByte (reverse bs) 0
    (λ (i : ℕ) (p : i < length (reverse bs)).
    let e : length (reverse bs) ≡ length bs = length-reverse bs in
    rw (get_or-reverse bs i 0 (omega arith)) (h (length bs - 1 - i) 0 (omega arith)))

-- of a part of an item, with zeros behind it
pub low_read : (w : ℕ) (bs : List ℕ) (n : ℕ) → w ≤ 8 → length bs ≡ w → n ≡ from_le_bytes w64 (bs ++ drop w (replicate 8 0)) → n ≡ number bs
low_read w bs n h e is =
    let rest : drop w (replicate 8 0) ≡ replicate (8 - w) 0 = drop-replicate w 8 0 in
    let long : length (bs ++ drop w (replicate 8 0)) ≡ 8 = rw rest (search (rules, length-append, length-replicate)) in
    let all : take 8 (bs ++ drop w (replicate 8 0)) ≡ bs ++ drop w (replicate 8 0) = ap (λ (m : ℕ). take m (bs ++ drop w (replicate 8 0))) (sym long) ∙ take-length _ in
    number_read low_first 8 (bs ++ drop w (replicate 8 0)) n (omega arith) (is ∙ omega arith)
    ∙ ap number (all ∙ ap (λ (l : List ℕ). bs ++ l) rest)
    ∙ number-zeros bs (8 - w)

-- ... and the other way about, with zeros in front
pub high_read : (w : ℕ) (bs : List ℕ) (n : ℕ) → w ≤ 8 → length bs ≡ w → n ≡ from_be_bytes w64 (zeros (8 - w) ++ bs) → n ≡ number (reverse bs)
high_read w bs n h e is =
    let long : length (zeros (8 - w) ++ bs) ≡ 8 = search (rules, length-append, length-replicate) in
    let all : take 8 (zeros (8 - w) ++ bs) ≡ zeros (8 - w) ++ bs = ap (λ (m : ℕ). take m (zeros (8 - w) ++ bs)) (sym long) ∙ take-length _ in
    number_read high-first 8 (zeros (8 - w) ++ bs) n (omega arith) (is ∙ omega arith)
    ∙ ap (λ (l : List ℕ). number (reverse l)) all
    ∙ ap number (reverse-append (zeros (8 - w)) bs ∙ ap (λ (l : List ℕ). reverse bs ++ l) (reverse-replicate (8 - w)))
    ∙ number-zeros (reverse bs) (8 - w)

-- a part written behind zeros
pub behind :
    (w : ℕ) (bs new : List ℕ) → w ≤ 8 → length bs ≡ w → new ≡ bs → length new ≡ length (mid_of (8 - w) (8 - (8 - w)) (zeros 8))
    → put_mid (8 - w) (8 - (8 - w)) (zeros 8) new ≡ zeros (8 - w) ++ bs
behind w bs new h e is fits =
    let long : length new ≡ w = ap length is ∙ e in
    let all : length (put_mid (8 - w) (8 - (8 - w)) (zeros 8) new) ≡ 8 = same_len_mid (8 - w) (8 - (8 - w)) (zeros 8) new fits in
    sym (take_all 8 (put_mid (8 - w) (8 - (8 - w)) (zeros 8) new) (omega arith))
    ∙ take-put_mid (8 - w) (8 - (8 - w)) (zeros 8) new 8 (omega arith) (omega arith)
    ∙ ap (λ (l : List ℕ). l ++ new) (take-replicate (8 - w) 8 0 (omega arith))
    ∙ ap (λ (l : List ℕ). zeros (8 - w) ++ l) is
