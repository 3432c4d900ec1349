-- A value comes back from its item, for each value of each kind: the law over the layout, from one fact over the width and the order of the
-- bytes, `number-bytes`. An item is as long as the kind's width, and an interval's item is its months and then its days. Assumes nothing.
use mathlib.Core.Path.{◌≡◌, refl, sym, ap, ◌∙◌}
use mathlib.Core.Bool.{Bool, true, cond}
use mathlib.Core.List.{List, ◌∷◌, ◌++◌, reverse, reverse-reverse}
use Prim.Native.Nat.{ℕ, zero, suc, ◌+◌, ◌*◌, ◌-◌, ◌/◌, ◌%◌, ◌^◌, ◌<◌, ◌≤◌}
use native.Mathlib.Nat.{mod-one, mod-eq_of_lt, one-le-pow, pow-suc, sub-add_cancel, suc-mul}
use native.Mathlib.Omega.{arith}
use borrow.Author.Tests.{ltb-true, lt-ltb}
use lib.Arith.{mod-mul, digits_div, digits_mod}
use lib.Dec.{ltb, lit<, lit≤}
use lib.IntN.{ℤ, pos, negsuc, neg_ℤ, ◌+ℤ◌, ◌*ℤ◌}
use lib.ListN.{length, take, replicate, length-reverse}
use lib.Pow.{pow-add}
use lib.Seq.{take_at}
use lib.Signed.{mag}
use mir.Syntax.{Width, w8, w16, w32, w64, w128}
use mir.Val.{SFits, of_z, to_z, bits, hbits, bytes}
use mir.ValLaws.{half_full, pow-bits}
use mir.Facts.{to_z-of_z, Fits-of_z}
use Rattle.encode.specs.Bytes.{Order, low_first, high-first, little, big, bytes_of, number, number_of, in_eight}
use Rattle.encode.specs.Kinds.{Reading, truth, signed, shape_of, laid_as, layout_of, width_of, true_or_false, number_as, zero_or_one, takes_as, encoded, decoded, takes}
use Rattle.encode.specs.declared.Primitive.{Primitive}
use Rattle.encode.specs.declared.Primitive.TheVariants.{Interval, F64}
use Rattle.encode.specs.declared.Shape.{Shape}
use Rattle.encode.specs.declared.Shape.TheVariants.{Bool as BoolShape, Low2, Low4, Low8, High4, High8}

-- ---- over the width and the order

number-little : (w n : ℕ) → number (little w n) ≡ n % 256 ^ w
number-little zero n = sym (mod-one n)
number-little (suc w) n =
    let p : zero < 256 ^ w = one-le-pow w 256 (lit< tt) in
    let s : n % (256 ^ w * 256) ≡ (n / 256 % 256 ^ w) * 256 + n % 256 = mod-mul n p (lit< tt) in
    let h : number (little w (n / 256)) ≡ n / 256 % 256 ^ w = number-little w (n / 256) in
    let e : n % 256 + 256 * number (little w (n / 256)) ≡ n % (256 ^ w * 256) = omega arith in
    e ∙ ap (λ (m : ℕ). n % m) (sym (pow-suc 256 w))

-- the number of n's lowest w bytes
pub number-bytes : (o : Order) (w n : ℕ) → number_of o (bytes_of o w n) ≡ n % 256 ^ w
number-bytes low_first w n = number-little w n
number-bytes high-first w n = ap number (reverse-reverse (little w n)) ∙ number-little w n

length-little : (w n : ℕ) → length (little w n) ≡ w
length-little zero n = refl
length-little (suc w) n = ap suc (length-little w (n / 256))

pub length-bytes : (o : Order) (w n : ℕ) → length (bytes_of o w n) ≡ w
length-bytes low_first w n = length-little w n
length-bytes high-first w n = length-reverse (little w n) ∙ length-little w n

-- the lowest w bytes of n are those of n's remainder
little-mod : (w n : ℕ) → little w (n % 256 ^ w) ≡ little w n
little-mod zero n = refl
little-mod (suc w) n =
    let p : zero < 256 ^ w = one-le-pow w 256 (lit< tt) in
    let s : n % 256 ^ suc w ≡ (n / 256 % 256 ^ w) * 256 + n % 256 = ap (λ (m : ℕ). n % m) (pow-suc 256 w) ∙ mod-mul n p (lit< tt) in
    let b : n % 256 < 256 = omega arith in
    let q : (n % 256 ^ suc w) / 256 ≡ n / 256 % 256 ^ w = ap (λ (m : ℕ). m / 256) s ∙ digits_div (n / 256 % 256 ^ w) b in
    let r : (n % 256 ^ suc w) % 256 ≡ n % 256 = ap (λ (m : ℕ). m % 256) s ∙ digits_mod (n / 256 % 256 ^ w) b in
    ap (λ (m : ℕ). m ∷ little w ((n % 256 ^ suc w) / 256)) r ∙ ap (λ (l : List ℕ). n % 256 ∷ l) (ap (little w) q ∙ little-mod w (n / 256))

-- ---- over the width: its two's complement is the lowest bits of that of 64

full : (w : Width) → 256 ^ bytes w ≡ 2 ^ bits w
full w8 = refl
full w16 = refl
full w32 = refl
full w64 = refl
full w128 = refl

below : (k m n : ℕ) → zero < k → n < m → (k * m - suc n) % m ≡ m - suc n
below zero m n p h = absurd (omega arith)
below (suc k) m n p h =
    let e : suc k * m ≡ k * m + m = suc-mul k m in
    let s : k * m + m - suc n ≡ k * m + (m - suc n) = omega arith in
    let b : m - suc n < m = omega arith in
    ap (λ (x : ℕ). (x - suc n) % m) e ∙ ap (λ (x : ℕ). x % m) s ∙ digits_mod k b

pub lowest : (w : Width) → bits w ≤ 64 → (v : ℤ) → SFits w v → of_z w64 v % 256 ^ bytes w ≡ of_z w v
lowest w h (pos n) f = ap (λ (m : ℕ). n % m) (full w) ∙ mod-eq_of_lt (half_full w f.sfits)
lowest w h (negsuc n) f =
    let s : 2 ^ 64 ≡ 2 ^ (64 - bits w) * 2 ^ bits w = ap (λ (i : ℕ). 2 ^ i) (sym (sub-add_cancel h)) ∙ pow-add 2 (64 - bits w) (bits w) in
    ap (λ (m : ℕ). (2 ^ 64 - suc n) % m) (full w)
    ∙ ap (λ (x : ℕ). (x - suc n) % 2 ^ bits w) s
    ∙ below (2 ^ (64 - bits w)) (2 ^ bits w) n (one-le-pow (64 - bits w) 2 (lit< tt)) (half_full w f.sfits)

-- ---- over the layout

small : (w : Width) (n : ℕ) → n < 2 → n % 256 ^ bytes w ≡ n
small w n h =
    let p : 2 ^ bits w ≡ 2 ^ hbits w * 2 = pow-bits w in
    let q : 1 ≤ 2 ^ hbits w = one-le-pow (hbits w) 2 (lit< tt) in
    let b : n < 2 ^ bits w = omega arith in
    ap (λ (m : ℕ). n % m) (full w) ∙ mod-eq_of_lt b

truth-trip : (w : Width) (o : Order) (v : ℤ) → zero_or_one v ≡ true → true_or_false (ltb 0 (number_of o (bytes_of o (bytes w) (of_z w64 v)))) ≡ v
truth-trip w o (pos zero) t = ap (λ (n : ℕ). true_or_false (ltb 0 n)) (number-bytes o (bytes w) 0 ∙ small w 0 (lit< tt))
truth-trip w o (pos (suc zero)) t = ap (λ (n : ℕ). true_or_false (ltb 0 n)) (number-bytes o (bytes w) 1 ∙ small w 1 (lit< tt))
truth-trip w o (pos (suc (suc n))) t = let b : suc (suc n) < 2 = ltb-true (suc (suc n)) 2 t in absurd (omega arith)
truth-trip w o (negsuc n) t = let e : ◌≡◌ {A = ℕ} 0 1 = cc in absurd (omega arith)

layout-trip : (w : Width) (o : Order) (r : Reading) → bits w ≤ 64 → (v : ℤ) → takes_as r w v ≡ true → number_as r w (number_of o (bytes_of o (bytes w) (of_z w64 v))) ≡ v
layout-trip w o truth h v t = truth-trip w o v t
layout-trip w o signed h v t =
    let f : SFits w v = record { sfits = ltb-true (mag v) (2 ^ hbits w) t } in
    ap (to_z w) (number-bytes o (bytes w) (of_z w64 v) ∙ lowest w h v f) ∙ to_z-of_z f

-- ---- every kind

within_64 : (s : Shape) → bits (laid_as s).size ≤ 64
within_64 BoolShape = lit≤ tt
within_64 Low2 = lit≤ tt
within_64 Low4 = lit≤ tt
within_64 Low8 = lit≤ tt
within_64 High4 = lit≤ tt
within_64 High8 = lit≤ tt

pub round_trip : (p : Primitive) (v : ℤ) → takes p v ≡ true → decoded p (encoded p v) ≡ v
round_trip p v t = layout-trip (layout_of p).size (layout_of p).order (layout_of p).reading (within_64 (shape_of p)) v t

pub item-length : (p : Primitive) (v : ℤ) → length (encoded p v) ≡ width_of p
item-length p v = length-bytes (layout_of p).order (width_of p) (of_z w64 v)

-- of the eight bytes that are passed, those of the kind's width are the item
pub item-whole : (p : Primitive) (v : ℤ) → take (width_of p) (in_eight (encoded p v)) ≡ encoded p v
item-whole p v = take_at (encoded p v) (replicate (8 - length (encoded p v)) 0) (width_of p) (item-length p v)

pub round-trip-whole : (p : Primitive) (v : ℤ) → takes p v ≡ true → decoded p (take (width_of p) (in_eight (encoded p v))) ≡ v
round-trip-whole p v t = ap (decoded p) (item-whole p v) ∙ round_trip p v t

-- ---- an f64

-- each number of 64 bits is the bits of one
pub f64-bits : (v : ℤ) → SFits w64 v → takes F64 v ≡ true
f64-bits v f = lt-ltb (mag v) (2 ^ hbits w64) f.sfits

-- ---- an interval

-- eight bytes are four and four
div32 : (n : ℕ) → n / 256 / 256 / 256 / 256 ≡ n / 4294967296
div32 n = omega arith

pub interval-parts : (n : ℕ) → big 8 n ≡ big 4 (n / 4294967296) ++ big 4 (n % 4294967296)
interval-parts n =
    ap (λ (m : ℕ). big 4 m ++ big 4 n) (div32 n)
    ∙ ap (λ (l : List ℕ). big 4 (n / 4294967296) ++ reverse l) (sym (little-mod 4 n))

-- months times 2^32 plus k: with fewer than 0 months it is still below 0
under : (a k : ℕ) → k < 4294967296 → negsuc a *ℤ pos 4294967296 +ℤ pos k ≡ negsuc (a * 4294967296 + (4294967295 - k))
under a k h =
    let e : suc a * 4294967296 ≡ suc (a * 4294967296 + 4294967295) = omega arith in
    let l : k < suc (a * 4294967296 + 4294967295) = omega arith in
    let s : suc (a * 4294967296 + 4294967295) - suc k ≡ a * 4294967296 + (4294967295 - k) = omega arith in
    ap (λ (n : ℕ). neg_ℤ (pos n) +ℤ pos k) e
    ∙ ap (λ (t : Bool). cond t (negsuc (suc (a * 4294967296 + 4294967295) - suc k)) (pos (k - suc (a * 4294967296 + 4294967295))))
    (lt-ltb k (suc (a * 4294967296 + 4294967295)) l)
    ∙ ap negsuc s

-- its bits are the months' bits above k
joined : (m : ℤ) (k : ℕ) → SFits w32 m → k < 4294967296 → of_z w64 (m *ℤ pos 4294967296 +ℤ pos k) ≡ of_z w32 m * 4294967296 + k
joined (pos a) k f h = refl
joined (negsuc a) k f h = let b : a < 2147483648 = f.sfits in ap (of_z w64) (under a k h) ∙ omega arith

joined-fits : (m : ℤ) (k : ℕ) → SFits w32 m → k < 4294967296 → mag (m *ℤ pos 4294967296 +ℤ pos k) < 9223372036854775808
joined-fits (pos a) k f h = let b : a < 2147483648 = f.sfits in omega arith
joined-fits (negsuc a) k f h =
    let b : a < 2147483648 = f.sfits in
    let e : mag (negsuc a *ℤ pos 4294967296 +ℤ pos k) ≡ a * 4294967296 + (4294967295 - k) = ap mag (under a k h) in
    rw e (omega arith)

-- months and days that are each an i32's make a value of the kind
pub interval-taken : (m d : ℤ) → SFits w32 m → SFits w32 d → takes Interval (m *ℤ pos 4294967296 +ℤ pos (of_z w32 d)) ≡ true
interval-taken m d f g = lt-ltb (mag (m *ℤ pos 4294967296 +ℤ pos (of_z w32 d))) 9223372036854775808 (joined-fits m (of_z w32 d) f (Fits-of_z g).fits)

-- and its item is the months, four bytes, and then the days, four bytes, each in two's complement, highest byte first
pub interval-halves : (m d : ℤ) → SFits w32 m → SFits w32 d → encoded Interval (m *ℤ pos 4294967296 +ℤ pos (of_z w32 d)) ≡ big 4 (of_z w32 m) ++ big 4 (of_z w32 d)
interval-halves m d f g =
    let b : of_z w32 d < 4294967296 = (Fits-of_z g).fits in
    ap (big 8) (joined m (of_z w32 d) f b)
    ∙ interval-parts (of_z w32 m * 4294967296 + of_z w32 d)
    ∙ ap (λ (n : ℕ). big 4 n ++ big 4 ((of_z w32 m * 4294967296 + of_z w32 d) % 4294967296)) (digits_div (of_z w32 m) b)
    ∙ ap (λ (n : ℕ). big 4 (of_z w32 m) ++ big 4 n) (digits_mod (of_z w32 m) b)
