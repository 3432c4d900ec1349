-- What a number of a fixed kind's width reads as, and an item's value. Assumes nothing.
use Prim.Native.Nat.{ℕ, suc, ◌+◌, ◌-◌, ◌*◌, ◌^◌, ◌≤◌, ◌<◌}
use native.Mathlib.Omega.{arith}
use mathlib.Core.Bool.{Bool, true, false, cond}
use mathlib.Core.List.{List}
use mathlib.Core.Path.{◌≡◌, refl, sym, ap, subst, ◌∙◌}
use borrow.Author.Tests.{le-leb, lt-leb, leb-true, leb-false}
use lib.Dec.{leb}
use lib.IntN.{ℤ, pos, negsuc}
use lib.ListN.{take, drop}
use mir.Syntax.{Width, w64}
use mir.Val.{to_z, bits, hbits, bytes}
use mir.Facts.{to_z_pos, to_z-neg}
use mir.ValLaws.{pow-bits}
use Rattle.encode.specs.Bytes.{Order, low_first, high-first, number_of}
use Rattle.encode.specs.Kinds.{laid_as, shape_of, layout_of, width_of}
use Rattle.encode.specs.declared.Primitive.{Primitive}
use Rattle.encode.specs.declared.Shape.{Shape}
use Rattle.encode.specs.declared.Shape.TheVariants.{Bool as BoolShape, Low2, Low4, Low8, High4, High8}
use Rattle.plain.specs.Plain.{fixed_at}
use Rattle.slow_numbers.specs.Numbers.{order_by}
use Rattle.slow_plain.specs.Items.{is_high, high_first, read_as, signed_by}

-- ---- two's complement
module _ (n half top : ℕ) (h : half < 2 ^ 63) where
  pub low_half : n ≤ half → to_z w64 n ≡ signed_by n half top
  unfolding signed_by
  low_half l = to_z_pos w64 (omega arith) ∙ ap (λ (t : Bool). cond t (pos n) (negsuc (top - n))) (sym (le-leb n half l))

  pub high_half : n ≤ top → top ≡ half + half + 1 → half < n → to_z w64 (18446744073709551615 - (top - n)) ≡ signed_by n half top
  unfolding signed_by
  high_half m d l =
      let e : 18446744073709551615 - (top - n) ≡ 2 ^ bits w64 - suc (top - n) = omega arith in
      let k : top - n < 2 ^ hbits w64 = omega arith in
      ap (to_z w64) e ∙ to_z-neg w64 (top - n) k ∙ ap (λ (t : Bool). cond t (pos n) (negsuc (top - n))) (sym (lt-leb n half l))

-- the half and the top of a width
pub signed-width : (w : Width) (n half top : ℕ) → suc half ≡ 2 ^ hbits w → suc top ≡ 2 ^ bits w → n ≤ top → signed_by n half top ≡ to_z w n
unfolding signed_by
signed-width w n half top e f l = go (leb n half) refl
  where
    go : (t : Bool) → leb n half ≡ t → cond t (pos n) (negsuc (top - n)) ≡ to_z w n
    go true h = let k = leb-true n half h in sym (to_z_pos w (omega arith))
    go false h =
        let k = leb-false n half h in
        let p : 2 ^ bits w ≡ 2 ^ hbits w * 2 = pow-bits w in
        let d : n ≡ 2 ^ bits w - suc (top - n) = omega arith in
        let m : top - n < 2 ^ hbits w = omega arith in
        sym (ap (to_z w) d ∙ to_z-neg w (top - n) m)

-- ---- the kind that a match found
module _ {p : Primitive} (q : Primitive) (e : p ≡ q) (n : ℕ) where
  pub within-found : n < 256 ^ width_of p → n < 256 ^ width_of q
  within-found h = subst (λ (j : Primitive). n < 256 ^ width_of j) e h

  pub read_found : {r v : ℤ} → r ≡ read_as q n → v ≡ r → v ≡ read_as p n
  read_found {r} {v} h b = subst (λ (j : Primitive). v ≡ read_as j n) (sym e) (b ∙ h)

-- ---- an item
few : (s : Shape) → bytes (laid_as s).size ≤ 8
few BoolShape = omega arith
few Low2 = omega arith
few Low4 = omega arith
few Low8 = omega arith
few High4 = omega arith
few High8 = omega arith

pub width-eight : (p : Primitive) → width_of p ≤ 8
width-eight p = few (shape_of p)

pub width_room : {w v : ℕ} (i m : ℕ) → w ≡ v → i * v + v ≤ m → i * w + w ≤ m
width_room i m e h = subst (λ (k : ℕ). i * k + k ≤ m) (sym e) h

order-named : (o : Order) → order_by (is_high o) ≡ o
unfolding order_by
order-named low_first = refl
order-named high-first = refl

pub value_read :
    (p : Primitive) (s : List ℕ) (i : ℕ) {w n : ℕ} {high : Bool} {r v : ℤ} → w ≡ width_of p → high ≡ high_first p
    → n ≡ number_of (order_by high) (take w (drop (i * w) s)) → r ≡ read_as p n → v ≡ r → v ≡ fixed_at p s i
unfolding fixed_at
value_read p s i {w} {n} {high} ew eh k d b =
    let bs : ℕ → List ℕ = λ (j : ℕ). take j (drop (i * j) s) in
    let e : n ≡ number_of (layout_of p).order (bs (width_of p)) =
    k
    ∙ ap (λ (j : ℕ). number_of (order_by high) (bs j)) ew
    ∙ ap (λ (t : Bool). number_of (order_by t) (bs (width_of p))) eh
    ∙ ap (λ (o : Order). number_of o (bs (width_of p))) (order-named (layout_of p).order) in
    b ∙ d ∙ ap (read_as p) e
