-- What the code of a kind computes is what the definitions say of it: one law each for encode, decode and takes, over the kind or over
-- its width and order, and then the same of the kind that a match found. Assumes nothing.
use mathlib.Core.Path.{◌≡◌, refl, sym, ap, ◌∙◌, subst}
use mathlib.Core.Bool.{Bool}
use mathlib.Core.List.{List}
use Prim.Native.Nat.{ℕ, suc, ◌-◌, ◌<◌, ◌^◌}
use native.Mathlib.Omega.{arith}
use borrow.Author.Tests.{le-ltb}
use lib.Dec.{ltb}
use lib.IntN.{ℤ, pos, negsuc}
use lib.ListN.{take}
use lib.Signed.{mag}
use mir.Syntax.{Width, w64}
use mir.Facts.{to_z-of_z}
use mir.Val.{SFits, of_z, to_z, bits, hbits}
use Rattle.encode.specs.Bytes.{Order, bytes_of, number_of, in_eight}
use Rattle.encode.specs.declared.Primitive.{Primitive}
use Rattle.encode.specs.Kinds.{signed, layout_of, width_of, encoded, decoded, takes, takes_as, zero_or_one}

-- a signed argument reaches a callee as its bits read back, which are the argument
pub encodes :
    (p : Primitive) {v : ℤ} {u : ℕ} {r : List ℕ} → SFits w64 v → u ≡ of_z w64 (to_z w64 (of_z w64 v))
    → r ≡ in_eight (bytes_of (layout_of p).order (width_of p) u) → r ≡ in_eight (encoded p v)
encodes p f h e = e ∙ ap (λ (n : ℕ). in_eight (bytes_of (layout_of p).order (width_of p) n)) (h ∙ ap (of_z w64) (to_z-of_z f))

-- and so does a signed result
pub decodes :
    (w : Width) (o : Order) (bs : List ℕ) {n : ℕ} {r : ℤ} → n ≡ number_of o bs → r ≡ to_z w n
    → to_z w64 (of_z w64 r) ≡ r → to_z w64 (of_z w64 r) ≡ to_z w (number_of o bs)
decodes w o bs h e b = b ∙ e ∙ ap (to_z w) h

pub takes-signed : (w : Width) {v : ℤ} {n : ℕ} → SFits w64 v → n ≡ mag (to_z w64 (of_z w64 v)) → ltb n (2 ^ hbits w) ≡ takes_as signed w v
takes-signed w f h = ap (λ (m : ℕ). ltb m (2 ^ hbits w)) (h ∙ ap mag (to_z-of_z f))

-- a number is 0 or 1 where its bits are
below_two : (v : ℤ) → SFits w64 v → ltb (of_z w64 v) 2 ≡ zero_or_one v
below_two (pos n) f = refl
below_two (negsuc n) f = let b : n < 2 ^ hbits w64 = f.sfits in le-ltb (2 ^ bits w64 - suc n) 2 (omega arith)

pub takes-truth : {v : ℤ} {n : ℕ} → SFits w64 v → n ≡ of_z w64 (to_z w64 (of_z w64 v)) → ltb n 2 ≡ zero_or_one v
takes-truth {v} f h = ap (λ (m : ℕ). ltb m 2) (h ∙ ap (of_z w64) (to_z-of_z f)) ∙ below_two v f

-- the kind that a match found
module _ {p : Primitive} (q : Primitive) (e : p ≡ q) where
  pub encode-found : {v : ℤ} {r : List ℕ} → SFits w64 v → r ≡ in_eight (encoded q (to_z w64 (of_z w64 v))) → r ≡ in_eight (encoded p v)
  encode-found {v} {r} f h = subst (λ (j : Primitive). r ≡ in_eight (encoded j v)) (sym e) (h ∙ ap (λ (z : ℤ). in_eight (encoded q z)) (to_z-of_z f))

  pub decode-found : (bs : List ℕ) {r : ℤ} → r ≡ decoded q (take (width_of q) bs) → to_z w64 (of_z w64 r) ≡ r → to_z w64 (of_z w64 r) ≡ decoded p (take (width_of p) bs)
  decode-found bs {r} h b = b ∙ subst (λ (j : Primitive). r ≡ decoded j (take (width_of j) bs)) (sym e) h

  pub takes-found : {v : ℤ} {r : Bool} → SFits w64 v → r ≡ takes q (to_z w64 (of_z w64 v)) → r ≡ takes p v
  takes-found {v} {r} f h = subst (λ (j : Primitive). r ≡ takes j v) (sym e) (h ∙ ap (takes q) (to_z-of_z f))
