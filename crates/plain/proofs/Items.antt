-- What the kinds' decode functions make of the items, one at a time and in a loop that stores them: one law over the shape. Assumes nothing.
use mathlib.Core.Path.{◌≡◌, refl, ap, ◌∙◌, subst}
use mathlib.Core.List.{List, map}
use Prim.Native.Nat.{ℕ, suc, ◌+◌, ◌-◌, ◌*◌, ◌≤◌, ◌<◌}
use native.Mathlib.Nat.{add-mul, add-zero, suc-mul, mul-le-mul_right}
use native.Mathlib.Numerals.{add-one}
use native.Mathlib.Omega.{arith}
use lib.IntN.{ℤ}
use lib.ListN.{length, take, drop, replicate, set, length-set, length-drop}
use lib.Seq.{sets, take_at, length-take-le}
use Rattle.encode.specs.Bytes.{in_eight}
use Rattle.encode.specs.Kinds.{shape_of, laid_as, wide_as, value_as}
use Rattle.encode.specs.declared.Primitive.{Primitive}
use Rattle.encode.specs.declared.Shape.{Shape}
use Rattle.plain.specs.Plain.{places, shaped_at, fixed_at}

-- the bytes of an item in eight bytes
pub take-item : (w at : ℕ) (s : List ℕ) → at + w ≤ length s → take w (in_eight (take w (drop at s))) ≡ take w (drop at s)
take-item w at s h =
    let b : List ℕ = take w (drop at s) in
    let d : length (drop at s) ≡ length s - at = length-drop at s in
    take_at b (replicate (8 - length b) 0) w (length-take-le w (drop at s) (omega arith))

-- the value of item i, from what the item's function and the kind's decode ensure; v is the answer as it comes back from its bits
pub value :
    (k : Shape) (s : List ℕ) (i w : ℕ) → w ≡ wide_as k → i * w + w ≤ length s
    → {item : List ℕ} {v r : ℤ} → item ≡ in_eight (take w (drop (i * w) s)) → r ≡ value_as (laid_as k) (take (wide_as k) item) → v ≡ r → v ≡ shaped_at k s i
unfolding shaped_at
value k s i w e h {item} {v} {r} is d b =
    let room : i * wide_as k + wide_as k ≤ length s = subst (λ (n : ℕ). i * n + n ≤ length s) e h in
    let own : item ≡ in_eight (take (wide_as k) (drop (i * wide_as k) s)) = subst (λ (n : ℕ). item ≡ in_eight (take n (drop (i * n) s))) e is in
    b
    ∙ d
    ∙ ap (λ (l : List ℕ). value_as (laid_as k) (take (wide_as k) l)) own
    ∙ ap (value_as (laid_as k)) (take-item (wide_as k) (i * wide_as k) s room)

-- the values of a kind of the shape
pub of_shape : (p : Primitive) {k : Shape} → k ≡ shape_of p → (s : List ℕ) (i : ℕ) → shaped_at k s i ≡ fixed_at p s i
unfolding shaped_at fixed_at
of_shape p e s i = ap (λ (k : Shape). value_as (laid_as k) (take (wide_as k) (drop (i * wide_as k) s))) e

pub all_of_shape :
    (p : Primitive) {k : Shape} → k ≡ shape_of p → (s : List ℕ) (n from : ℕ) → map (shaped_at k s) (places n from) ≡ map (fixed_at p s) (places n from)
unfolding shaped_at fixed_at
all_of_shape p e s n from =
    ap (λ (k : Shape). map (λ (i : ℕ). value_as (laid_as k) (take (wide_as k) (drop (i * wide_as k) s))) (places n from)) e

-- an item of w bytes below n is within the bytes of n; and so from an item on
pub item_room : (i n w m : ℕ) → i < n → n * w ≤ m → i * w + w ≤ m
item_room i n w m h b =
    let l : suc i * w ≤ n * w = mul-le-mul_right w h in
    let e : suc i * w ≡ i * w + w = suc-mul i w in
    omega arith

pub item-within : (from i n w m : ℕ) → i < n → from * w + n * w ≤ m → (from + i) * w + w ≤ m
item-within from i n w m h b =
    let d : (from + i) * w ≡ from * w + i * w = add-mul from i w in
    let l : i * w + w ≤ n * w = item_room i n w (n * w) h (omega arith) in
    omega arith

-- where the loop stands: what is still to be stored
pub record Storing (f : ℕ → ℤ) (from n : ℕ) (out₀ out : List ℤ) (i : ℕ) : Type 0 where
  pub rest : sets out i (map f (places (n - i) (from + i))) ≡ sets out₀ 0 (map f (places n from))
  pub room : length out ≡ length out₀
  pub sound : i ≤ n

pub storing-start : (f : ℕ → ℤ) (from n : ℕ) (out : List ℤ) → Storing f from n out out 0
storing-start f from n out = let z : n - 0 ≡ n = omega arith in record { rest = rw (add-zero, z); room = refl; sound = omega arith }

module _ {f : ℕ → ℤ} {from n : ℕ} {out₀ out : List ℤ} {i : ℕ} (g : Storing f from n out₀ out i) where
  pub storing-step : i < n → {v : ℤ} → v ≡ f (from + i) → Storing f from n out₀ (set out i v) (i + 1)
  unfolding places
  storing-step h {v} x =
      let m : n - i ≡ suc (n - (i + 1)) = omega arith in
      let e : suc (from + i) ≡ from + (i + 1) = omega arith in
      record {
        rest = rw (x, ← e, add-one) (rw (m, add-one) at g.rest);
        room = length-set out i v ∙ g.room;
        sound = omega arith;
      }

  pub storing-end : n ≤ i → out ≡ sets out₀ 0 (map f (places n from))
  unfolding places
  storing-end h = let m : n - i ≡ 0 = omega arith in rw m at g.rest
