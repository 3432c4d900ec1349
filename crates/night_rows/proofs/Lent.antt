-- Lent memory: what comparing it tells, and what it is filled with. Assumes nothing.
use Prim.Native.Nat.{ℕ}
use mathlib.Core.Bool.{Bool, true, false}
use mathlib.Core.List.{List, [], ◌∷◌}
use mathlib.Core.Path.{◌≡◌, sym, ap, ◌∙◌}
use lib.IntN.{ℤ, pos}
use lib.ListN.{replicate}
use Rattle.encode.proofs.Bools.{clash}
use Rattle.fill.specs.Areas.{Areas, areas}
use Rattle.slow_answer.specs.declared.RowGiven.{RowGiven}
use Rattle.std.specs.Bool.{Decides}
use Rattle.night_rows.specs.Night.{Tells, FILL, lent}

differ : {P : Type 0} → (P → ⊥) → Tells false P
differ h = (λ p. absurd (h p), λ q. clash (sym q))

-- ---- the four areas
areas-alike : {v w : List ℤ} {f g e h m n : List ℕ} → v ≡ w → f ≡ g → e ≡ h → m ≡ n → areas v f e m ≡ areas w g h n
areas-alike p q r s = rw (p, q, r, s)

-- what `==` of two slices tells
pub told : {t : Bool} {P : Type 0} → Decides t P → Tells t P
told d = (d.1, d.0)

-- a test that is made where the ones before it hold
pub both : {P Q : Type 0} {a b t : Bool} → Tells a P → Tells b Q → a ≡ true → t ≡ b → Tells t (P × Q)
both one more p q = (λ s. q ∙ more.0 s.1, λ s. (one.1 p, more.1 (sym q ∙ s)))

pub neither : {P Q : Type 0} {a t : Bool} → Tells a P → a ≡ false → t ≡ a → Tells t (P × Q)
neither one p q = rw (q, p) (differ (λ s. clash (sym (one.0 s.0) ∙ p)))

pub parts-tell :
    {v w : List ℤ} {f g e h m n : List ℕ} {t : Bool} → Tells t ((((v ≡ w) × (f ≡ g)) × (e ≡ h)) × (m ≡ n)) → Tells t (areas v f e m ≡ areas w g h n)
parts-tell tell = (
  λ s. tell.0 (((ap (λ (a : Areas). a.values) s, ap (λ (a : Areas). a.flags) s), ap (λ (a : Areas). a.ends) s), ap (λ (a : Areas). a.bytes) s),
  λ s. let p = tell.1 s in areas-alike p.0.0.0 p.0.0.1 p.0.1 p.1,
)

-- ---- the whole answer
module _ (number bytes : ℕ) (shown : RowGiven) (x y : Areas) where
  abbrev pub Alike : Type 0
  Alike = (number ≡ shown.number) × (bytes ≡ shown.bytes) × (x ≡ y)

-- the memory that is lent for a row
pub lent_is :
    (n : ℕ) {v : List ℤ} {f e m : List ℕ} → v ≡ pos FILL ∷ pos FILL ∷ [] → f ≡ FILL ∷ FILL ∷ [] → e ≡ FILL ∷ FILL ∷ [] → m ≡ replicate n FILL
    → areas v f e m ≡ lent n
lent_is n p q r s = areas-alike p q r s

pub lent-twice : {n m : ℕ} {x y : Areas} → n ≡ m → x ≡ lent n → y ≡ lent m → x ≡ y
lent-twice l p q = p ∙ ap lent l ∙ sym q
