-- `lookup::finding::find_fixed` meets its contract: a value that the kind takes is found by the number of its item, by the shape that items have,
-- and one that it doesn't take is none. Assumes nothing.
use Prim.Native.Nat.{ℕ, ◌*◌, ◌≤◌, ◌<◌}
use mathlib.Core.Bool.{true}
use mathlib.Core.Path.{◌≡◌, refl, ap, subst, sym, ◌∙◌}
use native.Mathlib.Omega.{arith}
use lib.IntN.{ℤ}
use lib.Dec.{lit<}
use lib.ListN.{length, get_or}
use mir.Facts.{to_z-of_z}
use Rattle.encode.specs.Bytes.{in_eight}
use Rattle.encode.specs.Kinds.{width_of, encoded, takes}
use Rattle.lookup.proofs.Words.{first-untaken, word-found, bool-found}
use Rattle.encode.proofs.Shapes.{wide_as, four-shaped, eight-shaped}
use Rattle.lookup.proofs.finding.find_fixed.Goals as goal

pub returns-then-not-takes : goal.returns-then-not-takes
returns-then-not-takes c =
    let a = c.args in
    first-untaken a.p a.items.now a.n a.value (λ j. omega (arith, c.type_inv.items j)) c.requires
    (sym (c.takes.ensures ∙ ap (takes a.p) (to_z-of_z c.ranges.value)) ∙ c.if-not-takes.true)

-- ---- each arm: a bool's byte, and two, four or eight bytes in either order
pub find_bool-requires : goal.find_bool-requires
find_bool-requires c =
    let wide : (w : ℕ) → wide_as c.shape-shape.result ≡ w → width_of c.args.p ≡ w = λ w e. ap wide_as (sym c.shape-shape.ensures) ∙ e in
    let room : (w : ℕ) → wide_as c.shape-shape.result ≡ w → c.args.n * w ≤ length c.args.items.now = λ w e. subst (λ (m : ℕ). c.args.n * m ≤ length c.args.items.now) (wide w e) c.requires in
    let h = room 1 (ap wide_as c.in-Bool.is) in omega arith

pub find_number-requires : goal.find_number-requires
find_number-requires c =
    let wide : (w : ℕ) → wide_as c.shape-shape.result ≡ w → width_of c.args.p ≡ w = λ w e. ap wide_as (sym c.shape-shape.ensures) ∙ e in
    let room : (w : ℕ) → wide_as c.shape-shape.result ≡ w → c.args.n * w ≤ length c.args.items.now = λ w e. subst (λ (m : ℕ). c.args.n * m ≤ length c.args.items.now) (wide w e) c.requires in
    (refl, λ a b. absurd (a refl), room 2 (ap wide_as c.in-Low2.is))

pub find_number-requires-in-Low4 : goal.find_number-requires-in-Low4
find_number-requires-in-Low4 c =
    let wide : (w : ℕ) → wide_as c.shape-shape.result ≡ w → width_of c.args.p ≡ w = λ w e. ap wide_as (sym c.shape-shape.ensures) ∙ e in
    let room : (w : ℕ) → wide_as c.shape-shape.result ≡ w → c.args.n * w ≤ length c.args.items.now = λ w e. subst (λ (m : ℕ). c.args.n * m ≤ length c.args.items.now) (wide w e) c.requires in
    (refl, λ a b. absurd (b refl), room 4 (four-shaped c.shape-shape.result c.in-Low4.in-Low4-own.keys3))

pub find_number-requires-in-Low8 : goal.find_number-requires-in-Low8
find_number-requires-in-Low8 c =
    let wide : (w : ℕ) → wide_as c.shape-shape.result ≡ w → width_of c.args.p ≡ w = λ w e. ap wide_as (sym c.shape-shape.ensures) ∙ e in
    let room : (w : ℕ) → wide_as c.shape-shape.result ≡ w → c.args.n * w ≤ length c.args.items.now = λ w e. subst (λ (m : ℕ). c.args.n * m ≤ length c.args.items.now) (wide w e) c.requires in
    (refl, λ a b. refl, room 8 (eight-shaped c.shape-shape.result c.in-Low8.in-Low8-own.keys4))

pub returns-in-Bool : goal.returns-in-Bool
returns-in-Bool c =
    let taken : takes c.args.p c.args.value ≡ true = sym (c.takes.ensures ∙ ap (takes c.args.p) (to_z-of_z c.ranges.value)) ∙ c.if-not-takes.false in
    let a = c.args in
    bool-found a.p (sym c.shape-shape.ensures ∙ c.in-Bool.is) a.items.now a.n a.value (taken) ((c.encode-item.ensures ∙ ap (λ (v : ℤ). in_eight (encoded c.args.p v)) (to_z-of_z c.ranges.value)))
    c.find_bool.ensures

pub returns-in-Low2 : goal.returns-in-Low2
returns-in-Low2 c =
    let taken : takes c.args.p c.args.value ≡ true = sym (c.takes.ensures ∙ ap (takes c.args.p) (to_z-of_z c.ranges.value)) ∙ c.if-not-takes.false in
    let wide : (w : ℕ) → wide_as c.shape-shape.result ≡ w → width_of c.args.p ≡ w = λ w e. ap wide_as (sym c.shape-shape.ensures) ∙ e in
    (let a = c.args in let fit : (j : ℕ) → get_or a.items.now j 0 < 256 = λ j. omega (arith, c.type_inv.items j) in
    word-found a.p a.items.now a.n a.value fit c.requires (taken) 2 (wide 2 (ap wide_as c.in-Low2.is)) (lit< tt)
    ((c.encode.ensures ∙ ap (λ (v : ℤ). in_eight (encoded c.args.p v)) (to_z-of_z c.ranges.value))) c.low.ensures.0 c.find_number.ensures)

pub returns-in-Low4 : goal.returns-in-Low4
returns-in-Low4 c =
    let taken : takes c.args.p c.args.value ≡ true = sym (c.takes.ensures ∙ ap (takes c.args.p) (to_z-of_z c.ranges.value)) ∙ c.if-not-takes.false in
    let wide : (w : ℕ) → wide_as c.shape-shape.result ≡ w → width_of c.args.p ≡ w = λ w e. ap wide_as (sym c.shape-shape.ensures) ∙ e in
    (let a = c.args in let fit : (j : ℕ) → get_or a.items.now j 0 < 256 = λ j. omega (arith, c.type_inv.items j) in
    word-found a.p a.items.now a.n a.value fit c.requires (taken) 4 (wide 4 (four-shaped c.shape-shape.result c.in-Low4.in-Low4-own.keys3)) (lit< tt)
    ((c.encode-in-Low4.ensures ∙ ap (λ (v : ℤ). in_eight (encoded c.args.p v)) (to_z-of_z c.ranges.value))) c.low-in-Low4.ensures.0 c.find_number-in-Low4.ensures)

pub returns-in-Low8 : goal.returns-in-Low8
returns-in-Low8 c =
    let taken : takes c.args.p c.args.value ≡ true = sym (c.takes.ensures ∙ ap (takes c.args.p) (to_z-of_z c.ranges.value)) ∙ c.if-not-takes.false in
    let wide : (w : ℕ) → wide_as c.shape-shape.result ≡ w → width_of c.args.p ≡ w = λ w e. ap wide_as (sym c.shape-shape.ensures) ∙ e in
    (let a = c.args in let fit : (j : ℕ) → get_or a.items.now j 0 < 256 = λ j. omega (arith, c.type_inv.items j) in
    word-found a.p a.items.now a.n a.value fit c.requires (taken) 8 (wide 8 (eight-shaped c.shape-shape.result c.in-Low8.in-Low8-own.keys4)) (lit< tt)
    ((c.encode-in-Low8.ensures ∙ ap (λ (v : ℤ). in_eight (encoded c.args.p v)) (to_z-of_z c.ranges.value))) c.low-in-Low8.ensures.0 c.find_number-in-Low8.ensures)
