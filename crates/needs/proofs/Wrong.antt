-- Numbers that are wrong by themselves, on each way through the tests, and what is known of numbers that are right. Assumes nothing.
use Prim.Native.Nat.{ℕ, zero, suc, ◌*◌, ◌≤◌, ◌<◌}
use native.Mathlib.Nat.{mul-le-mul}
use native.Mathlib.Omega.{arith}
use mathlib.Core.Path.{◌≡◌, refl, sym, ap, subst, ◌∙◌}
use mathlib.Core.Bool.{Bool, true, false, not, ◌&&◌, ◌||◌}
use lib.Dec.{ltb, eqb}
use borrow.Author.Tests.{lt-ltb, le-ltb, eq-eqb, ne_eqb, ltb-true, ltb-false}
use Rattle.limits.specs.Limits.{MOST_ITEMS, MOST_BYTES, MOST_WIDTH}
use Rattle.encode.specs.declared.Kind.{Kind}
use Rattle.encode.specs.declared.Kind.TheVariants.{Fixed, Char, Blob}
use Rattle.encode.specs.declared.Primitive.{Primitive}
use Rattle.encode.specs.Kinds.{width_of}
use Rattle.plain.proofs.Numbers.{width_few}
use Rattle.format.specs.declared.Encoding.{Encoding}
use Rattle.encode.proofs.Bools.{or-first, or-then, or-none, neither, and_then, and-not}
use Rattle.needs.specs.declared.Counted.{Counted}
use Rattle.needs.specs.Needs.{coded, stored_by, finished_bytes, counts_past, past_limits}
use Rattle.needs.specs.Needs.{bytes_wrong, record_wrong, too_short, disagree}
use Rattle.needs.specs.declared.Room.{Room}
use Rattle.needs.specs.Tests.{items_wrong}
use Rattle.needs.proofs.Lengths.{finished-least}
use Rattle.needs.proofs.Limits.{Few, few, limit-past, or-last, past-stored}

-- ---- item bytes
module _ (k : Kind) (n len : ℕ) where
  pub fixed-few : n ≤ MOST_ITEMS → (p : Primitive) {w : ℕ} → w ≡ width_of p → n * w ≤ MOST_ITEMS * MOST_WIDTH
  fixed-few h p q = mul-le-mul h (width_few p q)

  pub char-few : n ≤ MOST_ITEMS → (w : ℕ) → w ≤ MOST_WIDTH → n * w ≤ MOST_ITEMS * MOST_WIDTH
  char-few h w g = mul-le-mul h g

  pub fixed-wrong : (p : Primitive) → k ≡ Fixed p → {w : ℕ} → w ≡ width_of p → not (eqb len (n * w)) ≡ bytes_wrong k n len
  unfolding bytes_wrong
  fixed-wrong p q h = ap (λ (v : ℕ). not (eqb len (n * v))) h ∙ ap (λ (j : Kind). bytes_wrong j n len) (sym q)

  pub char-wrong : (w : ℕ) → k ≡ Char w → not (eqb len (n * w)) ≡ bytes_wrong k n len
  unfolding bytes_wrong
  char-wrong w q = ap (λ (j : Kind). bytes_wrong j n len) (sym q)

  pub blob-none : {text : Bool} → k ≡ Blob text → n ≡ 0 → not (eqb len 0) ≡ bytes_wrong k n len
  unfolding bytes_wrong
  blob-none q h = and_then {x = true} _ (sym (eq-eqb n 0 h)) refl ∙ ap (λ (j : Kind). bytes_wrong j n len) (sym q)

  pub blob-some : {text : Bool} → k ≡ Blob text → (n ≡ 0 → ⊥) → false ≡ bytes_wrong k n len
  unfolding bytes_wrong
  blob-some q h = and-not {x = false} _ (sym (ne_eqb n 0 h)) refl ∙ ap (λ (j : Kind). bytes_wrong j n len) (sym q)

module _ (k : Kind) (n len : ℕ) where
  pub items-many : MOST_ITEMS < n → true ≡ items_wrong k n len
  unfolding items_wrong
  items-many h = or-first _ (sym (or-first _ (lt-ltb MOST_ITEMS n h)))

  module _ (h : n ≤ MOST_ITEMS) {x : Bool} (q : x ≡ bytes_wrong k n len) where
    pub items-need : x ≡ true → true ≡ items_wrong k n len
    unfolding items_wrong
    items-need t = or-first _ (sym (or-then (le-ltb MOST_ITEMS n h) (sym (sym q ∙ t))))

    pub items-large : x ≡ false → ltb MOST_BYTES len ≡ items_wrong k n len
    unfolding items_wrong
    items-large t = or-then (or-none (le-ltb MOST_ITEMS n h) (sym q ∙ t)) refl

  pub items-right : {x : Bool} → x ≡ items_wrong k n len → x ≡ false → (n ≤ MOST_ITEMS) × (bytes_wrong k n len ≡ false) × (len ≤ MOST_BYTES)
  unfolding items_wrong
  items-right q t =
      let a = neither (ltb MOST_ITEMS n || bytes_wrong k n len) (ltb MOST_BYTES len) (sym q ∙ t) in
      let b = neither (ltb MOST_ITEMS n) (bytes_wrong k n len) a.0 in
      (ltb-false MOST_ITEMS n b.0, b.1, ltb-false MOST_BYTES len a.1)

counts-right : (a : Bool) (n : ℕ) → (a ≡ true → n ≤ MOST_BYTES) → (a && ltb MOST_BYTES n) ≡ false
counts-right true n h = le-ltb MOST_BYTES n (h refl)
counts-right false n h = refl

module _ (k : Kind) (e : Encoding) (r : Counted) where
  pub wrong-counts : coded e ≡ true → MOST_BYTES < r.counts → true ≡ record_wrong k e r
  unfolding record_wrong
  wrong-counts c h = or-first _ (sym (or-first _ (sym (and_then {x = true} _ (sym c) refl) ∙ lt-ltb MOST_BYTES r.counts h)))

  module _ {n : ℕ} (o : n ≡ stored_by e r) {x : Bool} (q : x ≡ items_wrong k n r.bytes) where
    pub wrong-items : x ≡ true → true ≡ record_wrong k e r
    unfolding items_wrong record_wrong
    wrong-items t = go (ltb MOST_ITEMS n) (bytes_wrong k n r.bytes) refl refl (sym q ∙ t)
      where
        need : bytes_wrong k (stored_by e r) r.bytes ≡ bytes_wrong k n r.bytes
        need = sym (ap (λ (m : ℕ). bytes_wrong k m r.bytes) o)

        go : (a b : Bool) → ltb MOST_ITEMS n ≡ a → bytes_wrong k n r.bytes ≡ b → (a || b || ltb MOST_BYTES r.bytes) ≡ true → true ≡ record_wrong k e r
        go true b p s h =
            or-last (coded e && ltb MOST_BYTES r.counts || bytes_wrong k (stored_by e r) r.bytes)
            (sym (past-stored k e r (subst (λ (m : ℕ). MOST_ITEMS < m) o (ltb-true MOST_ITEMS n p))))
        go false true p s h = or-first _ (sym (or-last (coded e && ltb MOST_BYTES r.counts) (need ∙ s)))
        go false false p s h =
            let g = ltb-true MOST_BYTES r.bytes h in
            let l = finished-least k e r (need ∙ s) (omega arith) in
            or-last (coded e && ltb MOST_BYTES r.counts || bytes_wrong k (stored_by e r) r.bytes) (limit-past k e r (omega arith))

    pub wrong-limits : (coded e ≡ true → r.counts ≤ MOST_BYTES) → x ≡ false → {y : Bool} → y ≡ past_limits k e r → y ≡ record_wrong k e r
    unfolding record_wrong
    wrong-limits c t g =
        or-then (or-none (counts-right (coded e) r.counts c) (sym (ap (λ (m : ℕ). bytes_wrong k m r.bytes) o) ∙ (items-right k n r.bytes q t).1)) g

-- ---- a record that is right by itself
pub record Right (k : Kind) (e : Encoding) (r : Counted) : Type 0 where
  pub counts : coded e ≡ true → r.counts ≤ MOST_BYTES
  pub few : Few e r
  pub past : counts_past e r ≡ false
  pub bytes : r.bytes ≤ MOST_BYTES
  pub finished : finished_bytes k e r ≤ MOST_BYTES

pub right : (k : Kind) (e : Encoding) (r : Counted) → record_wrong k e r ≡ false → Right k e r
unfolding record_wrong past_limits
right k e r h =
    let a = neither (coded e && ltb MOST_BYTES r.counts || bytes_wrong k (stored_by e r) r.bytes) (past_limits k e r) h in
    let b = neither (coded e && ltb MOST_BYTES r.counts) (bytes_wrong k (stored_by e r) r.bytes) a.0 in
    let c = neither (counts_past e r) (ltb MOST_BYTES (finished_bytes k e r)) a.1 in
    let f = ltb-false MOST_BYTES (finished_bytes k e r) c.1 in
    record {
      counts = λ t. ltb-false MOST_BYTES r.counts (and_then {x = true} _ (sym t) refl ∙ b.0);
      few = few e r c.0;
      past = c.0;
      bytes = go r.bytes refl b.1 f;
      finished = f;
    }
  where
    go : (n : ℕ) → n ≡ r.bytes → bytes_wrong k (stored_by e r) r.bytes ≡ false → finished_bytes k e r ≤ MOST_BYTES → r.bytes ≤ MOST_BYTES
    go zero q w f = omega arith
    go (suc n) q w f = let l = finished-least k e r w (omega arith) in omega arith

pub past-not : (k : Kind) (e : Encoding) (r : Counted) {x : Bool} → x ≡ record_wrong k e r → x ≡ false → counts_past e r ≡ false
past-not k e r w t = (right k e r (sym w ∙ t)).past

pub bytes-right : (k : Kind) (e : Encoding) (r : Counted) → record_wrong k e r ≡ false → bytes_wrong k (stored_by e r) r.bytes ≡ false
unfolding record_wrong
bytes-right k e r h =
    let a = neither (coded e && ltb MOST_BYTES r.counts || bytes_wrong k (stored_by e r) r.bytes) (past_limits k e r) h in
    (neither (coded e && ltb MOST_BYTES r.counts) (bytes_wrong k (stored_by e r) r.bytes) a.0).1

-- ---- the numbers are wrong, or an area is short
module _ (k : Kind) (e : Encoding) (r : Counted) (m : Room) {x : Bool} (q : x ≡ record_wrong k e r) where
  pub disagree-record : x ≡ true → true ≡ disagree k e r m
  unfolding disagree
  disagree-record t = or-first _ (sym q ∙ t)

  pub disagree-areas : x ≡ false → {y : Bool} → y ≡ too_short k e r m → y ≡ disagree k e r m
  unfolding disagree
  disagree-areas t p = or-then (sym q ∙ t) p

-- neither
pub record Agree (k : Kind) (e : Encoding) (r : Counted) (m : Room) : Type 0 where
  pub right : record_wrong k e r ≡ false
  pub long : too_short k e r m ≡ false

pub agree : (k : Kind) (e : Encoding) (r : Counted) (m : Room) → disagree k e r m ≡ false → Agree k e r m
unfolding disagree
agree k e r m h = let n = neither (record_wrong k e r) (too_short k e r m) h in record { right = n.0; long = n.1 }
