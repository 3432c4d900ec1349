-- What a key names, from the number of its four bytes, and the loop of `known` over the keys. Assumes nothing.
use Prim.Native.Nat.{ℕ, zero, suc, ◌+◌, ◌-◌, ◌*◌, ◌%◌, ◌≤◌, ◌<◌}
use native.Mathlib.Nat.{add-zero, mul_comm}
use native.Mathlib.Numerals.{add-one}
use native.Mathlib.Omega.{arith}
use mathlib.Core.Bool.{Bool, true, false, cond, ◌&&◌}
use mathlib.Core.Path.{◌≡◌, refl, sym, ap, ◌∙◌}
use mathlib.Core.List.{List}
use lib.Dec.{ltb, leb}
use lib.IntN.{ℤ, pos, negsuc, ◌+ℤ◌, nat_abs}
use lib.ListN.{take, drop}
use mir.Syntax.{w32}
use mir.Val.{to_z}
use mir.Facts.{to_z_pos, to_z-neg}
use borrow.Author.Tests.{ltb-true, ltb-false, le-ltb, le-leb, lt-leb, leb-true}
use Rattle.encode.proofs.Bools.{both}
use Rattle.encode.specs.Bytes.{number}
use Rattle.plain.specs.Rows.{int_in}
use Rattle.plain.specs.Plain.{places, plain_row, fixed_at}
use Rattle.dict.specs.Dictionary.{null_key, entry_key, slot_at, known}

-- ---- a number of 32 bits as a signed one, counted from the least
below : (k : ℕ) → k < 2147483648 → negsuc k +ℤ pos 2147483648 ≡ pos (2147483648 - suc k)
below k l = ap (λ (t : Bool). cond t (negsuc (suc k - suc 2147483648)) (pos (2147483648 - suc k))) (le-ltb 2147483648 (suc k) (omega arith))

pub counted-from-least : (u : ℕ) → u < 4294967296 → nat_abs (to_z w32 u +ℤ pos 2147483648) ≡ (u + 2147483648) % 4294967296
counted-from-least u h = go (ltb u 2147483648) refl
  where
    go : (t : Bool) → ltb u 2147483648 ≡ t → nat_abs (to_z w32 u +ℤ pos 2147483648) ≡ (u + 2147483648) % 4294967296
    go true e =
        let l : u < 2147483648 = ltb-true u 2147483648 e in
        ap (λ (z : ℤ). nat_abs (z +ℤ pos 2147483648)) (to_z_pos w32 {n = u} l) ∙ omega arith
    go false e =
        let l : 2147483648 ≤ u = ltb-false u 2147483648 e in
        let k : ℕ = 4294967295 - u in
        let s : u ≡ 4294967296 - suc k = omega arith in
        ap (λ (n : ℕ). nat_abs (to_z w32 n +ℤ pos 2147483648)) s
        ∙ ap (λ (z : ℤ). nat_abs (z +ℤ pos 2147483648)) (to_z-neg w32 k (omega arith))
        ∙ ap nat_abs (below k (omega arith))
        ∙ omega arith

-- which entry a key names, from the number of its bytes
pub slot-number :
    (keys : List ℕ) (i : ℕ) → number (take 4 (drop (4 * i) keys)) < 4294967296
    → slot_at keys i ≡ (number (take 4 (drop (4 * i) keys)) + 2147483648) % 4294967296
unfolding slot_at plain_row int_in fixed_at
slot-number keys i h = rw (mul_comm i 4) (counted-from-least (number (take 4 (drop (4 * i) keys))) h)

pub slot-found :
    (keys : List ℕ) (i : ℕ) {u : ℕ} → u ≡ number (take 4 (drop (4 * i) keys)) → u < 4294967296
    → (u + 2147483648) % 4294967296 ≡ slot_at keys i
slot-found keys i e h = rw e (sym (slot-number keys i (rw e at h)))

-- ---- the keys that a block is built with: null's names 0, and that of entry k names k + 1
pub null-slot : nat_abs (null_key +ℤ pos 2147483648) ≡ 0
unfolding null_key
null-slot = refl

pub entry-slot : (k : ℕ) → nat_abs (entry_key k +ℤ pos 2147483648) ≡ suc k
unfolding entry_key
entry-slot k = go (ltb k 2147483647) refl
  where
    go : (t : Bool) → ltb k 2147483647 ≡ t → nat_abs (cond t (negsuc (2147483647 - suc k)) (pos (k - 2147483647)) +ℤ pos 2147483648) ≡ suc k
    go true e = let l : k < 2147483647 = ltb-true k 2147483647 e in ap nat_abs (below (2147483647 - suc k) (omega arith)) ∙ omega arith
    go false e = let l : 2147483647 ≤ k = ltb-false k 2147483647 e in omega arith

-- ---- the loop of `known`: the answer is that for the keys that are left
pub record Looking (entries : ℕ) (keys : List ℕ) (n i : ℕ) : Type 0 where
  pub same : known entries keys (places (n - i) i) ≡ known entries keys (places n 0)
  pub hi : i ≤ n

pub looking-start : (entries : ℕ) (keys : List ℕ) (n : ℕ) → Looking entries keys n 0
looking-start entries keys n = let m : n - 0 ≡ n = omega arith in record { same = rw m; hi = omega arith }

known_more :
    (entries : ℕ) (keys : List ℕ) (n i : ℕ) → i < n
    → known entries keys (places (n - i) i) ≡ leb (slot_at keys i) entries && known entries keys (places (n - (i + 1)) (i + 1))
unfolding known places
known_more entries keys n i h = let m : n - i ≡ suc (n - (i + 1)) = omega arith in rw (m, add-one i)

module _ {entries : ℕ} {keys : List ℕ} {n i : ℕ} (c : Looking entries keys n i) where
  -- the answer, with what the test of key i comes to
  turn : {t : Bool} → i < n → leb (slot_at keys i) entries ≡ t → t && known entries keys (places (n - (i + 1)) (i + 1)) ≡ known entries keys (places n 0)
  turn h e = ap (λ (s : Bool). s && known entries keys (places (n - (i + 1)) (i + 1))) (sym e) ∙ sym (known_more entries keys n i h) ∙ c.same

  pub looking-step : i < n → slot_at keys i ≤ entries → Looking entries keys n (i + 1)
  looking-step h k = record { same = turn h (le-leb (slot_at keys i) entries k); hi = omega arith }

  pub looking-stop : i < n → entries < slot_at keys i → false ≡ known entries keys (places n 0)
  looking-stop h k = turn h (lt-leb (slot_at keys i) entries k)

  pub looking-end : n ≤ i → true ≡ known entries keys (places n 0)
  unfolding known places
  looking-end h = let m : n - i ≡ 0 = omega arith in rw m at c.same

-- ---- what it says of each key
pub known_at :
    (entries : ℕ) (keys : List ℕ) (n j k : ℕ) → known entries keys (places n j) ≡ true → k < n → slot_at keys (j + k) ≤ entries
unfolding known places
known_at entries keys zero j k e h = absurd (omega arith)
known_at entries keys (suc n) j zero e h =
    let p = both (leb (slot_at keys j) entries) (known entries keys (places n (suc j))) e in
    rw add-zero (leb-true (slot_at keys j) entries p.0)
known_at entries keys (suc n) j (suc k) e h =
    let p = both (leb (slot_at keys j) entries) (known entries keys (places n (suc j))) e in
    let m : suc j + k ≡ j + suc k = omega arith in
    rw m at (known_at entries keys n (suc j) k p.1 (omega arith))

pub known-all :
    (entries : ℕ) (keys : List ℕ) (n j : ℕ) → ((k : ℕ) → k < n → slot_at keys (j + k) ≤ entries) → known entries keys (places n j) ≡ true
unfolding known places
known-all entries keys zero j h = refl
known-all entries keys (suc n) j h =
    let l : slot_at keys j ≤ entries = rw add-zero at (h 0 (omega arith)) in
    ap (λ (t : Bool). t && known entries keys (places n (suc j))) (le-leb (slot_at keys j) entries l)
    ∙ known-all entries keys n (suc j) (λ k m. let e : suc j + k ≡ j + suc k = omega arith in rw e (h (suc k) (omega arith)))
