-- The loop that copies eight bytes at a time: a step is eight of those that copy one. Assumes nothing.
use mathlib.Core.Path.{◌≡◌, refl, sym, ap, ◌∙◌}
use mathlib.Core.List.{List, ◌++◌}
use Prim.Native.Nat.{ℕ, ◌+◌, ◌-◌, ◌≤◌}
use native.Mathlib.Nat.{add-zero}
use native.Mathlib.Omega.{arith}
use lib.ListN.{length, take, drop, length-drop}
use lib.Seq.{sets, length-sets, length-take-le, drop-drop, take-add}
use Rattle.encode.specs.Bytes.{in_eight}
use Rattle.area.proofs.Laws.{sets-append}
use Rattle.plain.proofs.Items.{take-item}

-- what is still to be copied, laid over what is there, is the answer
pub record Copying (src : List ℕ) (from n : ℕ) (dst₀ : List ℕ) (at : ℕ) (dst : List ℕ) (i : ℕ) : Type 0 where
  pub same : sets dst (at + i) (take (n - i) (drop (from + i) src)) ≡ sets dst₀ at (take n (drop from src))
  pub hi : i ≤ n
  pub room : at + n ≤ length dst
  pub long : length dst ≡ length dst₀

pub copying-start : (src : List ℕ) (from n : ℕ) (dst : List ℕ) (at : ℕ) → at + n ≤ length dst → Copying src from n dst at dst 0
copying-start src from n dst at r =
    let m : n - 0 ≡ n = omega arith in
    record { same = rw (add-zero at, add-zero from, m); hi = omega arith; room = r; long = refl }

module _ {src : List ℕ} {from n : ℕ} {dst₀ : List ℕ} {at : ℕ} {dst : List ℕ} {i : ℕ} (c : Copying src from n dst₀ at dst i) where
  pub copying-word :
      8 ≤ n - i → from + n ≤ length src → {item dst' : List ℕ} → item ≡ in_eight (take 8 (drop (from + i) src)) → dst' ≡ sets dst (at + i) (take 8 item) → Copying src from n dst₀ at dst' (i + 8)
  copying-word h k {item} {dst'} e q =
      let word : List ℕ = take 8 (drop (from + i) src) in
      let rest : List ℕ = take (n - (i + 8)) (drop (from + (i + 8)) src) in
      let d : length (drop (from + i) src) ≡ length src - (from + i) = length-drop (from + i) src in
      let l : length word ≡ 8 = length-take-le 8 (drop (from + i) src) (omega arith) in
      let w : take 8 item ≡ word = ap (take 8) e ∙ take-item 8 (from + i) src (omega arith) in
      let m : n - i ≡ 8 + (n - (i + 8)) = omega arith in
      let a : from + i + 8 ≡ from + (i + 8) = omega arith in
      let split : take (n - i) (drop (from + i) src) ≡ word ++ rest =
      ap (λ (j : ℕ). take j (drop (from + i) src)) m
      ∙ take-add 8 (n - (i + 8)) (drop (from + i) src)
      ∙ ap (λ (t : List ℕ). word ++ take (n - (i + 8)) t) (drop-drop 8 (from + i) src)
      ∙ ap (λ (j : ℕ). word ++ take (n - (i + 8)) (drop j src)) a in
      let b : at + i + length word ≡ at + (i + 8) = omega arith in
      let r : length dst' ≡ length dst = ap length q ∙ length-sets dst (at + i) (take 8 item) in
      record {
        same =
            ap (λ (t : List ℕ). sets t (at + (i + 8)) rest) (q ∙ ap (sets dst (at + i)) w)
            ∙ ap (λ (j : ℕ). sets (sets dst (at + i) word) j rest) (sym b)
            ∙ sym (sets-append word rest dst (at + i))
            ∙ ap (sets dst (at + i)) (sym split)
            ∙ c.same;
        hi = omega arith;
        room = omega (arith, c.room, r);
        long = r ∙ c.long;
      }
