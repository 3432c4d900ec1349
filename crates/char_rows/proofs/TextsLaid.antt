-- The loop that copies items whole: bytes past a text are covered by the texts that follow, and the last texts are copied alone.
-- Assumes nothing.
use mathlib.Core.Path.{◌≡◌, refl, sym, ap, ◌∙◌}
use mathlib.Core.List.{List, ◌∷◌, ◌++◌, map, append_assoc}
use Prim.Native.Nat.{ℕ, suc, ◌+◌, ◌-◌, ◌*◌, ◌≤◌, ◌<◌}
use native.Mathlib.Nat.{add-zero}
use native.Mathlib.Numerals.{add-one}
use native.Mathlib.Omega.{arith}
use lib.ListN.{length, take, drop, get_or, length-append, length-take}
use lib.Seq.{sets, sets-eq, length-sets, length-take-le, take_at, drop-append-add, drop-drop, take-add, drop-cons}
use Rattle.area.proofs.Laws.{sets-append}
use Rattle.plain.specs.Plain.{places, joined, ends_from, char_at}
use Rattle.plain.proofs.Chars.{take-char, length-char}
use Rattle.plain.proofs.Places.{length_over}
use Rattle.plain.proofs.Ends.{length-ends}

-- what is written over by something no shorter leaves no trace
cover : (xs ys d : List ℕ) (at : ℕ) → length xs ≤ length ys → at + length ys ≤ length d → sets (sets d at xs) at ys ≡ sets d at ys
cover xs ys d at l h =
    let p : List ℕ = take at d ++ xs in
    let t : List ℕ = drop (at + length xs) d in
    let q : ℕ = length ys - length xs in
    let e : sets d at xs ≡ p ++ t = sets-eq xs d at (omega arith) in
    let a : length (take at d) ≡ at = length-take-le at d (omega arith) in
    let b : length p ≡ at + length xs = length-append (take at d) xs ∙ ap (λ (k : ℕ). k + length xs) a in
    let c : length p + q ≡ at + length ys = omega arith in
    let c' : at + length xs + q ≡ at + length ys = omega arith in
    let front : take at (p ++ t) ≡ take at d = rw append_assoc (take_at (take at d) (xs ++ t) at a) in
    let back : drop (at + length ys) (p ++ t) ≡ drop (at + length ys) d =
    ap (λ (k : ℕ). drop k (p ++ t)) (sym c) ∙ drop-append-add p t q ∙ drop-drop q (at + length xs) d ∙ ap (λ (k : ℕ). drop k d) c' in
    let m : length (sets d at xs) ≡ length d = length-sets d at xs in
    sets-eq ys (sets d at xs) at (omega arith)
    ∙ ap (λ (k : List ℕ). take at k ++ ys ++ drop (at + length ys) k) e
    ∙ ap (λ (k : List ℕ). k ++ ys ++ drop (at + length ys) (p ++ t)) front
    ∙ ap (λ (k : List ℕ). take at d ++ ys ++ k) back
    ∙ sym (sets-eq ys d at h)

-- the ends that were stored are there
pub ends_there :
    (w : ℕ) (s : List ℕ) (from n : ℕ) (ends₀ : List ℕ) {ends : List ℕ} → n ≤ length ends₀ → ends ≡ sets ends₀ 0 (ends_from 0 (map (char_at w s) (places n from)))
    → take n ends ≡ ends_from 0 (map (char_at w s) (places n from))
ends_there w s from n ends₀ h e =
    let xs : List ℕ = ends_from 0 (map (char_at w s) (places n from)) in
    let l : length xs ≡ n = length-ends 0 (map (char_at w s) (places n from)) ∙ length_over (char_at w s) n from in
    ap (take n) (e ∙ sets-eq xs ends₀ 0 (omega arith)) ∙ take_at xs (drop (0 + length xs) ends₀) n l

pub record TextsLaid (w : ℕ) (s : List ℕ) (from n : ℕ) (ends : List ℕ) (total : ℕ) (bytes₀ bytes : List ℕ) (at i : ℕ) : Type 0 where
  pub rest : sets bytes at (joined (char_at w s) (places (n - i) (from + i))) ≡ sets bytes₀ 0 (joined (char_at w s) (places n from))
  pub sum : at + length (joined (char_at w s) (places (n - i) (from + i))) ≡ total
  pub same : take (n - i) (drop i ends) ≡ ends_from at (map (char_at w s) (places (n - i) (from + i)))
  pub room : length bytes ≡ length bytes₀
  pub sound : i ≤ n

pub laid-start :
    (w : ℕ) (s : List ℕ) (from n : ℕ) (ends : List ℕ) (total : ℕ) (bytes : List ℕ) → take n ends ≡ ends_from 0 (map (char_at w s) (places n from)) →
    total ≡ length (joined (char_at w s) (places n from))
    → TextsLaid w s from n ends total bytes bytes 0 0
laid-start w s from n ends total bytes e t =
    let z : n - 0 ≡ n = omega arith in
    record { rest = rw (add-zero, z); sum = rw (add-zero, z) (omega arith); same = rw (add-zero, z) e; room = refl; sound = omega arith }

module _ {w : ℕ} {s : List ℕ} {from n : ℕ} {ends : List ℕ} {total : ℕ} {bytes₀ bytes : List ℕ} {at i : ℕ} (g : TextsLaid w s from n ends total bytes₀ bytes at i) where
  abbrev text : List ℕ
  text = char_at w s (from + i)

  abbrev later : List ℕ
  later = joined (char_at w s) (places (n - (i + 1)) (from + (i + 1)))

  module _ (h : i < n) (r : n ≤ length ends) where
    more : n - i ≡ suc (n - (i + 1))
    more = omega arith

    next : suc (from + i) ≡ from + (i + 1)
    next = omega arith

    both : (get_or ends i 0 ≡ at + length text) × (take (n - (i + 1)) (drop (i + 1) ends) ≡ ends_from (at + length text) (map (char_at w s) (places (n - (i + 1)) (from + (i + 1)))))
    unfolding places ends_from
    both =
        let e : get_or ends i 0 ∷ take (n - (i + 1)) (drop (i + 1) ends)
        ≡ (at + length text) ∷ ends_from (at + length text) (map (char_at w s) (places (n - (i + 1)) (from + (i + 1)))) =
        rw (← next, add-one) (rw (more, drop-cons ends i 0 (omega arith), add-one) at g.same) in
        (cc, cc)

    -- the end that the code reads
    end_is : get_or ends i 0 ≡ at + length text
    end_is = both.0

    sums : at + (length text + length later) ≡ total
    unfolding places joined
    sums =
        let a : at + length (text ++ joined (char_at w s) (places (n - (i + 1)) (suc (from + i)))) ≡ total = rw more at g.sum in
        rw (← next) (rw length-append at a)

    -- what a copy of the item may take
    pub laid-span : (at ≤ get_or ends i 0) × (get_or ends i 0 ≤ at + w) × (get_or ends i 0 ≤ total)
    laid-span =
        let e = end_is in
        let l = length-char w s (from + i) in
        let t = sums in
        (omega arith, omega arith, omega arith)

    pub laid-step :
        (copied : ℕ) → get_or ends i 0 ≤ at + copied → at + copied ≤ total → total ≤ length bytes₀ → {bytes' : List ℕ} → bytes' ≡ sets bytes at (take copied (drop ((from + i) * w) s))
        → TextsLaid w s from n ends total bytes₀ bytes' (get_or ends i 0) (i + 1)
    unfolding places joined
    laid-step copied lo hi fits {bytes'} b =
        let e : get_or ends i 0 ≡ at + length text = end_is in
        let k : ℕ = copied - length text in
        let past : List ℕ = take k (drop (length text) (drop ((from + i) * w) s)) in
        let c : copied ≡ length text + k = omega arith in
        let whole : take copied (drop ((from + i) * w) s) ≡ text ++ past =
        ap (λ (j : ℕ). take j (drop ((from + i) * w) s)) c ∙ take-add (length text) k (drop ((from + i) * w) s) ∙ ap (λ (l : List ℕ). l ++ past) (take-char w s (from + i)) in
        let t : at + (length text + length later) ≡ total = sums in
        let p : length past ≤ length later = (let q = length-take k (drop (length text) (drop ((from + i) * w) s)) in omega arith) in
        let m : length (sets bytes at text) ≡ length bytes = length-sets bytes at text in
        let o : length bytes ≡ length bytes₀ = g.room in
        let old : sets bytes at (text ++ later) ≡ sets bytes₀ 0 (joined (char_at w s) (places n from)) = rw (← next) (rw more at g.rest) in
        record {
          rest =
              rw (b, e, whole, sets-append text past bytes at) (cover past later (sets bytes at text) (at + length text) p (omega arith)
              ∙ sym (sets-append text later bytes at) ∙ old);
          sum = rw e (omega arith);
          same = rw e both.1;
          room = ap length b ∙ length-sets bytes at (take copied (drop ((from + i) * w) s)) ∙ o;
          sound = omega arith;
        }

  pub laid_end : n ≤ i → bytes ≡ sets bytes₀ 0 (joined (char_at w s) (places n from))
  unfolding places joined
  laid_end h = let m : n - i ≡ 0 = omega arith in rw m at g.rest
