-- Parts of a list: where they begin and how long they are. Assumes nothing.
use Prim.Native.Nat.{ℕ, zero, suc, ◌+◌, ◌-◌, ◌≤◌, ◌<◌}
use native.Mathlib.Nat.{zero-add, suc-add, min-le_left}
use native.Mathlib.Omega.{arith}
use mathlib.Core.Logic.{⊎_elim}
use mathlib.Core.Path.{◌≡◌, sym, ap, ◌∙◌}
use mathlib.Core.List.{List, [], ◌∷◌}
use lib.ListN.{length, take, drop, length-take, length-drop, drop_of_length-le}
use lib.Seq.{take_all, take-nil, drop-drop, length-take-le}
use Rattle.area.proofs.Laws.{lt-or-ge}
use Rattle.anatomy.specs.declared.Part.{Part}
use Rattle.anatomy.specs.Parts.{part, part_in, Within}

pub part-long : (p : Part) (b : List ℕ) → Within p (length b) → length (part_in p b) ≡ p.to - p.from
unfolding part_in
part-long p b w =
    let o = w.order in
    let i = w.inside in
    length-take-le (p.to - p.from) (drop p.from b) (let e = length-drop p.from b in omega arith)

pub part-all : (b : List ℕ) (len : ℕ) → length b ≡ len → part_in (part 0 len) b ≡ b
unfolding part_in
part-all b len e = take_all (len - 0) b (omega arith)

pub part-rest : (b : List ℕ) (len i : ℕ) → length b ≡ len → part_in (part i len) b ≡ drop i b
unfolding part_in
part-rest b len i e = take_all (len - i) (drop i b) (let q = length-drop i b in omega arith)

pub part-first : (b : List ℕ) (n : ℕ) → part_in (part 0 n) b ≡ take n b
unfolding part_in
part-first b n = let e : n - 0 ≡ n = omega arith in rw e

pub part_at : (b : List ℕ) (i n : ℕ) → part_in (part i (i + n)) b ≡ take n (drop i b)
unfolding part_in
part_at b i n = let e : i + n - i ≡ n = omega arith in rw e

pub part-between : (b : List ℕ) (i j n : ℕ) → n ≡ j - i → part_in (part i j) b ≡ take n (drop i b)
unfolding part_in
part-between b i j n e = rw e

-- a part of a part
pub take-drop : (n m : ℕ) (l : List ℕ) → take n (drop m l) ≡ drop m (take (m + n) l)
take-drop n zero l = rw zero-add
take-drop n (suc m) [] = rw (suc-add, take-nil)
take-drop n (suc m) (x ∷ xs) = rw suc-add (take-drop n m xs)

pub part-inside : (b : List ℕ) (i n j : ℕ) → part_in (part (i + j) (i + n)) b ≡ drop j (take n (drop i b))
unfolding part_in
part-inside b i n j = ⊎_elim
    (λ (h : j < n).
    let e : i + n - (i + j) ≡ n - j = omega arith in
    let q : j + (n - j) ≡ n = omega arith in
    rw e (ap (take (n - j)) (sym (drop-drop j i b)) ∙ take-drop (n - j) j (drop i b) ∙ rw q))
    (λ (h : n ≤ j).
    let e : i + n - (i + j) ≡ 0 = omega arith in
    let q = length-take n (drop i b) in
    let l : length (take n (drop i b)) ≤ j = omega (arith, min-le_left n (length (drop i b))) in
    rw e (sym (drop_of_length-le (take n (drop i b)) {i = j} l)))
    (lt-or-ge j n)
