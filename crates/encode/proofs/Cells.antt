-- The bytes that straight-line code reads of a list, written out: at a numeral width they compute to the list of the bytes.
-- Assumes nothing.
use mathlib.Core.Path.{◌≡◌, refl, ap, sym, ◌∙◌}
use mathlib.Core.List.{List, [], ◌∷◌}
use Prim.Native.Nat.{ℕ, zero, suc, ◌+◌, ◌≤◌, ◌<◌}
use native.Mathlib.Omega.{arith}
use lib.ListN.{length, take, drop, get_or}
use lib.Seq.{drop-cons}
use Rattle.encode.specs.Bytes.{Order, number_of}

-- w elements from index i
abbrev pub cells : ℕ → ℕ → List ℕ → List ℕ
cells zero i xs = []
cells (suc w) i xs = get_or xs i 0 ∷ cells w (suc i) xs

pub unroll : (w i : ℕ) (xs : List ℕ) → i + w ≤ length xs → take w (drop i xs) ≡ cells w i xs
unroll zero i xs h = refl
unroll (suc w) i xs h =
    let p : i < length xs = omega arith in
    let q : suc i + w ≤ length xs = omega arith in
    ap (take (suc w)) (drop-cons xs i 0 p) ∙ ap (λ (l : List ℕ). get_or xs i 0 ∷ l) (unroll w (suc i) xs q)

-- a number that the code makes of the first w bytes is the number of an item of w bytes, in either order
pub number_read : (o : Order) (w : ℕ) (xs : List ℕ) (n : ℕ) → w ≤ length xs → n ≡ number_of o (cells w 0 xs) → n ≡ number_of o (take w xs)
number_read o w xs n h e = e ∙ ap (number_of o) (sym (unroll w 0 xs (omega arith)))
