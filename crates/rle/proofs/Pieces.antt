-- Rows of one run: what a piece says of the next rows, and the returns of `take_piece`. Assumes nothing.
use Rattle.std.specs.Prelude.{Option, Some, None}
use Prim.Native.Nat.{ℕ, suc, ◌+◌, ◌-◌, ◌^◌, ◌≤◌, ◌<◌}
use native.Mathlib.Omega.{arith}
use mathlib.Core.Bool.{Bool, true, false, cond}
use mathlib.Core.List.{List, append-nil}
use mathlib.Core.Path.{◌≡◌, refl, ap, subst, ◌∙◌}
use lib.Dec.{ltb}
use lib.ListN.{replicate}
use borrow.Author.Tests.{lt-ltb, le-ltb, ltb-true, ltb-false}
use Rattle.rle.specs.declared.Spot.{Spot}
use Rattle.rle.specs.Stepping.{spot, stuck, before, and_then, here, steps_from}
use Rattle.rle.specs.Pieces.{rest_of, piece_by, piece_in, steps_in, run_piece, run_rest}
use Rattle.rle.proofs.Steps.{next_in, steps-more, Room, coded-room}
use Rattle.rle.proofs.RestOfRun.{Found, found, wrong-stuck, found_in, found-past}
use Rattle.rle.specs.declared.Rest.{Rest}
use Rattle.rle.specs.declared.Piece.{Piece}

-- the three pieces that there are: a row by itself, as many rows of a run as are wanted, and all rows that are left of a run
data Cut (runs : ℕ) (counts : List ℕ) (s : Spot) (n : ℕ) : Bool → ℕ → Spot → Type 0 where
  alone : Cut runs counts s n false 1 (spot (s.run + 1) s.at s.taken)
  part : {free len : ℕ} → Found runs counts s free len → n < free → Cut runs counts s n true n (spot s.run s.at (s.taken + n))
  rest : {free len : ℕ} → Found runs counts s free len → free ≤ n → Cut runs counts s n true free (spot (s.run + 1) (s.at + len) 0)

abbrev Tells : Bool → ℕ → List ℕ → Spot → ℕ → Option Piece → Type 0
Tells coded runs counts s n (Some p) = Cut runs counts s n coded p.rows p.next
Tells coded runs counts s n None = steps_in coded runs counts n s ≡ stuck

rest-tells : (runs : ℕ) (counts : List ℕ) (s : Spot) (n : ℕ) → 0 < n
    → (a : Option Rest) → a ≡ rest_of (here runs counts s) s.taken → Tells true runs counts s n (piece_by a s n)
unfolding piece_by steps_in
rest-tells runs counts s n p None e = wrong-stuck runs counts s e n p refl
rest-tells runs counts s n p (Some r) e = go (ltb n r.free) refl
  where
    f : Found runs counts s r.free r.len
    f = found runs counts s e refl

    go : (b : Bool) → ltb n r.free ≡ b
        → Tells true runs counts s n (cond b (Some (run_piece n (spot s.run s.at (s.taken + n)))) (Some (run_piece r.free (spot (s.run + 1) (s.at + r.len) 0))))
    go true h = part f (ltb-true n r.free h)
    go false h = rest f (ltb-false n r.free h)

tells : (coded : Bool) (runs : ℕ) (counts : List ℕ) (s : Spot) (n : ℕ) → 0 < n → Tells coded runs counts s n (piece_in coded runs counts s n)
unfolding piece_in
tells true runs counts s n p = rest-tells runs counts s n p _ refl
tells false runs counts s n p = alone

-- ---- what a piece says
module _ (coded : Bool) (runs : ℕ) (counts : List ℕ) (s : Spot) (n : ℕ) (p : 0 < n) where
  pub piece-stuck : piece_in coded runs counts s n ≡ None → steps_in coded runs counts n s ≡ stuck
  piece-stuck e = subst (Tells coded runs counts s n) e (tells coded runs counts s n p)

  module _ {k : ℕ} {t : Spot} (e : piece_in coded runs counts s n ≡ Some (run_piece k t)) where
    cut : Cut runs counts s n coded k t
    cut = subst (Tells coded runs counts s n) e (tells coded runs counts s n p)

    -- the rows of the piece come first
    pub piece-rows : steps_in coded runs counts n s ≡ before (replicate k s.run) (steps_in coded runs counts (n - k) t)
    unfolding steps_in next_in and_then before steps_from
    piece-rows = go cut
      where
        go : {c : Bool} {k : ℕ} {t : Spot} → Cut runs counts s n c k t
            → steps_in c runs counts n s ≡ before (replicate k s.run) (steps_in c runs counts (n - k) t)
        go alone =
            let m : n ≡ suc (n - 1) = omega arith in
            ap (λ (x : ℕ). steps_in false runs counts x s) m ∙ steps-more false runs counts (n - 1) s
        go (part f h) = let m : n - n ≡ 0 = omega arith in rw (m, append-nil) (found_in f n h)
        go (rest f h) = found-past f n p h

    pub piece-most : (k ≤ n) × (k < 2 ^ 32)
    piece-most = go cut
      where
        go : {c : Bool} {k : ℕ} {t : Spot} → Cut runs counts s n c k t → (k ≤ n) × (k < 2 ^ 32)
        go alone = omega arith
        go (part f h) = omega arith
        go (rest f h) = omega arith

    -- a loop over pieces ends: with each there are fewer rows left, or fewer runs
    pub piece-less : n - k + (runs - t.run) < n + (runs - s.run)
    piece-less = go cut
      where
        go : {c : Bool} {k : ℕ} {t : Spot} → Cut runs counts s n c k t → n - k + (runs - t.run) < n + (runs - s.run)
        go alone = omega arith
        go (part f h) = omega arith
        go (rest f h) = omega arith

    pub piece-run : t.run ≤ s.run + 1
    piece-run = go cut
      where
        go : {c : Bool} {k : ℕ} {t : Spot} → Cut runs counts s n c k t → t.run ≤ s.run + 1
        go alone = omega arith
        go (part f h) = omega arith
        go (rest f h) = omega arith

    -- the rows are there, and so are those left; where rows are coded by runs, `coded-room` is the room
    pub piece_inside : Room coded runs n s → (s.run < runs) × (t.run ≤ runs) × Room coded runs (n - k) t
    piece_inside = go cut
      where
        go : {c : Bool} {k : ℕ} {t : Spot} → Cut runs counts s n c k t → Room c runs n s
            → (s.run < runs) × (t.run ≤ runs) × Room c runs (n - k) t
        go alone m = let l : s.run + n ≤ runs = m refl in (omega arith, omega arith, λ e. omega arith)
        go (part f h) m = (omega arith, omega arith, coded-room)
        go (rest f h) m = (omega arith, omega arith, coded-room)

    pub piece-alone : coded ≡ false → (k ≡ 1) × (t ≡ spot (s.run + 1) s.at s.taken)
    piece-alone = go cut
      where
        go : {c : Bool} {k : ℕ} {t : Spot} → Cut runs counts s n c k t → c ≡ false
            → (k ≡ 1) × (t ≡ spot (s.run + 1) s.at s.taken)
        go alone h = (refl, refl)
        go (part f l) h = coded-room h
        go (rest f l) h = coded-room h

-- ---- the returns of `take_piece`
module _ (coded : Bool) (runs : ℕ) (counts : List ℕ) (s : Spot) (left : ℕ) where
  pub gives-alone : coded ≡ false → Some (run_piece 1 (spot (s.run + 1) s.at s.taken)) ≡ piece_in coded runs counts s left
  unfolding piece_in
  gives-alone h = rw h

  module _ (h : coded ≡ true) {a : Option Rest} (e : a ≡ rest_of (here runs counts s) s.taken) where
    pub gives_none : a ≡ None → None ≡ piece_in coded runs counts s left
    unfolding piece_in piece_by
    gives_none b = rw (h, ← e, b)

    module _ {free len : ℕ} (b : a ≡ Some (run_rest free len)) where
      pub gives_part : left < free → Some (run_piece left (spot s.run s.at (s.taken + left))) ≡ piece_in coded runs counts s left
      unfolding piece_in piece_by
      gives_part l = rw (h, ← e, b) (simp (lt-ltb _ _ l))

      pub gives-rest : free ≤ left → Some (run_piece free (spot (s.run + 1) (s.at + len) 0)) ≡ piece_in coded runs counts s left
      unfolding piece_in piece_by
      gives-rest l = rw (h, ← e, b) (simp (le-ltb _ _ l))
