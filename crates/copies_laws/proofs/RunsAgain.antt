-- Encodings 2 and 3: with a row counted in and written, the row before is that row, so that the next append of it finds that it joins its run while
-- that is open. For any numbers and all memory. Assumes nothing.
use Prim.Native.Nat.{ℕ, suc, ◌+◌, ◌-◌}
use native.Mathlib.Omega.{arith}
use mathlib.Core.Bool.{Bool, true, false, cond, not, ◌&&◌, and-true, and-false}
use mathlib.Core.List.{List}
use mathlib.Core.Path.{◌≡◌, refl, sym, ap, ◌∙◌}
use lib.Dec.{ltb, eqb}
use lib.IntN.{ℤ, pos}
use lib.ListN.{length}
use borrow.Author.Tests.{lt-ltb}
use Rattle.std.specs.Prelude.{None}
use Rattle.encode.specs.declared.Kind.{Kind}
use Rattle.encode.proofs.Bools.{clash, both, and_then}
use Rattle.plain.specs.Rows.{Row, null, int, bytes, same}
use Rattle.plain.specs.Plain.{item_of}
use Rattle.plain.proofs.Same.{same-equal, same_self}
use Rattle.nullable.specs.Nullable.{presence}
use Rattle.lookup.specs.Held.{Held, held, held_row, field_wrong}
use Rattle.needs.specs.declared.Counted.{Counted}
use Rattle.needs.specs.Needs.{bytes_wrong}
use Rattle.step.proofs.Steps.{adds_same}
use Rattle.step.specs.Steps.{adds, run_open, row_before, joins_run, run_step}
use Rattle.append.specs.Asking.{Stores}
use Rattle.copies_laws.proofs.ReadBack.{written, held_next, Behind, behind, new-field, new_row}

module _ (k : Kind) (row : Row) where
  -- ---- what is found
  pub record RunFound (r : Counted) (h : Held) (item joins : Bool) (key : ℤ) : Type 0 where
    pub right : (ltb 0 r.runs && field_wrong k r.runs r.bytes h (r.runs - 1)) ≡ false
    pub joined : joins ≡ joins_run k r h row
    pub stored : item ≡ not joins
    pub bare : key ≡ pos 0

  pub run-found : (r : Counted) (h : Held) (item joins : Bool) (key : ℤ) → adds item joins key ≡ run_step k r h row → RunFound r h item joins key
  unfolding run_step
  run-found r h item joins key q = go (ltb 0 r.runs && field_wrong k r.runs r.bytes h (r.runs - 1)) refl q
    where
      go : (b : Bool) → (ltb 0 r.runs && field_wrong k r.runs r.bytes h (r.runs - 1)) ≡ b
          → adds item joins key ≡ cond b None (adds (not (joins_run k r h row)) (joins_run k r h row) (pos 0)) → RunFound r h item joins key
      go true p q = let z : ◌≡◌ {A = ℕ} 0 1 = cc in absurd (omega arith)
      go false p q =
          let e = adds_same q in
          record { right = p; joined = e.1; stored = e.0 ∙ ap not (sym e.1); bare = e.2 }

  -- the last item is not wrong
  pub last-item : (r : Counted) (h : Held) → (ltb 0 r.runs && field_wrong k r.runs r.bytes h (r.runs - 1)) ≡ false
      → (i : ℕ) → suc i ≡ r.runs → field_wrong k r.runs r.bytes h i ≡ false
  last-item r h w i q =
      let z : r.runs - 1 ≡ i = omega arith in
      ap (field_wrong k r.runs r.bytes h) (sym z) ∙ and_then {x = true} _ (sym (lt-ltb 0 r.runs (omega arith))) refl ∙ w

  -- ---- numbers whose row before is the row
  before_same : (r : Counted) (h : Held) → r.null ≡ 1 - presence row → (presence row ≡ 1 → held_row k h (r.runs - 1) ≡ row) → row_before k r h ≡ row
  unfolding row_before presence
  before_same r h = go row
    where
      go : (x : Row) → r.null ≡ 1 - presence x → (presence x ≡ 1 → held_row k h (r.runs - 1) ≡ x) → row_before k r h ≡ x
      go null z b = rw z
      go (int v) z b = rw z (b refl)
      go (bytes bs) z b = rw z (b refl)

  step-again : (r : Counted) (h : Held) → field_wrong k r.runs r.bytes h (r.runs - 1) ≡ false → r.null ≡ 1 - presence row
      → (presence row ≡ 1 → held_row k h (r.runs - 1) ≡ row) → run_step k r h row ≡ adds (not (run_open r)) (run_open r) (pos 0)
  unfolding run_step joins_run
  step-again r h w z b = rw (w, and-false, before_same r h z b, same_self row, and-true)

  -- ---- the row was stored
  pub stored-again : (r s : Counted) (h : Held) → Behind k r.runs r.bytes row h → s.runs ≡ r.runs + 1 → s.bytes ≡ r.bytes + length (item_of k row)
      → s.null ≡ 1 - presence row → run_step k s (written k r.runs r.bytes row h) row ≡ adds (not (run_open s)) (run_open s) (pos 0)
  stored-again r s h g n b z =
      let i : s.runs - 1 ≡ r.runs = omega arith in
      step-again s (written k r.runs r.bytes row h) (rw (i, n, b) (new-field k r.runs r.bytes row h g)) z
      (λ p. rw i (new_row k r.runs r.bytes row h g p))

  -- ---- the row joined: the row before was the same
  item-same : (r : Counted) (h : Held) → same row (row_before k r h) ≡ true → presence row ≡ 1 → held_row k h (r.runs - 1) ≡ row
  unfolding row_before presence
  item-same r h q p = go (eqb r.null 0) (same-equal row (row_before k r h) q)
    where
      go : (t : Bool) → row ≡ cond t (held_row k h (r.runs - 1)) null → held_row k h (r.runs - 1) ≡ row
      go true e = sym e
      go false e = absurd (omega (arith, sym (ap presence e) ∙ p))

  pub joined-again : (r s : Counted) (h : Held) → (ltb 0 r.runs && field_wrong k r.runs r.bytes h (r.runs - 1)) ≡ false → joins_run k r h row ≡ true
      → s.runs ≡ r.runs → s.bytes ≡ r.bytes → s.null ≡ 1 - presence row → run_step k s h row ≡ adds (not (run_open s)) (run_open s) (pos 0)
  unfolding joins_run run_open
  joined-again r s h w j n b z =
      let o = both (run_open r) (same row (row_before k r h)) j in
      let l = (both (ltb 0 r.runs) _ o.0).0 in
      let f : field_wrong k r.runs r.bytes h (r.runs - 1) ≡ false = and_then {x = true} _ (sym l) refl ∙ w in
      step-again s h (rw (n, b) f) z (λ p. rw n (item-same r h o.1 p))

  -- ---- either
  pub runs-again : (r s : Counted) (is es ls : List ℕ) {f : Bool} {fs : List ℕ} (item joins : Bool) (key : ℤ) → bytes_wrong k r.runs r.bytes ≡ false
      → (item ≡ true → Stores k f r.runs r.bytes row (length (item_of k row)) is es fs ls) → s.runs ≡ cond (not joins) (r.runs + 1) r.runs
      → s.bytes ≡ cond item (r.bytes + length (item_of k row)) r.bytes → s.null ≡ 1 - presence row → adds item joins key ≡ run_step k r (held is es ls) row
      → run_step k s (held_next item k r.runs r.bytes row (held is es ls)) row ≡ adds (not (run_open s)) (run_open s) key
  runs-again r s is es ls {f} {fs} item joins key need slots n b z q = go item joins g.stored g.joined slots n b ∙ ap (adds (not (run_open s)) (run_open s)) (sym g.bare)
    where
      g : RunFound r (held is es ls) item joins key
      g = run-found r (held is es ls) item joins key q

      go : (item joins : Bool) → item ≡ not joins → joins ≡ joins_run k r (held is es ls) row
          → (item ≡ true → Stores k f r.runs r.bytes row (length (item_of k row)) is es fs ls) → s.runs ≡ cond (not joins) (r.runs + 1) r.runs
          → s.bytes ≡ cond item (r.bytes + length (item_of k row)) r.bytes
          → run_step k s (held_next item k r.runs r.bytes row (held is es ls)) row ≡ adds (not (run_open s)) (run_open s) (pos 0)
      go true false t j w n b = stored-again r s (held is es ls) (behind k r.runs r.bytes row (w refl) need (last-item r (held is es ls) g.right)) n b z
      go false true t j w n b = joined-again r s (held is es ls) g.right (sym j) n b z
      go true true t j w n b = clash t
      go false false t j w n b = clash (sym t)
