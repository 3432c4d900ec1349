-- The first look at a run: the returns of `seen_run`, and what its answer says. Assumes nothing.
use Prim.Native.Nat.{ℕ, ◌≤◌, ◌<◌}
use native.Mathlib.Omega.{arith}
use mathlib.Core.Bool.{Bool, true, false, cond}
use mathlib.Core.List.{List}
use mathlib.Core.Path.{◌≡◌, refl}
use lib.Dec.{eqb}
use Rattle.std.specs.Prelude.{Option, Some, None}
use borrow.Author.Tests.{eq-eqb, ne_eqb, eqb-true, eqb-false}
use Rattle.rle.specs.declared.Spot.{Spot}
use Rattle.rle.specs.declared.Piece.{Piece}
use Rattle.rle.specs.Pieces.{run_piece}
use Rattle.source.specs.declared.Source.{Source}
use Rattle.source.specs.declared.Look.{Look}
use Rattle.source.specs.Rows.{seen_by, sees_by, look, look_by}
use Rattle.source.proofs.AtPlace.{sees-most}

module _ (s : Source) (marks : List ℕ) (i : ℕ) where
  -- ---- the returns of `seen_run`
  module _ {x q : Option Piece} (e : x ≡ q) where
    pub look-stuck : x ≡ None → None ≡ look_by s marks i q
    unfolding look_by
    look-stuck b = rw (← e, b)

    module _ {k : ℕ} {t : Spot} (b : x ≡ Some (run_piece k t)) where
      pub look_none : k ≡ 0 → Some (look 0 k t) ≡ look_by s marks i q
      unfolding look_by
      look_none z = rw (← e, b) (simp (eq-eqb k 0 z))

      module _ (z : k ≡ 0 → ⊥) where
        pub look-wrong : sees_by s marks i ≡ false → None ≡ look_by s marks i q
        unfolding look_by
        look-wrong h = rw (← e, b, h) (simp (ne_eqb k 0 z))

        pub look-item : {seen : ℕ} → (sees_by s marks i ≡ true) × (seen ≡ seen_by s.marks marks i) → Some (look seen k t) ≡ look_by s marks i q
        unfolding look_by
        look-item h = rw (← e, b, h.0, h.1) (simp (ne_eqb k 0 z))

  -- ---- what its answer says
  abbrev pub Tells : Option Piece → Option Look → Type 0
  Tells q (Some x) =
      (q ≡ Some (run_piece x.rows x.next)) × (x.seen ≤ s.items) × (0 < x.rows → (sees_by s marks i ≡ true) × (x.seen ≡ seen_by s.marks marks i))
      × (0 < x.seen → 0 < x.rows)
  Tells (Some p) None = (0 < p.rows) × (sees_by s marks i ≡ false)
  Tells None None = Unit

  pub tells : (q : Option Piece) → Tells q (look_by s marks i q)
  unfolding look_by
  tells None = tt
  tells (Some p) = go (eqb p.rows 0) refl (sees_by s marks i) refl
    where
      go : (z : Bool) → eqb p.rows 0 ≡ z → (b : Bool) → sees_by s marks i ≡ b
          → Tells (Some p) (cond z (Some (look 0 p.rows p.next)) (cond b (Some (look (seen_by s.marks marks i) p.rows p.next)) None))
      go true h b g = let n : p.rows ≡ 0 = eqb-true p.rows 0 h in (refl, omega arith, (λ l. absurd (omega arith)), (λ l. absurd (omega arith)))
      go false h true g = let n = eqb-false p.rows 0 h in (refl, sees-most s marks i g, (λ l. (g, refl)), (λ l. omega arith))
      go false h false g = let n = eqb-false p.rows 0 h in (omega arith, g)
