-- The promises of opening, read and remaining on a view, and of opening and reading in one call, say each part of the answer: two answers that satisfy one
-- coincide. Assumes nothing.
use Prim.Native.Nat.{ℕ}
use mathlib.Core.List.{List}
use mathlib.Core.Path.{◌≡◌, sym, ◌∙◌}
use denote.Ref.{Bor}
use Rattle.block.specs.declared.Reader.{Reader}
use Rattle.block.specs.declared.Given.{Given}
use Rattle.block.specs.Reading.{Areas}
use Rattle.block.proofs.Coincide.{same-areas}
use Rattle.view.specs.declared.Viewed.{Viewed}
use Rattle.view.specs.declared.Taken.{Taken}
use Rattle.view.specs.declared.Unread.{Unread}
use Rattle.view.specs.Viewing.{Reads}

module _ (n : ℕ) (b : Bor (List ℕ)) (x : Reader) where
  abbrev Said : Viewed → Type 0
  Said r = (r.number ≡ n) × (r.view.block ≡ b) × (r.view.reader ≡ x)

  whole : (r : Viewed) → Said r → r ≡ record { number = n; view = record { block = b; reader = x } }
  whole r p = λ i. record { number = p.0 i; view = record { block = p.1 i; reader = p.2 i } }

  pub one-viewed : (r s : Viewed) → Said r → Said s → r ≡ s
  one-viewed r s p q = whole r p ∙ sym (whole s q)

  module _ (m : ℕ) where
    abbrev Told : Unread → Type 0
    Told r = (r.number ≡ n) × (r.rows ≡ m) × (r.view.block ≡ b) × (r.view.reader ≡ x)

    whole-unread : (r : Unread) → Told r → r ≡ record { number = n; rows = m; view = record { block = b; reader = x } }
    whole-unread r p = λ i. record { number = p.0 i; rows = p.1 i; view = record { block = p.2 i; reader = p.3 i } }

    pub one-unread : (r s : Unread) → Told r → Told s → r ≡ s
    one-unread r s p q = whole-unread r p ∙ sym (whole-unread s q)

  module _ (m k : ℕ) where
    abbrev Gave : Taken → Type 0
    Gave r = (r.number ≡ n) × (r.rows ≡ m) × (r.bytes ≡ k) × (r.view.block ≡ b) × (r.view.reader ≡ x)

    whole-taken : (r : Taken) → Gave r → r ≡ record { number = n; rows = m; bytes = k; view = record { block = b; reader = x } }
    whole-taken r p = λ i. record { number = p.0 i; rows = p.1 i; bytes = p.2 i; view = record { block = p.3 i; reader = p.4 i } }

    pub one-taken : (r s : Taken) → Gave r → Gave s → r ≡ s
    one-taken r s p q = whole-taken r p ∙ sym (whole-taken s q)

-- ---- opening and reading in one call: the answer and the four areas
pub one-read : (kind encoding width rows : ℕ) (block : List ℕ) (skip size : ℕ) (lent : Areas) (x y : Given) (a b : Areas)
    → Reads kind encoding width rows block skip size lent x a → Reads kind encoding width rows block skip size lent y b → (x ≡ y) × (a ≡ b)
one-read kind encoding width rows block skip size lent x y a b p q =
    (p.0 ∙ sym q.0, same-areas a b (p.1 ∙ sym q.1) (p.2 ∙ sym q.2) (p.3 ∙ sym q.3) (p.4 ∙ sym q.4))
