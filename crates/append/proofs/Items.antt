-- The slots of a row's item: what writing it asks, and what is written if the row is stored. Assumes nothing.
use Prim.Native.Nat.{ℕ, ◌+◌, ◌/◌, ◌^◌, ◌≤◌, ◌<◌}
use mathlib.Core.Path.{◌≡◌, refl, sym, ap, ◌∙◌}
use mathlib.Core.Bool.{Bool, true, false, cond, ◌&&◌}
use mathlib.Core.List.{List}
use lib.ListN.{length}
use Rattle.area.specs.Area.{over}
use Rattle.encode.specs.declared.Kind.{Kind}
use Rattle.encode.specs.declared.Kind.TheVariants.{Char, Blob}
use Rattle.plain.specs.Rows.{Row, bytes_in, fits}
use Rattle.plain.specs.Plain.{item_of}
use Rattle.nullable.specs.Nullable.{presence}
use Rattle.slots.specs.Slots.{ends_with, lens_with, flags_with}
use Rattle.append.specs.Asking.{Stores}

-- the row was passed on as the bits of its integer, so that it shows as another, which is the same
module _ (k : Kind) (f : Bool) (i at : ℕ) (row : Row) (is es fs ls : List ℕ) {passed : Row} (q : passed ≡ row) where
  pub write-asks : {len : ℕ} → Stores k f i at row len is es fs ls
      → (fits k passed ≡ true) × (at + len ≡ at + length (item_of k passed)) × (at + len ≤ length is) × (at + len < 2 ^ 32)
      × ((text : Bool) → k ≡ Blob text → i < length es) × ((w : ℕ) → k ≡ Char w → i < length ls) × (f ≡ true → i / 8 < length fs)
  write-asks s = (
    ap (fits k) q ∙ s.taken,
    ap (λ (n : ℕ). at + n) (s.long ∙ sym (ap (λ (x : Row). length (item_of k x)) q)),
    s.items,
    s.small,
    s.ends,
    s.lens,
    s.flags,
  )

  -- what the four areas are then
  module _ (stored : Bool) where
    abbrev pub Put : List ℕ → List ℕ → List ℕ → List ℕ → Type 0
    Put is' es' fs' ls' =
        (is' ≡ cond stored (over is at (item_of k row)) is)
        × ((es' ≡ cond stored (ends_with k i (at + length (item_of k row)) es) es)
        × ((fs' ≡ cond (stored && f) (flags_with i (presence row) fs) fs) × (ls' ≡ cond stored (lens_with k i (length (bytes_in row)) ls) ls)))

    pub kept : stored ≡ false → Put is es fs ls
    kept h = rw h (refl, (refl, (refl, refl)))

    pub put : stored ≡ true → {len : ℕ} → len ≡ length (item_of k row) → {is' es' fs' ls' : List ℕ}
        → (is' ≡ over is at (item_of k passed))
        × ((es' ≡ ends_with k i (at + len) es)
        × ((fs' ≡ cond f (flags_with i (presence passed) fs) fs) × (ls' ≡ lens_with k i (length (bytes_in passed)) ls)))
        → Put is' es' fs' ls'
    put t l w = rw t (
      w.0 ∙ ap (λ (x : Row). over is at (item_of k x)) q,
      (
        w.1.0 ∙ ap (λ (n : ℕ). ends_with k i (at + n) es) l,
        (
          w.1.1.0 ∙ ap (λ (x : Row). cond f (flags_with i (presence x) fs) fs) q,
          w.1.1.1 ∙ ap (λ (x : Row). lens_with k i (length (bytes_in x)) ls) q,
        ),
      ),
    )
