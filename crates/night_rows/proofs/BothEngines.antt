-- Both engines give row r of a sound block alike, into the same lent memory. Assumes nothing.
use Prim.Native.Nat.{ℕ, ◌<◌}
use mathlib.Core.Bool.{Bool, true}
use mathlib.Core.List.{List}
use mathlib.Core.Path.{◌≡◌, sym, ap, ◌∙◌}
use lib.IntN.{ℤ}
use Rattle.fill.specs.Areas.{Areas, areas}
use Rattle.block.specs.declared.Reader.{Reader}
use Rattle.block.specs.declared.Given.{Given}
use Rattle.block.specs.Reading.{Batch, read}
use Rattle.descriptor.specs.declared.Descriptor.{Descriptor}
use Rattle.slow_answer.specs.declared.RowGiven.{RowGiven}
use Rattle.slow_answer.specs.Slow.{Shown, refused_row, row_shown}
use Rattle.slow_laws.specs.Agreeing.{behind}
use Rattle.slow_laws.proofs.Agreeing.{slow-agrees}
use Rattle.night_rows.specs.Night.{Tells, Sound}
use Rattle.night_rows.proofs.Lent.{Alike}

-- the four areas as a read leaves them
pub areas-read :
    (x : Areas) {v : List ℤ} {f e m : List ℕ} → (v ≡ x.values) × ((f ≡ x.flags) × ((e ≡ x.ends) × (m ≡ x.bytes))) → areas v f e m ≡ x
areas-read x h = rw (h.0, h.1.0, h.1.1.0, h.1.1.1)

module _ {reader : Reader} {d : Descriptor} {b : List ℕ} (s : Sound reader d b) {r : ℕ} (there : r < d.rows) {a a' : Areas} (lent : a ≡ a') where
  read-fresh : read reader b r 1 a ≡ behind d b r a'
  read-fresh = ap (λ (x : Reader). read x b r 1 a) s.opened ∙ ap (λ (x : Areas). behind d b r x) lent

  module _ {x : Given} {y : RowGiven} {given shown : Areas}
      (x-is : x ≡ (read reader b r 1 a).answer) (given_is : given ≡ (read reader b r 1 a).areas)
      (y-is : y ≡ (row_shown d b r a').answer) (shown-is : shown ≡ (row_shown d b r a').areas) where
    alike : Alike x.number x.bytes y given shown
    alike =
        let agrees = slow-agrees d b r a' s.sound there in (
          ap (λ (g : Given). g.number) x-is
              ∙ ap (λ (g : Batch). g.answer.number) read-fresh
              ∙ sym agrees.0
              ∙ ap (λ (g : RowGiven). g.number) (sym y-is),
          ap (λ (g : Given). g.bytes) x-is
              ∙ ap (λ (g : Batch). g.answer.bytes) read-fresh
              ∙ sym agrees.1
              ∙ ap (λ (g : RowGiven). g.bytes) (sym y-is),
          given_is ∙ ap (λ (g : Batch). g.areas) read-fresh ∙ sym agrees.2 ∙ sym shown-is,
        )

    pub rows_alike : {t : Bool} → Tells t (Alike x.number x.bytes y given shown) → t ≡ true
    rows_alike told = told.0 alike

-- the second engine refuses, as it is due
pub refused-alike :
    {number : ℕ} {s : Shown} {x y : Areas} → s ≡ refused_row number y → x ≡ y → {shown : RowGiven} {after : Areas}
    → shown ≡ s.answer → after ≡ s.areas → {t : Bool} → Tells t (Alike number 0 shown x after) → t ≡ true
refused-alike q l p e told =
    told.0 (
      sym (ap (λ (g : RowGiven). g.number) p ∙ ap (λ (z : Shown). z.answer.number) q),
      sym (ap (λ (g : RowGiven). g.bytes) p ∙ ap (λ (z : Shown). z.answer.bytes) q),
      l ∙ sym (e ∙ ap (λ (z : Shown). z.areas) q),
    )
