-- 01, "Sound blocks": opening gives 0 exactly for a sound block, of every kind and encoding, with any numbers and any bytes. Assumes nothing.
use Rattle.std.specs.Prelude.{Option, Some, None}
use Prim.Native.Nat.{ℕ}
use native.Mathlib.Omega.{arith}
use mathlib.Core.List.{List}
use mathlib.Core.Path.{◌≡◌, refl, sym, ap, ◌∙◌}
use Rattle.encode.specs.declared.Kind.{Kind}
use Rattle.plain.specs.Plain.{plain_number}
use Rattle.nullable.specs.Nullable.{nullable_number}
use Rattle.format.specs.declared.Encoding.{Encoding}
use Rattle.format.specs.declared.Encoding.TheVariants.{Plain, Nullable, RunLength, RunLengthNullable, Dictionary}
use Rattle.format.specs.declared.Column.{Column}
use Rattle.format.specs.Blocks.{column_of}
use Rattle.format.specs.Opening.{rules_of, column_number, open_number}
use Rattle.format.proofs.Sound.{column-sound, column-rules}
use Rattle.soundness_laws.specs.Sound.{Items, NullableItems, Parts, Sound}
use Rattle.soundness_laws.proofs.Items.{items-open, opens-items}
use Rattle.soundness_laws.proofs.Nullables.{nullables-open, opens-nullables}
use Rattle.soundness_laws.proofs.RunLengths.{runs-open, opens-runs}
use Rattle.soundness_laws.proofs.Dictionaries.{dictionary-opens, opens-dictionary}

-- ---- each encoding
parts-open : (k : Kind) (e : Encoding) (n : ℕ) (b : List ℕ) → Parts k e n b → rules_of k e n b ≡ 0
unfolding rules_of
parts-open k Plain n b s = items-open k n b s
parts-open k Nullable n b s = nullables-open k n b s
parts-open k RunLength n b s = runs-open (Items k) (plain_number k) n b (items-open k) s
parts-open k RunLengthNullable n b s = runs-open (NullableItems k) (nullable_number k) n b (nullables-open k) s
parts-open k Dictionary n b s = dictionary-opens k n b s

opens-parts : (k : Kind) (e : Encoding) (n : ℕ) (b : List ℕ) → rules_of k e n b ≡ 0 → Parts k e n b
unfolding rules_of
opens-parts k Plain n b z = opens-items k n b z
opens-parts k Nullable n b z = opens-nullables k n b z
opens-parts k RunLength n b z = opens-runs (Items k) (plain_number k) n b (opens-items k) z
opens-parts k RunLengthNullable n b z = opens-runs (NullableItems k) (nullable_number k) n b (opens-nullables k) z
opens-parts k Dictionary n b z = opens-dictionary k n b z

module _ (kind encoding width n : ℕ) (b : List ℕ) where
  -- A sound block opens.
  pub sound-opens : Sound kind encoding width n b → open_number kind encoding width n b ≡ 0
  unfolding open_number
  sound-opens s =
      ap (λ (c : Option Column). column_number c n b) s.pair
      ∙ column-rules s.of_kind s.in_encoding n b s.size s.rows
      ∙ parts-open s.of_kind s.in_encoding n b s.parts

  -- And what opens is a sound block.
  pub opens-sound : open_number kind encoding width n b ≡ 0 → Sound kind encoding width n b
  unfolding open_number column_number
  opens-sound z = by (column_of kind encoding width) refl
    where
      by : (c : Option Column) → column_of kind encoding width ≡ c → Sound kind encoding width n b
      by None e = absurd (omega (arith, ap (λ (c : Option Column). column_number c n b) (sym e) ∙ z))
      by (Some x) e =
          let w = column-sound x.kind x.encoding n b (ap (λ (c : Option Column). column_number c n b) (sym e) ∙ z) in
          record { of_kind = x.kind; in_encoding = x.encoding; pair = e; size = w.size; rows = w.most; parts = opens-parts x.kind x.encoding n b w.rules }
