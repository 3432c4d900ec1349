-- Nullable blocks: the parts are as the layout says exactly when no rule refuses them. Assumes nothing.
use Prim.Native.Nat.{ℕ, ◌+◌, ◌-◌}
use native.Mathlib.Omega.{arith}
use mathlib.Core.List.{List, ◌++◌, append_assoc}
use mathlib.Core.Path.{◌≡◌, refl, sym, ap, ◌∙◌}
use lib.ListN.{length, take, drop, length-append, length-drop, take-append-drop}
use lib.Seq.{take_at, drop_at, drop-drop}
use Rattle.encode.specs.Bytes.{number}
use Rattle.encode.specs.declared.Kind.{Kind}
use Rattle.plain.specs.Plain.{plain_number}
use Rattle.nullable.specs.Nullable.{bitmap_length, plain_part, bitmap_part, trailer_of, nullable_number}
use Rattle.nullable.proofs.Parts.{plain-rules, length-bitmap-part, sound}
use Rattle.soundness_laws.specs.Sound.{NullableItems}
use Rattle.soundness_laws.proofs.Items.{items-open, opens-items}

module _ (k : Kind) (n : ℕ) (b : List ℕ) where
  pub nullables-open : NullableItems k n b → nullable_number k n b ≡ 0
  unfolding trailer_of plain_part
  nullables-open s =
      let end : List ℕ = s.trailer.bytes in
      let l : length b ≡ length (s.items ++ s.bitmap) + 4 = ap length s.whole ∙ length-append (s.items ++ s.bitmap) end ∙ omega (arith, s.field) in
      let m = length-append s.items s.bitmap in
      let g = s.bits in
      let f : length (s.items ++ s.bitmap) ≡ length b - 4 = omega arith in
      let p : length s.items ≡ length b - (bitmap_length n + 4) = omega arith in
      let trailer : trailer_of b ≡ bitmap_length n
      = ap (λ (x : List ℕ). number (drop (length b - 4) x)) s.whole
      ∙ ap number (drop_at (s.items ++ s.bitmap) end (length b - 4) f) ∙ s.field.1 ∙ s.told ∙ s.bits in
      let plain : plain_part n b ≡ s.items
      = ap (take (length b - (bitmap_length n + 4))) (s.whole ∙ append_assoc s.items s.bitmap end)
      ∙ take_at s.items (s.bitmap ++ end) (length b - (bitmap_length n + 4)) p in
      sym (plain-rules k n b (omega arith) trailer) ∙ ap (plain_number k n) plain ∙ items-open k n s.items s.sound

  pub opens-nullables : nullable_number k n b ≡ 0 → NullableItems k n b
  unfolding trailer_of plain_part bitmap_part
  opens-nullables z =
      let s = sound k n b z in
      let r = s.room in
      let at : ℕ = length b - (bitmap_length n + 4) in
      let e : at + bitmap_length n ≡ length b - 4 = omega arith in
      let four : length (drop (length b - 4) b) ≡ 4 = length-drop (length b - 4) b ∙ omega arith in
      let rest : take (bitmap_length n) (drop at b) ++ drop (length b - 4) b ≡ drop at b
      = ap (λ (i : ℕ). take (bitmap_length n) (drop at b) ++ drop i b) (sym e)
      ∙ ap (λ (l : List ℕ). take (bitmap_length n) (drop at b) ++ l) (sym (drop-drop (bitmap_length n) at b))
      ∙ take-append-drop (bitmap_length n) (drop at b) in
      record {
        items = plain_part n b;
        bitmap = bitmap_part n b;
        trailer = record { value = trailer_of b; bytes = drop (length b - 4) b };
        whole =
            sym (append_assoc (plain_part n b) (bitmap_part n b) (drop (length b - 4) b)
            ∙ ap (λ (l : List ℕ). plain_part n b ++ l) rest ∙ take-append-drop at b);
        field = (four, refl);
        told = s.length-told ∙ sym (length-bitmap-part n b r);
        bits = length-bitmap-part n b r;
        sound = opens-items k n (plain_part n b) s.plain;
      }
