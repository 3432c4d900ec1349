-- The rows of our blocks, in 01's words. Assumes nothing.
use Prim.Native.Nat.{ℕ}
use mathlib.Core.Bool.{Bool, true, false, cond}
use mathlib.Core.List.{List, [], ◌∷◌, map, map-map}
use mathlib.Core.Path.{◌≡◌, refl, sym, ap, ◌∙◌}
use lib.ListN.{length}
use Rattle.encode.specs.declared.Kind.{Kind}
use Rattle.encode.specs.declared.Kind.TheVariants.{Fixed, Char, Blob}
use Rattle.plain.specs.Rows.{Row}
use Rattle.format.specs.declared.Encoding.{Encoding}
use Rattle.format.specs.declared.Encoding.TheVariants.{Plain, Nullable, RunLength, RunLengthNullable, Dictionary}
use Rattle.format.specs.Blocks.{block_of, cut, filled, stored_row, stored_form}
use Rattle.format.specs.Opening.{rows_of}
use Rattle.format.specs.Sizes.{accepted}
use Rattle.block_laws.specs.Words.{fills_nulls, come_back}
use Rattle.block_laws.proofs.Blocks.{our-blocks-hold}

in_words : (k : Kind) (e : Encoding) (rows : List Row) → stored_form k e rows ≡ come_back k e rows
unfolding stored_form stored_row come_back fills_nulls
in_words k Plain rows = sym (map-map (cut k) (filled k) rows)
in_words k Nullable rows = refl
in_words k RunLength rows = sym (map-map (cut k) (filled k) rows)
in_words k RunLengthNullable rows = refl
in_words k Dictionary rows = refl

-- Null becomes the default in encodings 0 and 2, and char is cut at its first NUL.
pub rows-come-back : (k : Kind) (e : Encoding) (rows : List Row) → accepted k e rows ≡ true → rows_of k e (length rows) (block_of k e rows) ≡ come_back k e rows
rows-come-back k e rows a = our-blocks-hold k e rows a ∙ in_words k e rows

-- Otherwise the row is unchanged: of every kind but char, encodings 1, 3 and 4 give back the very rows, nulls among them.
uncut : (k : Kind) → ((w : ℕ) → k ≡ Char w → ⊥) → (r : Row) → cut k r ≡ r
unfolding cut
uncut (Fixed p) other r = refl
uncut (Char w) other r = absurd (other w refl)
uncut (Blob text) other r = refl

all-uncut : (k : Kind) → ((w : ℕ) → k ≡ Char w → ⊥) → (rows : List Row) → map (cut k) rows ≡ rows
all-uncut k other [] = refl
all-uncut k other (r ∷ rows) = ap (λ (x : Row). x ∷ map (cut k) rows) (uncut k other r) ∙ ap (λ (l : List Row). r ∷ l) (all-uncut k other rows)

pub rows-unchanged :
    (k : Kind) (e : Encoding) (rows : List Row) → ((w : ℕ) → k ≡ Char w → ⊥) → fills_nulls e ≡ false → accepted k e rows ≡ true
    → rows_of k e (length rows) (block_of k e rows) ≡ rows
unfolding come_back
rows-unchanged k e rows other keeps a =
    rows-come-back k e rows a
    ∙ ap (λ (t : Bool). map (cut k) (cond t (map (filled k) rows) rows)) keeps
    ∙ all-uncut k other rows
