-- A row that was read of a dictionary block is its own stored form, whichever slot it is of. Assumes nothing.
use Prim.Native.Nat.{ℕ, zero, suc, ◌*◌}
use mathlib.Core.List.{List}
use mathlib.Core.Path.{◌≡◌, refl, ap}
use lib.ListN.{take, drop}
use Rattle.encode.specs.declared.Kind.{Kind}
use Rattle.encode.specs.declared.Kind.TheVariants.{Fixed, Char, Blob}
use Rattle.plain.specs.Rows.{null, bytes, bytes_in}
use Rattle.plain.specs.Plain.{char_at, plain_row}
use Rattle.dict.specs.Dictionary.{entry_row}
use Rattle.format.specs.declared.Encoding.TheVariants.{Dictionary}
use Rattle.format.specs.Blocks.{cut, stored_row}
use Rattle.format.proofs.Forms.{no-nul-stored}

null-own : (k : Kind) → cut k null ≡ null
unfolding cut
null-own (Fixed p) = refl
null-own (Char w) = refl
null-own (Blob text) = refl

-- a char was cut when it was read
plain-own : (k : Kind) (n : ℕ) (s : List ℕ) (i : ℕ) → cut k (plain_row k n s i) ≡ plain_row k n s i
unfolding cut plain_row char_at stored_row bytes_in
plain-own (Fixed p) n s i = refl
plain-own (Char w) n s i = ap bytes (no-nul-stored w Dictionary (bytes (take w (drop (i * w) s))))
plain-own (Blob text) n s i = refl

pub entry-own : (k : Kind) (entries : ℕ) (items : List ℕ) (slot : ℕ) → cut k (entry_row k entries items slot) ≡ entry_row k entries items slot
unfolding entry_row
entry-own k entries items zero = null-own k
entry-own k entries items (suc e) = plain-own k entries items e
