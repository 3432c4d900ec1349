-- Rows, as they are given to a builder and as a reader hands them out. Assumes nothing.
use Rattle.std.specs.Prelude.{ℕ, Bool, true, false, cond, not, ◌&&◌, ◌||◌, List, [], ◌∷◌, leb, eqb, ℤ, pos, negsuc, ◌+ℤ◌, ◌*ℤ◌, length}
use Rattle.std.specs.Int.{w32}
use Rattle.std.proofs.Common.{of_z}
use Rattle.encode.specs.declared.Kind.{Kind}
use Rattle.encode.specs.declared.Kind.TheVariants.{Fixed, Char, Blob}
use Rattle.encode.specs.Kinds.{default_value, takes}
use Rattle.utf8.specs.Utf8.{is_text}

-- null; an integer, for the fixed kinds; bytes, for char, blob and string
pub data Row : Type 0 where
  null : Row
  int : ℤ → Row
  bytes : List ℕ → Row

-- the row that is given: of a null the value isn't read, a fixed kind has an integer, char, blob and string have bytes
unfoldable pub value_of : Kind → ℤ → List ℕ → Row
value_of (Fixed p) v bs = int v
value_of (Char w) v bs = bytes bs
value_of (Blob text) v bs = bytes bs

unfoldable pub row_of : Kind → Bool → ℤ → List ℕ → Row
row_of k present v bs = cond present (value_of k v bs) null

-- an Interval's integer: months times 2^32 plus days modulo 2^32
abbrev pub interval : ℤ → ℤ → ℤ
interval months days = (months *ℤ pos 4294967296) +ℤ pos (of_z w32 days)

-- what a plain block stores of a row: of a null, the default, which is 0 or false, and empty for char, blob and string
unfoldable pub int_in : Row → ℤ
int_in null = default_value
int_in (int v) = v
int_in (bytes bs) = default_value

unfoldable pub bytes_in : Row → List ℕ
bytes_in null = []
bytes_in (int v) = []
bytes_in (bytes bs) = bs

-- whether the kind takes the row: an integer in the kind, a char item no longer than the width, a char or string item that is text; otherwise
-- refusal 2
unfoldable pub fits : Kind → Row → Bool
fits (Fixed p) null = true
fits (Fixed p) (int v) = takes p v
fits (Fixed p) (bytes bs) = false
fits (Char w) null = true
fits (Char w) (int v) = false
fits (Char w) (bytes bs) = leb (length bs) w && is_text bs
fits (Blob text) null = true
fits (Blob text) (int v) = false
fits (Blob text) (bytes bs) = not text || is_text bs

-- whether two rows are equal as given: a null only to a null, integers by value, bytes by length and bytes
unfoldable pub same_int : ℤ → ℤ → Bool
same_int (pos m) (pos n) = eqb m n
same_int (pos m) (negsuc n) = false
same_int (negsuc m) (pos n) = false
same_int (negsuc m) (negsuc n) = eqb m n

unfoldable pub same_bytes : List ℕ → List ℕ → Bool
same_bytes [] [] = true
same_bytes [] (b ∷ t) = false
same_bytes (a ∷ s) [] = false
same_bytes (a ∷ s) (b ∷ t) = eqb a b && same_bytes s t

unfoldable pub same : Row → Row → Bool
same null null = true
same null (int v) = false
same null (bytes bs) = false
same (int u) null = false
same (int u) (int v) = same_int u v
same (int u) (bytes bs) = false
same (bytes as') null = false
same (bytes as') (int v) = false
same (bytes as') (bytes bs) = same_bytes as' bs
