-- 01, "Kinds and encodings", "Layouts" and "Stored form", for every pair of a kind and an encoding. Assumes nothing.
use Rattle.std.specs.Prelude.{ℕ, cond, List, map, eqb, Option, Some, None}
use Rattle.encode.specs.declared.Kind.{Kind}
use Rattle.encode.specs.declared.Kind.TheVariants.{Fixed, Char, Blob}
use Rattle.encode.specs.Kinds.{kind_of}
use Rattle.plain.specs.Rows.{Row, null, int, bytes, int_in, bytes_in}
use Rattle.plain.specs.Plain.{plain_of, before_nul}
use Rattle.nullable.specs.Nullable.{nullable_of}
use Rattle.rle.specs.RunLength.{run_length_of}
use Rattle.dict.specs.Dictionary.{dictionary_of}
use Rattle.format.specs.declared.Encoding.{Encoding}
use Rattle.format.specs.declared.Encoding.TheVariants.{Plain, Nullable, RunLength, RunLengthNullable, Dictionary}
use Rattle.format.specs.declared.Column.{Column}

-- ---- the pairs by number: every kind goes with every encoding
abbrev pub column : Kind → Encoding → Column
column k e = record { kind = k; encoding = e }

unfoldable pub with_encoding : Option Kind → ℕ → Option Column
with_encoding None e = None
with_encoding (Some k) e =
    cond (eqb e 0) (Some (column k Plain))
    (cond (eqb e 1) (Some (column k Nullable))
    (cond (eqb e 2) (Some (column k RunLength))
    (cond (eqb e 3) (Some (column k RunLengthNullable))
    (cond (eqb e 4) (Some (column k Dictionary)) None))))

-- the encoding alone
unfoldable pub encoding_of : ℕ → Option Encoding
encoding_of e =
    cond (eqb e 0) (Some Plain)
    (cond (eqb e 1) (Some Nullable)
    (cond (eqb e 2) (Some RunLength)
    (cond (eqb e 3) (Some RunLengthNullable)
    (cond (eqb e 4) (Some Dictionary) None))))

unfoldable pub column_of : ℕ → ℕ → ℕ → Option Column
column_of kind encoding width = with_encoding (kind_of kind width) encoding

-- ---- the block of a list of rows
unfoldable pub block_of : Kind → Encoding → List Row → List ℕ
block_of k Plain rows = plain_of k rows
block_of k Nullable rows = nullable_of k rows
block_of k RunLength rows = run_length_of (plain_of k) rows
block_of k RunLengthNullable rows = run_length_of (nullable_of k) rows
block_of k Dictionary rows = dictionary_of k rows

-- ---- the stored form
-- char is cut at its first NUL
unfoldable pub cut : Kind → Row → Row
cut (Fixed p) r = r
cut (Char w) null = null
cut (Char w) (int v) = int v
cut (Char w) (bytes bs) = bytes (before_nul bs)
cut (Blob text) r = r

-- null becomes the default, empty for char, blob and string
unfoldable pub filled : Kind → Row → Row
filled (Fixed p) r = int (int_in r)
filled (Char w) r = bytes (bytes_in r)
filled (Blob text) r = bytes (bytes_in r)

-- encodings 0 and 2 keep no nulls
unfoldable pub stored_row : Kind → Encoding → Row → Row
stored_row k Plain r = cut k (filled k r)
stored_row k Nullable r = cut k r
stored_row k RunLength r = cut k (filled k r)
stored_row k RunLengthNullable r = cut k r
stored_row k Dictionary r = cut k r

unfoldable pub stored_form : Kind → Encoding → List Row → List Row
stored_form k e rows = map (stored_row k e) rows
