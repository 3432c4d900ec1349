-- 01, "Stored form", sentence by sentence, of the rows that come back from a block. Assumes nothing.
use Rattle.std.specs.Prelude.{Bool, true, false, cond, List, map}
use Rattle.encode.specs.declared.Kind.{Kind}
use Rattle.plain.specs.Rows.{Row}
use Rattle.format.specs.declared.Encoding.{Encoding}
use Rattle.format.specs.declared.Encoding.TheVariants.{Plain, Nullable, RunLength, RunLengthNullable, Dictionary}
use Rattle.format.specs.Blocks.{cut, filled}

-- "In encodings 0 and 2 null becomes the default"
unfoldable pub fills_nulls : Encoding → Bool
fills_nulls Plain = true
fills_nulls Nullable = false
fills_nulls RunLength = true
fills_nulls RunLengthNullable = false
fills_nulls Dictionary = false

-- "Char is cut at its first NUL", and otherwise the row is unchanged
unfoldable pub come_back : Kind → Encoding → List Row → List Row
come_back k e rows = map (cut k) (cond (fills_nulls e) (map (filled k) rows) rows)
