-- 01, "Reading": the areas that a read is lent, and what they hold once its rows are written. Assumes nothing.
use Rattle.std.specs.Prelude.{ℕ, Bool, true, false, cond, ◌||◌, List, map, ltb, ℤ, length}
use Rattle.limits.specs.Limits.{MOST_GIVEN}
use Rattle.area.specs.Area.{over}
use Rattle.encode.specs.declared.Kind.{Kind}
use Rattle.encode.specs.declared.Kind.TheVariants.{Fixed, Char, Blob}
use Rattle.plain.specs.Rows.{Row, int_in, bytes_in}
use Rattle.plain.specs.Plain.{joined, ends_from}
use Rattle.nullable.specs.Nullable.{presence}

-- the four lent areas
pub record Areas : Type 0 where
  pub values : List ℤ
  pub flags : List ℕ
  pub ends : List ℕ
  pub bytes : List ℕ

abbrev pub areas : List ℤ → List ℕ → List ℕ → List ℕ → Areas
areas vs fs es bs = record { values = vs; flags = fs; ends = es; bytes = bs }

-- char, blob and string are bytes with ends, every other kind is one i64 a row
unfoldable pub is_bytes : Kind → Bool
is_bytes (Fixed p) = false
is_bytes (Char w) = true
is_bytes (Blob text) = true

-- lent room too short for the whole answer, or a total above 4,294,967,295
unfoldable pub short : Kind → List Row → Areas → Bool
short k rs a =
    ltb (length a.flags) (length rs)
    || cond (is_bytes k)
    (ltb (length a.ends) (length rs) || ltb (length a.bytes) (length (joined bytes_in rs)) || ltb MOST_GIVEN (length (joined bytes_in rs)))
    (ltb (length a.values) (length rs))

-- One flag byte a row, 1 if present. Ends count from the first byte that the read gives. A null writes 0 or no bytes, and flag 0. What lies behind the answer stays.
unfoldable pub filled_in : Kind → List Row → Areas → Areas
filled_in k rs a =
    cond (is_bytes k)
    (record {
      values = a.values;
      flags = over a.flags 0 (map presence rs);
      ends = over a.ends 0 (ends_from 0 (map bytes_in rs));
      bytes = over a.bytes 0 (joined bytes_in rs);
    })
    (record {
      values = over a.values 0 (map int_in rs);
      flags = over a.flags 0 (map presence rs);
      ends = a.ends;
      bytes = a.bytes;
    })

-- the bytes that are written of some rows
unfoldable pub given_bytes : Kind → List Row → ℕ
given_bytes k rs = cond (is_bytes k) (length (joined bytes_in rs)) 0
