-- For the code: where the parts of a block lie, by its rows `n`, its length `len` and the numbers `h` at its head. Assumes nothing.
use Rattle.std.specs.Prelude.{ℕ, ◌+◌, ◌-◌, ◌≤◌, ◌≡◌, Bool, true, false, cond, List, take, drop}
use Rattle.limits.specs.Limits.{MOST_BYTES}
use Rattle.encode.specs.declared.Kind.{Kind}
use Rattle.nullable.specs.Nullable.{bitmap_length}
use Rattle.source.specs.declared.Marks.{Marks}
use Rattle.source.specs.declared.Marks.TheVariants.{Bare, Bits, Keys}
use Rattle.source.specs.declared.Source.{Source}
use Rattle.format.specs.declared.Encoding.{Encoding}
use Rattle.format.specs.declared.Encoding.TheVariants.{Plain, Nullable, RunLength, RunLengthNullable, Dictionary}
use Rattle.format.specs.declared.Head.{Head}
use Rattle.format.specs.Opening.{most_rows}
use Rattle.anatomy.specs.declared.Part.{Part}
use Rattle.anatomy.specs.declared.Parts.{Parts}
use Rattle.anatomy.specs.Tests.{no_runs, part_outside, head_wrong}

abbrev pub part : ℕ → ℕ → Part
part from to = record { from = from; to = to }

abbrev pub source : Kind → Marks → ℕ → ℕ → Bool → Source
source k m items runs coded = record { kind = k; marks = m; items = items; runs = runs; coded = coded }

abbrev pub apart : Source → Part → Part → Part → Parts
apart s c m i = record { source = s; counts = c; marks = m; items = i }

-- ---- by the encoding
unfoldable pub plain_parts : Kind → ℕ → ℕ → Parts
plain_parts k n len = apart (source k Bare n 0 false) (part 0 0) (part 0 0) (part 0 len)

-- where the bitmap of so many bits begins, in a part that ends at `len`
abbrev pub bits_at : ℕ → ℕ → ℕ
bits_at n len = len - (bitmap_length n + 4)

unfoldable pub nullable_parts : Kind → ℕ → ℕ → Parts
nullable_parts k n len =
    apart (source k Bits n 0 false) (part 0 0) (part (bits_at n len) (bits_at n len + bitmap_length n)) (part 0 (bits_at n len))

unfoldable pub run_parts : Kind → ℕ → Head → Parts
run_parts k len h =
    cond (no_runs h)
    (apart (source k Bare h.runs h.runs true) (part 0 0) (part 0 0) (part 0 0))
    (apart (source k Bare h.runs h.runs true) (part 8 (8 + h.counts)) (part 0 0) (part (8 + h.counts) len))

unfoldable pub null_run_parts : Kind → ℕ → Head → Parts
null_run_parts k len h =
    cond (no_runs h)
    (apart (source k Bits h.runs h.runs true) (part 0 0) (part 0 0) (part 0 0))
    (apart (source k Bits h.runs h.runs true) (part 8 (8 + h.counts))
    (part (bits_at h.runs len) (bits_at h.runs len + bitmap_length h.runs))
    (part (8 + h.counts) (bits_at h.runs len)))

unfoldable pub key_parts : Kind → ℕ → Head → Parts
key_parts k len h =
    cond (no_runs h)
    (apart (source k Keys h.entries h.runs true) (part 0 0) (part 0 0) (part (12 + h.keys) len))
    (apart (source k Keys h.entries h.runs true) (part 20 (20 + h.counts)) (part (20 + h.counts) (12 + h.keys))
    (part (12 + h.keys) len))

unfoldable pub parts_of : Kind → Encoding → ℕ → ℕ → Head → Parts
parts_of k Plain n len h = plain_parts k n len
parts_of k Nullable n len h = nullable_parts k n len
parts_of k RunLength n len h = run_parts k len h
parts_of k RunLengthNullable n len h = null_run_parts k len h
parts_of k Dictionary n len h = key_parts k len h

-- no test refuses these numbers
pub record Right (k : Kind) (e : Encoding) (n len : ℕ) (h : Head) (run : ℕ) : Type 0 where
  pub size : len ≤ MOST_BYTES
  pub rows : n ≤ most_rows e
  pub head : head_wrong e h run ≡ false
  pub parts : part_outside k e n len h ≡ false

-- ---- a part of a block
unfoldable pub part_in : Part → List ℕ → List ℕ
part_in p b = take (p.to - p.from) (drop p.from b)

abbrev pub marks_in : Parts → List ℕ → List ℕ
marks_in p b = part_in p.marks b

abbrev pub items_in : Parts → List ℕ → List ℕ
items_in p b = part_in p.items b

-- each part lies in a block of so many bytes
pub record Within (p : Part) (len : ℕ) : Type 0 where
  pub order : p.from ≤ p.to
  pub inside : p.to ≤ len

pub record AllWithin (p : Parts) (len : ℕ) : Type 0 where
  pub counts : Within p.counts len
  pub marks : Within p.marks len
  pub items : Within p.items len
