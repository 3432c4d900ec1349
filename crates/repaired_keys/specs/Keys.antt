-- For the code: the keys of some rows, one a run. Assumes nothing.
use Rattle.std.specs.Prelude.{ℕ, suc, ◌<◌, List, map, ◌≡◌, length, get_or}
use Rattle.plain.specs.Rows.{Row, null, int, bytes}
use Rattle.plain.specs.Plain.{plain_of}
use Rattle.rle.specs.RunLength.{Run, runs_of}
use Rattle.dict.specs.Dictionary.{i32, index_of, entries_of, key_of}

-- no two entries read the same: each is the first of its like
abbrev pub Apart : List Row → Type 0
Apart es = (i : ℕ) → i < length es → index_of (get_or es i null) es ≡ i

-- what a key counts from null's: 0 for null, else the place of the entry, from 1 on
unfoldable pub key_slot : List Row → Row → ℕ
key_slot es null = 0
key_slot es (int v) = suc (index_of (int v) es)
key_slot es (bytes bs) = suc (index_of (bytes bs) es)

-- the keys as a plain block
unfoldable pub key_bytes : List Row → List ℕ
key_bytes rows = plain_of i32 (map (λ (r : Run). key_of (entries_of rows) r.row) (runs_of rows))
