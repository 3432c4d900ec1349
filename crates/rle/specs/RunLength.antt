-- Run-length blocks over an inner block, plain or nullable. Assumes nothing.
use Rattle.std.specs.Prelude.{ℕ, zero, suc, Option, Some, None, Result, Ok, Err, ◌+◌, cond, not, ◌&&◌, List, [], ◌∷◌, ◌++◌, map, ltb, eqb, length, take, drop, replicate}
use Rattle.encode.specs.Bytes.{little, number}
use Rattle.limits.specs.Limits.{MOST_ITEMS, MOST_COUNT}
use Rattle.limits.specs.Refusals.{COUNTS, CUT, LIMIT, SUM, VARINT}
use Rattle.varint.specs.declared.Count.{Count}
use Rattle.varint.specs.Varint.{count_of, spelling}
use Rattle.plain.specs.Rows.{Row, same}
use Rattle.plain.specs.Rules.{◌if◌, first_of}
use Rattle.plain.specs.Plain.{joined}

-- ---- the runs of a list of rows
pub record Run : Type 0 where
  pub row : Row
  pub count : ℕ

abbrev pub run : Row → ℕ → Run
run r n = record { row = r; count = n }

-- a row joins the run if it equals the row before, as given, and the run is below 4,294,967,295
unfoldable pub runs_from : Row → ℕ → List Row → List Run
runs_from r n [] = run r n ∷ []
runs_from r n (x ∷ xs) = cond (same r x && ltb n MOST_COUNT) (runs_from r (n + 1) xs) (run r n ∷ runs_from x 1 xs)

unfoldable pub runs_of : List Row → List Run
runs_of [] = []
runs_of (x ∷ xs) = runs_from x 1 xs

-- ---- the bytes: the number of runs, the byte length of the counts, the counts, then the inner block with one item a run. Zero rows give zero bytes.
unfoldable pub counts_of : List Run → List ℕ
counts_of runs = joined (λ r. spelling r.count) runs

unfoldable pub run_length_of : (List Row → List ℕ) → List Row → List ℕ
run_length_of inner [] = []
run_length_of inner (x ∷ xs) =
    little 4 (length (runs_of (x ∷ xs)))
    ++ little 4 (length (counts_of (runs_of (x ∷ xs))))
    ++ counts_of (runs_of (x ∷ xs))
    ++ inner (map (λ r. r.row) (runs_of (x ∷ xs)))

-- ---- the parts of a block: the numbers at its head; the counts, so many bytes long, and the inner block behind them
unfoldable pub runs_in : List ℕ → ℕ
runs_in b = number (take 4 b)

unfoldable pub counts_length : List ℕ → ℕ
counts_length b = number (take 4 (drop 4 b))

unfoldable pub counts_part : ℕ → List ℕ → List ℕ
counts_part len b = take len (drop 8 b)

unfoldable pub inner_part : ℕ → List ℕ → List ℕ
inner_part len b = drop (8 + len) b

-- ---- the walk over the counts
-- a count before what the rest comes to
unfoldable pub plus : ℕ → Result ℕ ℕ → Result ℕ ℕ
plus v (Ok t) = Ok (v + t)
plus v (Err e) = Err e

-- a bad varint is 12: cut, longer than needed, or with a fifth byte above 0x0F; a count of 0 is 13; else the walk goes on behind it
unfoldable pub walked_past : Option Count → (ℕ → Result ℕ ℕ) → Result ℕ ℕ
walked_past None rest = Err VARINT
walked_past (Some c) rest = cond (eqb c.value 0) (Err COUNTS) (plus c.value (rest c.len))

-- bytes used up before the last run, and bytes left after it, are 13
unfoldable pub walked : ℕ → List ℕ → Result ℕ ℕ
walked zero [] = Ok 0
walked zero (b ∷ s) = Err COUNTS
walked (suc runs) [] = Err COUNTS
walked (suc runs) (b ∷ s) = walked_past (count_of (b ∷ s)) (λ len. walked runs (drop len (b ∷ s)))

-- sum not n
unfoldable pub walk_number : ℕ → Result ℕ ℕ → ℕ
walk_number n (Ok t) = SUM if not (eqb t n)
walk_number n (Err e) = e

-- ---- the rules: no bytes is sound for n = 0, else 16; then in this order, and last the inner rules with one item a run
unfoldable pub run_length_number : (ℕ → List ℕ → ℕ) → ℕ → List ℕ → ℕ
run_length_number inner n b =
    cond (eqb (length b) 0) (SUM if not (eqb n 0))
    (first_of (
    CUT if ltb (length b) 8
    ∷ LIMIT if ltb MOST_ITEMS (runs_in b)
    ∷ COUNTS if eqb (runs_in b) 0
    ∷ CUT if ltb (length b) (8 + counts_length b)
    ∷ walk_number n (walked (runs_in b) (counts_part (counts_length b) b))
    ∷ inner (runs_in b) (inner_part (counts_length b) b)
    ∷ []))

-- ---- the rows: of each the run that it lies in
-- run i as often as its count says
unfoldable pub as_often : Option Count → ℕ → (ℕ → List ℕ) → List ℕ
as_often None i rest = []
as_often (Some c) i rest = replicate c.value i ++ rest c.len

-- so many runs from run i on, whose counts begin the list
unfoldable pub run_numbers : ℕ → ℕ → List ℕ → List ℕ
run_numbers zero i s = []
run_numbers (suc runs) i s = as_often (count_of s) i (λ len. run_numbers runs (suc i) (drop len s))
