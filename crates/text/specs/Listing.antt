-- 01, "Listing program": the whole listing of an input. No contract can say what a program writes; the program prints the texts of `row_text` and
-- these lines around them. Assumes nothing.
use Rattle.std.specs.Prelude.{ℕ, suc, ◌-◌, cond, List, [], ◌∷◌, ◌++◌, ltb, take, Result, Ok, Err, Option, Some, None}
use Rattle.encode.specs.declared.Kind.{Kind}
use Rattle.plain.specs.Rows.{Row}
use Rattle.format.specs.declared.Column.{Column}
use Rattle.format.specs.Blocks.{column_of}
use Rattle.format.specs.Opening.{rows_of}
use Rattle.block.specs.declared.Reader.{Reader}
use Rattle.text.specs.Input.{input_opened, block_in}
use Rattle.text.specs.Text.{decimal, row_text}

-- ---- the words, in ASCII
abbrev pub rows_word : List ℕ
rows_word = 114 ∷ (111 ∷ (119 ∷ (115 ∷ [])))

abbrev pub more_word : List ℕ
more_word = 109 ∷ (111 ∷ (114 ∷ (101 ∷ [])))

abbrev pub end_word : List ℕ
end_word = 101 ∷ (110 ∷ (100 ∷ []))

abbrev pub refused_word : List ℕ
refused_word = 114 ∷ (101 ∷ (102 ∷ (117 ∷ (115 ∷ (101 ∷ (100 ∷ []))))))

-- ---- the lines: two texts with a space (32) between them, and the line's end (10)
unfoldable pub line_of : List ℕ → List ℕ → List ℕ
line_of a b = a ++ (32 ∷ b) ++ (10 ∷ [])

-- the rows' lines, counted from i
unfoldable pub row_lines : Kind → ℕ → List Row → List ℕ
row_lines k i [] = []
row_lines k i (r ∷ rs) = line_of (decimal i) (row_text k r) ++ row_lines k (suc i) rs

-- at most 1,000 rows, then `more K` if K rows above 0 are left
unfoldable pub more_line : ℕ → List ℕ
more_line n = cond (ltb 1000 n) (line_of more_word (decimal (n - 1000))) []

unfoldable pub sound_listing : Option Column → ℕ → List ℕ → List ℕ
sound_listing None n b = []
sound_listing (Some c) n b =
    line_of rows_word (decimal n) ++ row_lines c.kind 0 (take 1000 (rows_of c.kind c.encoding n b)) ++ more_line n ++ (end_word ++ (10 ∷ []))

unfoldable pub listing_by : Result Reader ℕ → List ℕ → List ℕ
listing_by (Ok r) b = sound_listing (column_of r.kind r.encoding r.width) r.rows b
listing_by (Err e) b = line_of refused_word (decimal e)

unfoldable pub listing_of : List ℕ → List ℕ
listing_of s = listing_by (input_opened s) (block_in s)
