-- The limits of 01 and 02, by name. Assumes nothing.
use Rattle.std.specs.Prelude.{ℕ, Bool, ◌||◌, eqb}

-- rows of a block
abbrev pub MOST_ROWS : ℕ
MOST_ROWS = 281474976710655

-- stored items or runs
abbrev pub MOST_ITEMS : ℕ
MOST_ITEMS = 1048576

-- entries of a dictionary
abbrev pub MOST_ENTRIES : ℕ
MOST_ENTRIES = 65536

-- bytes of a block
abbrev pub MOST_BYTES : ℕ
MOST_BYTES = 16777216

-- rows of one run
abbrev pub MOST_COUNT : ℕ
MOST_COUNT = 4294967295

-- bytes of char, blob and string rows that one read gives
abbrev pub MOST_GIVEN : ℕ
MOST_GIVEN = 4294967295

-- bytes of the listing program's input
abbrev pub MOST_INPUT : ℕ
MOST_INPUT = 65536

-- bytes of a char item
abbrev pub MOST_WIDTH : ℕ
MOST_WIDTH = 255

-- bytes of a sheet file, and its columns
abbrev pub MOST_FILE : ℕ
MOST_FILE = 16777216

abbrev pub MOST_COLUMNS : ℕ
MOST_COLUMNS = 64

-- an encoded item of a fixed kind is one, two, four or eight bytes wide
abbrev pub is_width : ℕ → Bool
is_width w = eqb w 1 || eqb w 2 || eqb w 4 || eqb w 8
