-- The refusal numbers of 01 and 02, by name; 0 is done. Assumes nothing.
use Rattle.std.specs.Prelude.{ℕ, Result, Ok, Err}
use Rattle.limits.specs.declared.refusal.Refusal.{Refusal}

-- kind, encoding or width not as 01 has them
abbrev pub COLUMN : ℕ
COLUMN = 1

-- an appended char item longer than the width, a char or string item that isn't text, or an integer outside its kind
abbrev pub ITEM : ℕ
ITEM = 2

-- a limit is passed
abbrev pub LIMIT : ℕ
LIMIT = 3

-- lent room too short for the whole answer
abbrev pub ROOM : ℕ
ROOM = 4

-- nothing asked for: a read that passes over no rows and gives none
abbrev pub NO_ROWS : ℕ
NO_ROWS = 6

-- more rows to pass over than remain
abbrev pub TOO_FAR : ℕ
TOO_FAR = 7

-- state and lent memory disagree
abbrev pub DISAGREE : ℕ
DISAGREE = 9

-- the block is cut
abbrev pub CUT : ℕ
CUT = 10

-- a length is wrong
abbrev pub LENGTH : ℕ
LENGTH = 11

-- a run count is cut, too large or longer than needed
abbrev pub VARINT : ℕ
VARINT = 12

-- a run count is 0, or the counts don't fill their section
abbrev pub COUNTS : ℕ
COUNTS = 13

-- a blob end falls or passes the data
abbrev pub ENDS : ℕ
ENDS = 14

-- a dictionary key names no entry
abbrev pub KEY : ℕ
KEY = 15

-- the run counts don't add up to the rows
abbrev pub SUM : ℕ
SUM = 16

-- a stored char or string item isn't text
abbrev pub TEXT : ℕ
TEXT = 17

-- a sheet file has no such column
abbrev pub NO_COLUMN : ℕ
NO_COLUMN = 20

-- a sheet file is empty, names more than 64 columns or ends in its directory
abbrev pub SHEET : ℕ
SHEET = 21

-- a column's block begins in the directory or ends behind the file
abbrev pub OUTSIDE : ℕ
OUTSIDE = 22

-- kinds or widths of two blocks that are compared differ
abbrev pub UNLIKE : ℕ
UNLIKE = 25

-- the number of a refusal
abbrev pub refusal_number : Refusal → ℕ
refusal_number Refusal.Column = COLUMN
refusal_number Refusal.Item = ITEM
refusal_number Refusal.Limit = LIMIT
refusal_number Refusal.Room = ROOM
refusal_number Refusal.NoRows = NO_ROWS
refusal_number Refusal.TooFar = TOO_FAR
refusal_number Refusal.Disagree = DISAGREE
refusal_number Refusal.Cut = CUT
refusal_number Refusal.Length = LENGTH
refusal_number Refusal.Varint = VARINT
refusal_number Refusal.Counts = COUNTS
refusal_number Refusal.Ends = ENDS
refusal_number Refusal.Key = KEY
refusal_number Refusal.Sum = SUM
refusal_number Refusal.Text = TEXT
refusal_number Refusal.NoColumn = NO_COLUMN
refusal_number Refusal.Sheet = SHEET
refusal_number Refusal.Outside = OUTSIDE
refusal_number Refusal.Unlike = UNLIKE

-- the number of an outcome: that of its refusal, or 0
abbrev pub number_in : {A : Type 0} → Result A Refusal → ℕ
number_in (Ok x) = 0
number_in (Err e) = refusal_number e

-- an outcome with the number in place of the refusal
abbrev pub by_number : {A : Type 0} → Result A Refusal → Result A ℕ
by_number (Ok x) = Ok x
by_number (Err e) = Err (refusal_number e)
