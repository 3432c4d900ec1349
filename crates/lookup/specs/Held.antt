-- 01, "Building": stored items in lent memory, as appends left them there: each as it was given, its fields, and the lookup over them. Assumes nothing.
use Rattle.std.specs.Prelude.{Option, Some, None, ℕ, zero, suc, ◌-◌, ◌*◌, Bool, false, cond, not, ◌&&◌, ◌||◌, List, [], ◌∷◌, ltb, eqb, take, drop, get_or}
use Rattle.encode.specs.declared.Kind.{Kind}
use Rattle.encode.specs.declared.Kind.TheVariants.{Fixed, Char, Blob}
use Rattle.plain.specs.Rows.{Row, int, bytes, same}
use Rattle.plain.specs.Plain.{places, fixed_at}

-- what holds the items: their bytes, the blob ends and the char lengths
pub record Held : Type 0 where
  pub items : List ℕ
  pub ends : List ℕ
  pub lens : List ℕ

abbrev pub held : List ℕ → List ℕ → List ℕ → Held
held is es ls = record { items = is; ends = es; lens = ls }

-- the end of item i, and where it starts: at the end of the one before it
abbrev pub item_end : List ℕ → ℕ → ℕ
item_end ends i = get_or ends i 0

unfoldable pub item_start : List ℕ → ℕ → ℕ
item_start ends zero = 0
item_start ends (suc i) = get_or ends i 0

-- item i as it was given: fixed kinds by the value read, char by its length, blob by its ends
unfoldable pub held_row : Kind → Held → ℕ → Row
held_row (Fixed p) h i = int (fixed_at p h.items i)
held_row (Char w) h i = bytes (take (get_or h.lens i 0) (drop (i * w) h.items))
held_row (Blob text) h i = bytes (take (item_end h.ends i - item_start h.ends i) (drop (item_start h.ends i) h.items))

-- a field of item i of n is wrong: an end that falls or passes the items, a last end of all that isn't the item bytes, a length above the width
unfoldable pub field_wrong : Kind → ℕ → ℕ → Held → ℕ → Bool
field_wrong (Fixed p) n len h i = false
field_wrong (Char w) n len h i = ltb w (get_or h.lens i 0)
field_wrong (Blob text) n len h i =
    ltb (item_end h.ends i) (item_start h.ends i)
    || ltb len (item_end h.ends i)
    || eqb (suc i) n && not (eqb (item_end h.ends i) len)

-- the first of n items that equals the row; a row that is new becomes the next. A wrong field of an item up to there is found too.
unfoldable pub look_from : Kind → ℕ → ℕ → Held → Row → List ℕ → Option ℕ
look_from k n len h row [] = Some n
look_from k n len h row (i ∷ is) =
    cond (field_wrong k n len h i) None
    (cond (same row (held_row k h i)) (Some i)
    (look_from k n len h row is))

unfoldable pub look_up : Kind → ℕ → ℕ → Held → Row → Option ℕ
look_up k n len h row = look_from k n len h row (places n 0)
