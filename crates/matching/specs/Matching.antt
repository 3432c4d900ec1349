-- For the code, which compares two stored items. Assumes nothing.
use Rattle.std.specs.Prelude.{ℕ, ◌-◌, ◌*◌, ◌≤◌, ◌<◌, ◌≡◌, Bool, true, List, eqb, length, take, drop}
use Rattle.limits.specs.Limits.{MOST_ITEMS}
use Rattle.encode.specs.Bytes.{number}
use Rattle.encode.specs.declared.Kind.{Kind}
use Rattle.encode.specs.declared.Primitive.{Primitive}
use Rattle.plain.specs.Rows.{int, same}
use Rattle.plain.specs.Plain.{least_bytes, ends_good, fixed_at}

-- ---- one item of n
-- item i is there, and its ends are good
pub record There (k : Kind) (n : ℕ) (items : List ℕ) (i : ℕ) : Type 0 where
  pub few : n ≤ MOST_ITEMS
  pub inside : i < n
  pub whole : least_bytes k n ≤ length items
  pub good : ends_good k n items i ≡ true

-- the same of an item that is counted from 1 on; 0 is null
pub record Stored (k : Kind) (n : ℕ) (items : List ℕ) (slot : ℕ) : Type 0 where
  pub few : n ≤ MOST_ITEMS
  pub inside : slot ≤ n
  pub whole : least_bytes k n ≤ length items
  pub good : 0 < slot → ends_good k n items (slot - 1) ≡ true

-- ---- rows of two plain columns
-- whether row k of each is the same: by value, and by the number of the item's w bytes, lowest first
unfoldable pub equal_at : Primitive → List ℕ → List ℕ → ℕ → Bool
equal_at p a b k = same (int (fixed_at p a k)) (int (fixed_at p b k))

unfoldable pub word_at : ℕ → List ℕ → List ℕ → ℕ → Bool
word_at w a b k = eqb (number (take w (drop (k * w) a))) (number (take w (drop (k * w) b)))
