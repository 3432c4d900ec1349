-- For the code: ranges put down as they end, in two lent lists, a range's slot being the same place in both. Assumes nothing.
use Rattle.std.specs.Prelude.{ℕ, ◌+◌, ◌-◌, ◌≤◌, ◌<◌, ◌^◌, Bool, cond, List, map, ◌++◌, ◌≡◌, ltb, eqb, length, set, take, Option, Some, None, IsSome, unwrap_or}
use Rattle.area.specs.Area.{over}
use Rattle.ranges.specs.declared.Mark.{Mark}
use Rattle.ranges.specs.Ranges.{Range, ranges_from, ranges_of}

abbrev pub mark : Option ℕ → ℕ → ℕ → Mark
mark since next count = record { since = since; next = next; count = count }

-- a number at a slot, if the slot is there
unfoldable pub noted : List ℕ → ℕ → ℕ → List ℕ
noted xs i x = cond (ltb i (length xs)) (set xs i x) xs

-- the open range, if one is, ended before the next place
unfoldable pub ended_by : Option ℕ → Mark → Mark
ended_by None m = m
ended_by (Some f) m = mark None m.next (m.count + 1)

abbrev pub ended : Mark → Mark
ended m = ended_by m.since m

unfoldable pub firsts_by : Option ℕ → Mark → List ℕ → List ℕ
firsts_by None m xs = xs
firsts_by (Some f) m xs = noted xs m.count f

abbrev pub firsts_ended : Mark → List ℕ → List ℕ
firsts_ended m xs = firsts_by m.since m xs

unfoldable pub lasts_by : Option ℕ → Mark → List ℕ → List ℕ
lasts_by None m xs = xs
lasts_by (Some f) m xs = noted xs m.count (m.next - 1)

abbrev pub lasts_ended : Mark → List ℕ → List ℕ
lasts_ended m xs = lasts_by m.since m xs

-- n places more, all of them marked or none
unfoldable pub opened : Mark → ℕ → Mark
opened m n = mark (Some (unwrap_or m.since m.next)) (m.next + n) m.count

unfoldable pub passed : Mark → ℕ → Mark
passed m n = mark None (m.next + n) (ended m).count

unfoldable pub added : Mark → Bool → ℕ → Mark
added m on n = cond (eqb n 0) m (cond on (opened m n) (passed m n))

unfoldable pub firsts_added : Mark → Bool → ℕ → List ℕ → List ℕ
firsts_added m on n xs = cond (eqb n 0) xs (cond on xs (firsts_ended m xs))

unfoldable pub lasts_added : Mark → Bool → ℕ → List ℕ → List ℕ
lasts_added m on n xs = cond (eqb n 0) xs (cond on xs (lasts_ended m xs))

-- no more ranges than places, so that no count passes a word: an open one has a place that counts for it
pub record Counted (m : Mark) : Type 0 where
  pub few : m.count ≤ m.next
  pub one : IsSome m.since → m.count + 1 ≤ m.next
  pub short : m.next < 2 ^ 64

-- ---- what has been recorded
-- these ranges, put down as far as there are slots
unfoldable pub put_down : List ℕ → List ℕ → List ℕ
put_down xs vs = over xs 0 (take (length xs) vs)

-- the places so far, the ranges among them that have ended, and what the lists held before and hold now
pub record Recorded (bs : List Bool) (m : Mark) (fs₀ ls₀ fs ls : List ℕ) : Type 0 where
  pub done : List Range
  pub same : (rest : List Bool) → ranges_of (bs ++ rest) ≡ done ++ ranges_from m.next m.since rest
  pub count : m.count ≡ length done
  pub next : m.next ≡ length bs
  pub counted : Counted m
  pub firsts : fs ≡ put_down fs₀ (map (λ r. r.first) done)
  pub lasts : ls ≡ put_down ls₀ (map (λ r. r.last) done)
