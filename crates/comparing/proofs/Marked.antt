-- Two sound blocks of one kind: what walking the rows of both asks, and what is recorded when those that one has alone are added. Assumes nothing.
use Prim.Native.Nat.{ℕ, ◌+◌, ◌-◌, ◌*◌, ◌/◌, ◌≤◌, ◌<◌, ◌^◌, min}
use native.Mathlib.Nat.{min-le_left, min-le_right}
use native.Mathlib.Omega.{arith}
use mathlib.Core.Bool.{Bool, true}
use mathlib.Core.List.{List, ◌++◌, map}
use mathlib.Core.Path.{◌≡◌, sym, ap, ◌∙◌}
use lib.Dec.{ltb}
use lib.ListN.{length, take, replicate}
use lib.Seq.{length-take-le}
use borrow.Author.Tests.{ltb-true}
use Rattle.limits.specs.Limits.{MOST_ROWS}
use Rattle.plain.specs.Rows.{Row}
use Rattle.anatomy.specs.declared.Parts.{Parts}
use Rattle.anatomy.specs.Parts.{part_in, marks_in, items_in, AllWithin}
use Rattle.descriptor.specs.declared.Descriptor.{Descriptor}
use Rattle.ranges.specs.declared.Mark.{Mark}
use Rattle.ranges.specs.Ranges.{Range, ranges_of}
use Rattle.ranges.specs.Recording.{put_down, Recorded}
use Rattle.ranges.proofs.Steps.{Adds, Ends}
use Rattle.ranges.proofs.Exactly.{few-ranges}
use Rattle.ranges.proofs.Recording.{recorded-added, recorded-ended}
use Rattle.in_step.specs.Differences.{differences}
use Rattle.in_step.specs.Walking.{rows_walked, Walks}
use Rattle.in_step.proofs.Lists.{length-differences}
use Rattle.comparing.specs.Comparing.{described_rows, ranges_between}
use Rattle.comparing.specs.Taken.{Opens}
use Rattle.comparing.proofs.Tails.{in-both-and-one, length-differences-max}
use Rattle.comparing.proofs.OpenedSides.{side-long, side-few, side-within, side-walks, side-rows, one-kind}

module _ {a b : Descriptor} {x y : List ℕ} {p q : Parts} (o : Opens a x p) (u : Opens b y q) {n : ℕ} (least : n ≡ min a.rows b.rows) where
  abbrev as' : List Row
  as' = described_rows a x

  abbrev bs' : List Row
  bs' = described_rows b y

  abbrev alone : ℕ
  alone = (a.rows - n) + (b.rows - n)

  in-first : n ≤ a.rows
  in-first = omega (arith, least, min-le_left a.rows b.rows)

  in-second : n ≤ b.rows
  in-second = omega (arith, least, min-le_right a.rows b.rows)

  pub alone-first : n ≤ a.rows
  alone-first = in-first

  pub alone-second : n ≤ b.rows
  alone-second = in-second

  pub walk-asks : a.kind ≡ b.kind → a.width ≡ b.width
      → AllWithin p (length x) × AllWithin q (length y)
      × Walks p.source (part_in p.counts x) (marks_in p x) (items_in p x) n
      × Walks q.source (part_in q.counts y) (marks_in q y) (items_in q y) n
      × (p.source.kind ≡ q.source.kind)
  walk-asks k w = (side-within o, side-within u, side-walks o n in-first, side-walks u n in-second, one-kind o u k w)

  -- ---- how many ranges there are at most
  pub ranges-few : 2 * length (ranges_between a x b y) ≤ (a.rows - n) + b.rows + 1
  ranges-few =
      let l = side-long o in
      let r = side-long u in
      let d = length-differences-max as' bs' in
      omega (arith, few-ranges (differences as' bs'), d, l, r, least)

  pub hold-any :
      {t : Bool} {slots f l : ℕ} → t ≡ ltb (((a.rows - n) + b.rows) / 2) slots → t ≡ true → slots ≡ min f l
      → (length (ranges_between a x b y) ≤ f) × (length (ranges_between a x b y) ≤ l)
  hold-any {t} {slots} {f} {l} e h s =
      let m = ltb-true (((a.rows - n) + b.rows) / 2) slots (sym e ∙ h) in
      let r = ranges-few in
      let c : length (ranges_between a x b y) ≤ slots = omega (arith, m, r) in
      (omega (arith, c, s, min-le_left f l), omega (arith, c, s, min-le_right f l))

  -- ---- the rows of both walked
  module _ {m : Mark} {fs₀ ls₀ fs ls : List ℕ}
      (f : Recorded
      (differences (rows_walked p.source (part_in p.counts x) (marks_in p x) (items_in p x) n) (rows_walked q.source (part_in q.counts y) (marks_in q y) (items_in q y) n))
      m fs₀ ls₀ fs ls) where
    of-both : Recorded (differences (take n as') (take n bs')) m fs₀ ls₀ fs ls
    of-both = rw (side-rows o n in-first, side-rows u n in-second) at f

    first-long : length (take n as') ≡ n
    first-long = length-take-le n as' (omega (arith, in-first, side-long o))

    second-long : length (take n bs') ≡ n
    second-long = length-take-le n bs' (omega (arith, in-second, side-long u))

    next-is : m.next ≡ n
    next-is = of-both.next ∙ length-differences (take n as') (take n bs') (first-long ∙ sym second-long) ∙ first-long

    pub alone-fits : m.next + alone < 2 ^ 64
    alone-fits = omega (arith, next-is, side-few o, side-few u)

    whole-differences : differences (take n as') (take n bs') ++ replicate alone true ≡ differences as' bs'
    whole-differences =
        let l = side-long o in
        let r = side-long u in
        sym (in-both-and-one as' bs' n (rw (l, r) least) ∙ rw (l, r))

    -- ---- and those that one has alone
    module _ {m' : Mark} {fs' ls' : List ℕ} (g : Adds m true alone fs ls m' fs' ls') where
      pub of-all : Recorded (differences as' bs') m' fs₀ ls₀ fs' ls'
      of-all = rw whole-differences at (recorded-added of-both true alone alone-fits g)

      pub ranges-marked :
          {z : Mark} {fs'' ls'' : List ℕ} → Ends m' fs' ls' z fs'' ls''
          → (z.count ≡ length (ranges_between a x b y))
          × (fs'' ≡ put_down fs₀ (map (λ (r : Range). r.first) (ranges_between a x b y))) × (ls'' ≡ put_down ls₀ (map (λ (r : Range). r.last) (ranges_between a x b y)))
      ranges-marked h = recorded-ended of-all h
