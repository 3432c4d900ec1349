-- What the rows passed over and written come to, where the tests before them let a read through. Assumes nothing.
use Prim.Native.Nat.{ℕ, ◌+◌, ◌-◌, ◌^◌, ◌≤◌, ◌<◌, min}
use native.Mathlib.Nat.{min-le_right}
use native.Mathlib.Omega.{arith}
use mathlib.Core.Path.{◌≡◌, refl, sym, ap, subst, ◌∙◌}
use mathlib.Core.Bool.{Bool, true, false, not}
use mathlib.Core.List.{List}
use lib.IntN.{ℤ}
use lib.ListN.{length, take}
use borrow.Author.Tests.{ne_eqb, not-true, not-false}
use Rattle.std.specs.Prelude.{Result, Ok, Err, Option, Some, None}
use Rattle.limits.specs.Limits.{MOST_ITEMS}
use Rattle.limits.specs.Refusals.{DISAGREE}
use Rattle.encode.specs.declared.Kind.{Kind}
use Rattle.zeros.specs.Zeros.{zeros_in}
use Rattle.rle.specs.declared.Spot.{Spot}
use Rattle.rle.specs.Stepping.{spot, Steps, stuck, rows, steps_from}
use Rattle.rle.specs.Pieces.{steps_in, reached}
use Rattle.source.specs.Rows.{StartsBy}
use Rattle.format.specs.declared.Encoding.{Encoding}
use Rattle.anatomy.specs.declared.Parts.{Parts}
use Rattle.anatomy.specs.Parts.{AllWithin, parts_of, part_in}
use Rattle.part_rows.specs.PartRows.{steps_by, Serves}
use Rattle.fill.specs.declared.Filled.{Filled}
use Rattle.fill.specs.Areas.{Areas}
use Rattle.fill.specs.Filling.{Filling, filling}
use Rattle.fill.proofs.UnusedAreas.{AllTold}
use Rattle.block.specs.declared.Reader.{Reader}
use Rattle.block.specs.declared.Given.{Given}
use Rattle.block.specs.Reading.{next_steps, moved, counted, Batch, refused_batch, batch_of, up_to, whole, pass_then, read}
use Rattle.block.specs.Spots.{start_of, spot_by, moved_by, nulls_by}
use Rattle.block.proofs.RecordTests.{RightRecord, most-rows}
use Rattle.block.proofs.NextRows.{respot, Served, served, serves}
use Rattle.block.proofs.MovedReader.{moved-right}
use Rattle.block.proofs.GivenNulls.{flags-fit, nulls-by-marks}
use Rattle.block.proofs.GivenRows.{BatchTold, told, handed-rows, handed-on, batch-same, filling-kept}

-- what the tests leave, where none refuses
pub record Passed (r : Reader) (b : List ℕ) (skip size : ℕ) (a : Areas) (k : Kind) (e : Encoding) : Type 0 where
  pub right : RightRecord k e r
  pub long : length b ≡ r.len
  pub within : skip ≤ r.rows - r.place
  pub on : pass_then k e r b skip size a (next_steps e r b skip) ≡ read r b skip size a

-- ---- the rows passed over
-- from the parts
module _ (p : Parts) (from : Spot) (b : List ℕ) (n : ℕ) where
  pub pass-items : not p.source.coded ≡ true → Some (spot (from.run + n) from.at from.taken) ≡ reached (steps_by p from b n)
  unfolding steps_by steps_in reached
  pass-items h = rw (not-true p.source.coded h)

  pub pass-runs : not p.source.coded ≡ false → reached (steps_from p.source.runs (part_in p.counts b) n from) ≡ reached (steps_by p from b n)
  unfolding steps_by steps_in
  pass-runs h = rw (not-false p.source.coded h)

-- by what the pass over them found
stuck_there : (w : Steps) → None ≡ reached w → w ≡ stuck
unfolding reached
stuck_there stuck h = refl
stuck_there (rows is t) h = let z : ◌≡◌ {A = ℕ} 0 1 = cc in absurd (omega arith)

at_there : (w : Steps) {t : Spot} → Some t ≡ reached w → (is : List ℕ) × (w ≡ rows is t)
unfolding reached
at_there stuck h = let z : ◌≡◌ {A = ℕ} 0 1 = cc in absurd (omega arith)
at_there (rows is u) {t} h = let q : t ≡ u = cc in (is, rw q)

-- where rows end, reading goes on
goes_on : (r : Reader) (p : Parts) (b : List ℕ) (n : ℕ) (coded : Bool) → p.source.coded ≡ coded → {is : List ℕ} {t : Spot}
    → steps_by p (start_of coded r) b n ≡ rows is t → t ≡ start_of coded (moved r n (spot_by coded r t))
unfolding start_of spot_by steps_by steps_in
goes_on r p b n true c q = refl
goes_on r p b n false c {is} {t} q = let s = rw c at q in let e : spot (r.place + n) r.spot.at r.spot.taken ≡ t = cc s in sym e

-- the reader behind all rows, in one step and in two
moved_twice : (r : Reader) (coded : Bool) (n m : ℕ) (s t : Spot) → moved_by coded r (n + m) t ≡ moved_by coded (moved r n (spot_by coded r s)) m t
unfolding moved_by spot_by
moved_twice r true n m s t = let q : r.place + (n + m) ≡ r.place + n + m = omega arith in rw q
moved_twice r false n m s t = let q : r.place + (n + m) ≡ r.place + n + m = omega arith in rw q

module _
    {r : Reader} {b : List ℕ} {skip size : ℕ} {a : Areas} {k : Kind} {e : Encoding} (s : Passed r b skip size a k e) {p : Parts}
    (taken : p ≡ parts_of k e r.rows r.len r.head) {start : Spot} (starts : start ≡ start_of p.source.coded r)
  where
    abbrev coded : Bool
    coded = p.source.coded

    serve : Served k e r b skip p
    serve = subst (λ (y : Parts). Served k e r b skip y) (sym taken) (served k r b skip s.long s.within e s.right)

    start-within : start.run ≤ MOST_ITEMS
    unfolding StartsBy
    start-within = rw starts (go p.source.coded (start_of p.source.coded r).run serve.starts)
      where
        go : (t : Bool) (run : ℕ) → StartsBy t run p.source.runs skip → run ≤ MOST_ITEMS
        go true run h = let m = serve.runs in omega arith
        go false run h = omega arith

    rows_few : r.place + skip < 2 ^ 48
    rows_few =
        let g = s.right.numbers.rows in
        let q = s.right.place in
        let w = s.within in
        let m = most-rows e in
        omega arith

    pub pass-may : AllWithin p (length b) × (p.source.runs ≤ MOST_ITEMS) × (start.run + skip < 2 ^ 64)
    pass-may = let h = start-within in let l = rows_few in (serve.lies.within, serve.runs, omega arith)

    module _ {g : Option Spot} (passed : g ≡ reached (steps_by p start b skip)) where
      steps-are : next_steps e r b skip ≡ respot coded r (steps_by p start b skip)
      steps-are = rw starts serve.steps

      pub read-stuck : g ≡ None → refused_batch DISAGREE r a ≡ read r b skip size a
      unfolding pass_then respot
      read-stuck h =
          let w = stuck_there (steps_by p start b skip) (sym h ∙ passed) in
          ap (λ (x : Steps). pass_then k e r b skip size a (respot coded r x)) (sym w) ∙ ap (pass_then k e r b skip size a) (sym steps-are) ∙ s.on

      module _ {from : Spot} (there : g ≡ Some from) where
        over : (is : List ℕ) × (steps_by p start b skip ≡ rows is from)
        over = at_there (steps_by p start b skip) (sym there ∙ passed)

        -- the reader behind them
        abbrev behind : Reader
        behind = moved r skip (spot_by p.source.coded r from)

        steps-there : next_steps e r b skip ≡ rows over.0 (spot_by coded r from)
        unfolding respot
        steps-there = steps-are ∙ ap (respot coded r) over.1

        goes-on-there : from ≡ start_of coded behind
        goes-on-there = goes_on r p b skip coded refl (ap (λ (x : Spot). steps_by p x b skip) (sym starts) ∙ over.1)

        module _ {n : ℕ} (few : n ≡ min size (r.rows - r.place - skip)) where
          left_there : r.rows - r.place - skip ≡ r.rows - (r.place + skip)
          left_there = omega arith

          fits-there : n ≤ r.rows - (r.place + skip)
          fits-there = rw (few, ← left_there) (min-le_right size (r.rows - r.place - skip))

          serve-there : Served k e behind b n p
          serve-there =
              subst (λ (y : Parts). Served k e behind b n y) (sym taken)
              (served k behind b n s.long fits-there e (moved-right k r b skip e s.right s.within steps-there))

          pub may : Serves p from b n
          may = rw goes-on-there (serves serve-there)

          pub place-fits : (skip + n < 2 ^ 64) × (r.place + (skip + n) < 2 ^ 64)
          place-fits =
              let g = s.right.numbers.rows in
              let q = s.right.place in
              let w = s.within in
              let f = fits-there in
              let m = most-rows e in
              (omega arith, omega arith)

          abbrev filled : Filling
          filled = filling p from b n a

          all-of-it : whole r a (handed-on behind coded n filled) ≡ read r b skip size a
          unfolding pass_then up_to
          all-of-it =
              let m : min size (behind.rows - behind.place) ≡ n = rw few (ap (min size) (sym left_there)) in
              ap (λ (z : Spot). whole r a (handed-on behind coded n (filling p z b n a))) goes-on-there
              ∙ ap (whole r a) (sym (batch-same a serve-there) ∙ ap (λ (j : ℕ). batch_of k e behind b a (next_steps e behind b j)) (sym m))
              ∙ ap (pass_then k e r b skip size a) (sym steps-there)
              ∙ s.on

          module _ {x : Result Filled ℕ} {vs : List ℤ} {fs es bs : List ℕ} (h : AllTold x vs fs es bs filled) where
            all_told : {x : Given} → ◌≡◌ {A = Batch} (record { answer = x; areas = filled.areas }) (read r b skip size a) → BatchTold x vs fs es bs (read r b skip size a)
            all_told {x} q =
                let z = told x refl q in
                (z.0, (h.1.0 ∙ z.1.0, (h.1.1.0 ∙ z.1.1.0, (h.1.1.1.0 ∙ z.1.1.1.0, h.1.1.1.1 ∙ z.1.1.1.1))))

            pub fill-refused : {e : ℕ} → x ≡ Err e → BatchTold (record { number = e; rows = 0; bytes = 0; reader = r }) vs fs es bs (read r b skip size a)
            unfolding whole
            fill-refused {e = e} l =
                let j : filled.answer ≡ Err e = sym h.0 ∙ l in
                let kept = filling-kept p from b a (steps_by p from b n) j in
                let stays : whole r a (refused_batch e behind filled.areas) ≡ refused_batch e r a = simp (ne_eqb e 0 kept.1) in
                all_told
                (rw kept.0 (sym stays ∙ ap (λ (y : Result Filled ℕ). whole r a (handed-rows behind coded n filled.areas y)) (sym j) ∙ all-of-it))

            -- what counting the nulls asks
            pub flags-there : {g : Filled} → x ≡ Ok g → n ≤ length fs
            flags-there l = rw h.1.1.0 (flags-fit p from b n a (sym h.0 ∙ l))

            -- and that it wraps no sum
            pub nulls-fit : {nulls : ℕ} → nulls ≤ n → r.nulls + nulls < 2 ^ 64
            nulls-fit g =
                let w = s.right.nulls in
                let q = s.right.place in
                let x = s.right.numbers.rows in
                let y = fits-there in
                let m = most-rows e in
                omega arith

            pub fill_done :
                {g : Filled} → x ≡ Ok g → {nulls : ℕ} → nulls ≡ nulls_by p.source.marks (take n fs)
                → {y : Reader} → y ≡ counted (moved_by coded r (skip + n) g.next) nulls
                → BatchTold (record { number = 0; rows = n; bytes = g.bytes; reader = y }) vs fs es bs (read r b skip size a)
            unfolding whole
            fill_done {g = g} l {nulls = nulls} c {y = y} z =
                let i : filled.answer ≡ Ok g = sym h.0 ∙ l in
                let q = c ∙ ap (λ (x : List ℕ). nulls_by p.source.marks (take n x)) h.1.1.0 ∙ nulls-by-marks p from b n a i in
                let there : y ≡ counted (moved_by coded behind n g.next) (zeros_in (take n filled.areas.flags)) =
                z
                ∙ ap (λ (w : Reader). counted w nulls) (moved_twice r coded skip n from g.next)
                ∙ ap (counted (moved_by coded behind n g.next)) q in
                all_told (rw there (ap (λ (w : Result Filled ℕ). whole r a (handed-rows behind coded n filled.areas w)) (sym i) ∙ all-of-it))
