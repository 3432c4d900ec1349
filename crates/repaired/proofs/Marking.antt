-- What holds at each turn of the walk over all runs that marks those which are lost. Assumes nothing.
use Prim.Native.Nat.{ℕ, ◌+◌, ◌-◌, ◌≤◌, ◌<◌, ◌^◌}
use native.Mathlib.Omega.{arith}
use mathlib.Core.Bool.{Bool}
use mathlib.Core.List.{List, [], ◌++◌, map, map-append, append-nil, append_assoc}
use mathlib.Core.Path.{◌≡◌, sym, ap, ◌∙◌}
use lib.ListN.{length, replicate, length-append, length-map, length-replicate}
use Rattle.rle.proofs.Folds.{map-replicate}
use Rattle.source.specs.declared.Source.{Source}
use Rattle.source.specs.declared.ShownRun.{ShownRun}
use Rattle.ranges.specs.declared.Mark.{Mark}
use Rattle.ranges.specs.Ranges.{Range, ranges_of}
use Rattle.std.specs.Prelude.{None}
use Rattle.ranges.specs.Recording.{mark, put_down, Recorded}
use Rattle.ranges.proofs.Steps.{Ends, Adds}
use Rattle.ranges.proofs.Recording.{length-put, recorded-start, recorded-added, recorded-ended}
use Rattle.repaired.specs.Repaired.{lost_at, keys_by, none_yet, runs_walked, runs_ahead, Ahead}
use Rattle.repaired.proofs.Ahead.{shown, all-ahead, Told, ahead_none, ahead-next, ahead-same, ahead-take, ahead-front}

module _ (entries runs : ℕ) (counts keys : List ℕ) (n : ℕ) (firsts₀ lasts₀ : List ℕ) where
  abbrev lost : ℕ → Bool
  lost = lost_at entries keys

  -- the rows marked lie in the runs `front`; `left` rows are ahead
  pub record Marking (firsts lasts : List ℕ) (m : Mark) (left : ℕ) (x : ShownRun) : Type 0 where
    pub front : List ℕ
    pub whole : runs_walked runs counts n ≡ front ++ runs_ahead runs counts x left
    pub sized : length front + left ≡ n
    pub ahead : Ahead runs counts x left
    pub recorded : Recorded (map lost front) m firsts₀ lasts₀ firsts lasts

  pub marking-start : Ahead runs counts none_yet n → {m : Mark} → m ≡ mark None 0 0 → {x : ShownRun} → x ≡ none_yet → Marking firsts₀ lasts₀ m n x
  marking-start f q e = rw e (record {
    front = [];
    whole = sym (all-ahead runs counts n);
    sized = omega arith;
    ahead = f;
    recorded = rw q (recorded-start firsts₀ lasts₀);
  })

  module _ {firsts lasts : List ℕ} {m : Mark} {left : ℕ} {x : ShownRun} (f : Marking firsts lasts m left x) where
    -- so the places marked and those ahead are all of them
    pub marking-fits : m.next + left ≡ n
    marking-fits = omega (arith, f.recorded.next, length-map f.front lost, f.sized)

    -- the next run
    pub marking-next :
        x.rows ≤ 0 → 0 < left → {s : Source} → s ≡ keys_by runs → (marks : List ℕ) → {y : ShownRun} → Told s counts marks x.next left y
        → Marking firsts lasts m left y
    marking-next used more by marks told = record {
      front = f.front;
      whole = f.whole ∙ ap (λ (is : List ℕ). f.front ++ is) (ahead-same f.ahead used more by marks told);
      sized = f.sized;
      ahead = ahead-next f.ahead used more by marks told;
      recorded = f.recorded;
    }

    -- all rows of it marked, or none
    pub marking_step :
        {on : Bool} → on ≡ lost (x.slot - 1) → m.next + x.rows < 2 ^ 64 → {m' : Mark} {firsts' lasts' : List ℕ} → Adds m on x.rows firsts lasts m' firsts' lasts'
        → Marking firsts' lasts' m' (left - x.rows) (shown x.slot 0 x.next)
    marking_step {on} told fits added =
        let r : x.rows - x.rows ≡ 0 = omega arith in
        let taken = replicate x.rows (x.slot - 1) in
        let on-all : map lost (f.front ++ taken) ≡ map lost f.front ++ replicate x.rows on =
        map-append lost f.front taken
        ∙ ap (λ (l : List Bool). map lost f.front ++ l) (map-replicate lost x.rows (x.slot - 1) ∙ ap (replicate x.rows) (sym told)) in
        record {
          front = f.front ++ taken;
          whole =
              f.whole
              ∙ ap (λ (l : List ℕ). f.front ++ l) (rw r at (ahead-front f.ahead x.rows (omega arith)))
              ∙ sym (append_assoc f.front taken (runs_ahead runs counts (shown x.slot 0 x.next) (left - x.rows)));
          sized = omega (arith, length-append f.front taken, length-replicate x.rows (x.slot - 1), f.sized, f.ahead.some);
          ahead = rw r at (ahead-take f.ahead x.rows (omega arith));
          recorded = rw on-all (recorded-added f.recorded on x.rows fits added);
        }

    -- no rows are ahead
    module _ (h : left ≤ 0) {r : Mark} {firsts' lasts' : List ℕ} (ended : Ends m firsts lasts r firsts' lasts') where
      pub marking-end :
          (r.count ≡ length (ranges_of (map lost (runs_walked runs counts n))))
          × (firsts' ≡ put_down firsts₀ (map (λ (z : Range). z.first) (ranges_of (map lost (runs_walked runs counts n)))))
          × (lasts' ≡ put_down lasts₀ (map (λ (z : Range). z.last) (ranges_of (map lost (runs_walked runs counts n)))))
      marking-end =
          let all : runs_walked runs counts n ≡ f.front = f.whole ∙ ap (λ (l : List ℕ). f.front ++ l) (ahead_none f.ahead h) ∙ append-nil f.front in
          rw all (recorded-ended f.recorded ended)

      pub marking-long : (length firsts' ≡ length firsts₀) × (length lasts' ≡ length lasts₀)
      marking-long = (ap length marking-end.1 ∙ length-put firsts₀ _, ap length marking-end.2 ∙ length-put lasts₀ _)

-- ---- the measure of the walk: rows of a run were marked
pub step_less : (left rows runs : ℕ) → (rows ≡ 0 → ⊥) → rows ≤ left → left - rows + (left - rows - 0 + runs) < left + (left - rows + runs)
step_less left rows runs z h = omega arith
