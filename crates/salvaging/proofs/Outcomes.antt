-- What salvaging comes to, by the tests that led there: a refusal, which changes nothing, or block and ranges written. Assumes nothing.
use Prim.Native.Nat.{ℕ, zero, suc, ◌≤◌, ◌<◌}
use native.Mathlib.Omega.{arith}
use mathlib.Core.List.{List, [], ◌∷◌, map}
use mathlib.Core.Path.{◌≡◌, refl, ◌∙◌}
use lib.ListN.{length, length-map}
use lib.Seq.{sets}
use borrow.Author.Tests.{lt-ltb, le-ltb}
use Rattle.limits.specs.Refusals.{ROOM}
use Rattle.area.proofs.Laws.{over-sets}
use Rattle.plain.specs.Rules.{◌if◌}
use Rattle.format.proofs.Answers.{broken-first}
use Rattle.descriptor.specs.declared.Descriptor.{Descriptor}
use Rattle.ranges.specs.Ranges.{Range}
use Rattle.ranges.specs.Recording.{put_down}
use Rattle.ranges.proofs.Recording.{put_whole}
use Rattle.damaged.specs.Damaged.{described_but_15}
use Rattle.salvaging.specs.declared.Salvaged.{Salvaged}
use Rattle.salvaging.specs.Salvaging.{Salvage, salvage_by, salvage_number, salvaged_block, salvaged_ranges, salvaged, salvage, too_short}

-- an answer, and what the three areas then hold
abbrev pub Comes : Salvaged → List ℕ → List ℕ → List ℕ → Salvage → Type 0
Comes r fs ls out s = (r ≡ s.answer) × ((fs ≡ s.firsts) × ((ls ≡ s.lasts) × (out ≡ s.out)))

module _ (block : List ℕ) (rs : List Range) (fs ls out : List ℕ) where
  refused-by : (e : ℕ) → 0 < e → {r : Salvaged} → r ≡ salvaged e 0 0 → Comes r fs ls out (salvage_by e block rs fs ls out)
  unfolding salvage_by
  refused-by zero h p = absurd (omega arith)
  refused-by (suc e) h p = (p, (refl, (refl, refl)))

  -- ---- 4 for the block or a list, and done
  abbrev tested : Salvage
  tested = salvage_by (ROOM if too_short (length block) (length rs) (length out) (length fs) (length ls)) block rs fs ls out

  pub out-short : length out < length block → {r : Salvaged} → r ≡ salvaged ROOM 0 0 → Comes r fs ls out tested
  out-short h p = rw (lt-ltb (length out) (length block) h) (refused-by ROOM (omega arith) p)

  module _ (room : length block ≤ length out) where
    pub firsts-short : length fs < length rs → {r : Salvaged} → r ≡ salvaged ROOM 0 0 → Comes r fs ls out tested
    firsts-short h p = rw (le-ltb (length out) (length block) room, lt-ltb (length fs) (length rs) h) (refused-by ROOM (omega arith) p)

    module _ (enough : length rs ≤ length fs) where
      pub lasts-short : length ls < length rs → {r : Salvaged} → r ≡ salvaged ROOM 0 0 → Comes r fs ls out tested
      lasts-short h p =
          rw (le-ltb (length out) (length block) room, le-ltb (length fs) (length rs) enough, lt-ltb (length ls) (length rs) h)
          (refused-by ROOM (omega arith) p)

      pub all-written :
          length rs ≤ length ls → {len n : ℕ} {fs' ls' out' : List ℕ} → len ≡ length block → n ≡ length rs
          → fs' ≡ put_down fs (map (λ (r : Range). r.first) rs) → ls' ≡ put_down ls (map (λ (r : Range). r.last) rs) → out' ≡ sets out 0 block
          → Comes (salvaged 0 len n) fs' ls' out' tested
      unfolding salvage_by
      all-written h p q f l o =
          rw (le-ltb (length out) (length block) room, le-ltb (length fs) (length rs) enough, le-ltb (length ls) (length rs) h, p, q) (
            refl,
            (
              f ∙ put_whole fs _ (omega (arith, length-map rs (λ (r : Range). r.first))),
              (
                l ∙ put_whole ls _ (omega (arith, length-map rs (λ (r : Range). r.last))),
                o ∙ over-sets block out 0 (omega arith),
              ),
            ),
          )

-- ---- a block that breaks another rule
module _ (d : Descriptor) (b fs ls out : List ℕ) where
  pub rule-broken : {e : ℕ} {r : Salvaged} → described_but_15 d b ≡ e → 0 < e → r ≡ salvaged e 0 0 → Comes r fs ls out (salvage d b fs ls out)
  unfolding salvage_number
  rule-broken {e} q h p =
      let behind : List ℕ =
      ROOM if too_short (length (salvaged_block d b)) (length (salvaged_ranges d b)) (length out) (length fs) (length ls) ∷ [] in
      rw (q, broken-first e behind (λ z. omega arith)) (refused-by (salvaged_block d b) (salvaged_ranges d b) fs ls out e h p)
