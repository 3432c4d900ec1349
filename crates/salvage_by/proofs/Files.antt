-- Which case of the definitions the tests of `salvage` lead to, and that every range has its slots. Assumes nothing.
use Prim.Native.Nat.{ℕ, zero, suc, ◌≤◌, ◌<◌}
use native.Mathlib.Omega.{arith}
use mathlib.Core.Bool.{◌||◌}
use mathlib.Core.List.{List, []}
use mathlib.Core.Path.{◌≡◌, refl, sym, ap, ◌∙◌}
use lib.Dec.{ltb}
use lib.ListN.{length, take}
use borrow.Author.Tests.{lt-ltb, le-ltb, ltb-false}
use Rattle.limits.specs.Limits.{MOST_INPUT}
use Rattle.limits.specs.Refusals.{LIMIT, ROOM, CUT}
use Rattle.encode.specs.Bytes.{in_eight}
use Rattle.encode.proofs.Bools.{neither}
use Rattle.plain.specs.Rules.{◌if◌, first_of}
use Rattle.plain.proofs.Rules.{kept, whole}
use Rattle.plain.proofs.Items.{take-item}
use Rattle.format.proofs.Answers.{first_one}
use Rattle.descriptor.specs.declared.Descriptor.{Descriptor}
use Rattle.descriptor.specs.Descriptor.{descriptor_of}
use Rattle.text.specs.Input.{block_in}
use Rattle.ranges.specs.Ranges.{Range}
use Rattle.salvaging.specs.declared.Salvaged.{Salvaged}
use Rattle.salvaging.specs.Salvaging.{Salvage, salvaged_block, salvaged_ranges, too_short, salvage_number, salvaged, salvage_by, salvage}
use Rattle.salvage_by.specs.Asked.{descriptor_in, file_number, file_salvaged}

pub descriptor-read :
    (f : List ℕ) → 8 ≤ length f → {item : List ℕ} {d : Descriptor} → item ≡ in_eight (take 8 f) → d ≡ descriptor_of (take 8 item) → d ≡ descriptor_in f
descriptor-read f there p q = q ∙ ap (λ (l : List ℕ). descriptor_of (take 8 l)) p ∙ ap descriptor_of (take-item 8 0 f there)

-- ---- how many ranges there are
by-ranges : (e : ℕ) (b : List ℕ) (rs : List Range) (fs ls out : List ℕ) → e ≡ 0 → (salvage_by e b rs fs ls out).answer.ranges ≡ length rs
unfolding salvage_by
by-ranges e b rs fs ls out z = rw z refl

no-ranges : (n e : ℕ) (b : List ℕ) (rs : List Range) (fs ls out : List ℕ) → e ≡ suc n → (salvage_by e b rs fs ls out).answer.ranges ≡ 0
unfolding salvage_by
no-ranges n e b rs fs ls out z = rw z refl

few-enough : (len ranges out firsts lasts : ℕ) → ROOM if too_short len ranges out firsts lasts ≡ 0 → (ranges ≤ firsts) × (ranges ≤ lasts)
few-enough len ranges out firsts lasts z =
    let few = neither (ltb out len || ltb firsts ranges) (ltb lasts ranges) (whole ROOM _ (omega arith) z) in
    (ltb-false firsts ranges (neither (ltb out len) _ few.0).1, ltb-false lasts ranges few.1)

module _ (f fs ls out : List ℕ) where
  abbrev number : ℕ
  number = file_number f (length fs) (length ls) (length out)

  abbrev Answered : Salvaged → List ℕ → List ℕ → List ℕ → Type 0
  Answered r us vs ws =
      (r ≡ (file_salvaged f fs ls out).answer)
      × ((us ≡ (file_salvaged f fs ls out).firsts)
      × ((vs ≡ (file_salvaged f fs ls out).lasts)
      × ((ws ≡ (file_salvaged f fs ls out).out)
      × ((r.ranges ≤ length us) × (r.ranges ≤ length vs)))))

  -- ---- refusals, on which nothing is written
  refused : (e : ℕ) → 0 < e → e ≡ number → {r : Salvaged} → r ≡ salvaged e 0 0 → Answered r fs ls out
  unfolding salvage_by
  refused zero h q told = absurd (omega arith)
  refused (suc e) h q told =
      let n = ap (λ (s : Salvaged). s.ranges) told in rw (← q) (told, (refl, (refl, (refl, (omega (arith, n), omega (arith, n))))))

  pub no-descriptor : length f < 8 → {r : Salvaged} → r ≡ salvaged CUT 0 0 → Answered r fs ls out
  unfolding file_number first_of
  no-descriptor h told = refused CUT (omega arith) (rw (lt-ltb (length f) 8 h)) told

  module _ (there : 8 ≤ length f) where
    pub too_long : MOST_INPUT < length f → {r : Salvaged} → r ≡ salvaged LIMIT 0 0 → Answered r fs ls out
    unfolding file_number first_of
    too_long h told = refused LIMIT (omega arith) (rw (le-ltb (length f) 8 there, lt-ltb MOST_INPUT (length f) h)) told

    -- ---- the salvage's own answer
    module _ (short : length f ≤ MOST_INPUT) where
      as-block : number ≡ salvage_number (descriptor_in f) (block_in f) (length fs) (length ls) (length out)
      unfolding file_number first_of
      as-block = rw (le-ltb (length f) 8 there, le-ltb MOST_INPUT (length f) short) (first_one _)

      -- the same descriptor and block, so the same call
      handed-over : {d : Descriptor} {b : List ℕ} → d ≡ descriptor_in f → b ≡ block_in f → salvage d b fs ls out ≡ file_salvaged f fs ls out
      handed-over {d} {b} ed eb =
          ap (λ (x : Descriptor). salvage x b fs ls out) ed
          ∙ ap (λ (l : List ℕ). salvage (descriptor_in f) l fs ls out) eb
          ∙ ap (λ (e : ℕ). salvage_by e (salvaged_block (descriptor_in f) (block_in f)) (salvaged_ranges (descriptor_in f) (block_in f)) fs ls out) (sym as-block)

      -- the lists have a slot for every range
      slots-there : (e : ℕ) → number ≡ e → {r : Salvaged} → r ≡ (file_salvaged f fs ls out).answer → (r.ranges ≤ length fs) × (r.ranges ≤ length ls)
      unfolding salvage_number
      slots-there zero q {r} told =
          let n : r.ranges ≡ length (salvaged_ranges (descriptor_in f) (block_in f)) = ap (λ (s : Salvaged). s.ranges) told ∙ by-ranges _ _ _ fs ls out q in
          rw n (few-enough (length (salvaged_block (descriptor_in f) (block_in f))) _ (length out) _ _ (kept _ [] (kept _ _ (sym as-block ∙ q)).1).0)
      slots-there (suc e) q {r} told =
          let n : r.ranges ≡ 0 = ap (λ (s : Salvaged). s.ranges) told ∙ no-ranges e _ _ _ fs ls out q in (omega (arith, n), omega (arith, n))

      pub file-salvaged :
          {d : Descriptor} {b : List ℕ} {r : Salvaged} {us vs ws : List ℕ} → d ≡ descriptor_in f → b ≡ block_in f
          → length us ≡ length fs → length vs ≡ length ls
          → (r ≡ (salvage d b fs ls out).answer) × ((us ≡ (salvage d b fs ls out).firsts) × ((vs ≡ (salvage d b fs ls out).lasts) × (ws ≡ (salvage d b fs ls out).out)))
          → Answered r us vs ws
      file-salvaged ed eb lu lv h =
          let e = handed-over ed eb in
          let told = h.0 ∙ ap (λ (s : Salvage). s.answer) e in
          let slots = slots-there number refl told in (
            told,
            (
              h.1.0 ∙ ap (λ (s : Salvage). s.firsts) e,
              (
                h.1.1.0 ∙ ap (λ (s : Salvage). s.lasts) e,
                (h.1.1.1 ∙ ap (λ (s : Salvage). s.out) e, (omega (arith, lu, slots.0), omega (arith, lv, slots.1))),
              ),
            ),
          )
