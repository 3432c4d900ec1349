-- A dictionary's key block: what the rules of its runs tell, and the answer on each way through `check_keys`. Assumes nothing.
use Prim.Native.Nat.{ℕ, ◌+◌, ◌-◌, ◌*◌, ◌≤◌}
use native.Mathlib.Omega.{arith}
use mathlib.Core.Bool.{Bool, true, false}
use mathlib.Core.List.{List, [], ◌∷◌}
use mathlib.Core.Logic.{⊎_elim}
use mathlib.Core.Path.{◌≡◌, refl, sym, ap, ◌∙◌}
use lib.ListN.{length, take, drop}
use Rattle.limits.specs.Refusals.{KEY}
use Rattle.plain.specs.Plain.{places, plain_number}
use Rattle.plain.proofs.Numbers.{fixed_plain}
use Rattle.rle.specs.RunLength.{runs_in, counts_length, inner_part, run_length_number}
use Rattle.encode.specs.declared.Primitive.TheVariants.{I32}
use Rattle.dict.specs.Dictionary.{i32, known, keys_number}
use Rattle.format.specs.declared.Head.{Head}
use Rattle.std.specs.Prelude.{Result, Ok, Err}
use Rattle.format.specs.Found.{found_by, inner_number, runs_head, keys_asked, key_block_number}
use Rattle.format.proofs.Answers.{first_one, broken-first, kept-first, refused-by, found-sound, found-refused}
use Rattle.format.proofs.RunBlocks.{rest_of}
use Rattle.format.proofs.Sound.{SomeRuns, SoundRuns, runs-sound}

-- a plain block of keys has four bytes a key
pub keys-there :
    (runs counts : ℕ) (b : List ℕ) → plain_number i32 runs (inner_part counts b) ≡ 0
    → 4 * runs ≤ length (take (length b - (8 + counts)) (drop (8 + counts) b))
unfolding inner_part
keys-there runs counts b h = rw rest_of (let l = fixed_plain I32 runs (drop (8 + counts) b) h in omega arith)

-- a rule that is kept is so whether it is asked or not
asked-kept : (asked : Bool) (entries : ℕ) (b : List ℕ) → keys_number entries b ≡ 0 → keys_asked asked entries b ≡ 0
unfolding keys_asked
asked-kept true entries b h = h
asked-kept false entries b h = refl

module _ (asked : Bool) (n entries : ℕ) (b : List ℕ) {found : Result Head ℕ}
    (p : found ≡ found_by (run_length_number (inner_number false i32) n b) (runs_head b)) where
  abbrev answer : Result Head ℕ
  answer = found_by (key_block_number asked n entries b) (runs_head b)

  abbrev runs_number : ℕ
  runs_number = run_length_number (plain_number i32) n b

  by_runs : found ≡ found_by runs_number (runs_head b)
  unfolding inner_number
  by_runs = p

  pub runs-wrong : {e : ℕ} → found ≡ Err e → found ≡ answer
  unfolding key_block_number
  runs-wrong {e} q =
      let r = found-refused runs_number (runs_head b) (sym q ∙ by_runs) in
      let l : runs_number ≡ 0 → ⊥ = λ z. omega (arith, r.0, r.1) in
      rw (broken-first runs_number (keys_asked asked entries b ∷ []) l) by_runs

  module _ {h : Head} (q : found ≡ Ok h) where
    told : (runs_number ≡ 0) × (h ≡ runs_head b)
    told = found-sound runs_number (runs_head b) (sym q ∙ by_runs)

    pub runs-right : SoundRuns (plain_number i32) n b h.runs h.counts
    unfolding runs_head
    runs-right = rw told.1 (runs-sound (plain_number i32) n b told.0)

    number_is : key_block_number asked n entries b ≡ keys_asked asked entries b
    unfolding key_block_number
    number_is = kept-first (keys_asked asked entries b ∷ []) told.0 ∙ first_one (keys_asked asked entries b)

    -- where rule 15 is kept or not asked, the answer is that of the runs
    same_answer : keys_asked asked entries b ≡ 0 → Ok h ≡ answer
    same_answer e = sym q ∙ by_runs ∙ rw (number_is, e, told.0)

    pub no_keys : h.runs ≡ 0 → Ok h ≡ answer
    unfolding keys_number known places runs_head
    no_keys e = let z : runs_in b ≡ 0 = sym (ap (λ (g : Head). g.runs) told.1) ∙ e in same_answer (asked-kept asked entries b (rw z))

    pub not-asked : asked ≡ false → Ok h ≡ answer
    unfolding keys_asked
    not-asked a = same_answer (rw a)

    -- there are runs: their keys stand behind the counts
    module _ (some : h.runs ≡ 0 → ⊥) where
      pub some_runs : SomeRuns (plain_number i32) b h.runs h.counts
      some_runs = ⊎_elim (λ w. absurd (some w.no-runs)) (λ w. w) runs-right.either

      module _ {t : Bool} (i : t ≡ known entries (take (length b - (8 + h.counts)) (drop (8 + h.counts) b)) (places h.runs 0)) where
        known_is : known entries (inner_part (counts_length b) b) (places (runs_in b) 0) ≡ t
        unfolding inner_part runs_head
        known_is =
            let read : (counts_length b ≡ h.counts) × (runs_in b ≡ h.runs) =
            (sym (ap (λ (g : Head). g.counts) told.1), sym (ap (λ (g : Head). g.runs) told.1)) in
            rw (read.0, read.1) (sym (rw rest_of at i))

        pub keys-right : t ≡ true → Ok h ≡ answer
        unfolding keys_number
        keys-right e = same_answer (asked-kept asked entries b (rw (known_is, e)))

        pub keys-wrong : asked ≡ true → t ≡ false → Err KEY ≡ answer
        unfolding keys_asked keys_number
        keys-wrong a e = rw (number_is, a, known_is, e) (refused-by KEY (runs_head b) (λ z. omega arith))
