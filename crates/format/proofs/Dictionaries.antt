-- A dictionary block: the answer on each way through `check_dictionary`. Assumes nothing.
use Prim.Native.Nat.{ℕ, ◌+◌, ◌-◌, ◌≤◌, ◌<◌}
use native.Mathlib.Omega.{arith}
use mathlib.Core.Bool.{Bool}
use mathlib.Core.List.{List, [], ◌∷◌}
use mathlib.Core.Path.{◌≡◌, sym, ◌∙◌}
use lib.ListN.{length, take, drop}
use borrow.Author.Tests.{lt-ltb, le-ltb}
use Rattle.limits.specs.Refusals.{LIMIT, CUT}
use Rattle.limits.specs.Limits.{MOST_ENTRIES}
use Rattle.encode.specs.declared.Kind.{Kind}
use Rattle.plain.specs.Rules.{first_of}
use Rattle.plain.specs.Plain.{plain_number}
use Rattle.rle.specs.RunLength.{run_length_number}
use Rattle.dict.specs.Dictionary.{i32, key_length, entries_in, key_part, entries_part, dictionary_rules}
use Rattle.format.specs.declared.Encoding.TheVariants.{Dictionary}
use Rattle.format.specs.declared.Head.{Head}
use Rattle.std.specs.Prelude.{Result, Ok, Err}
use Rattle.format.specs.Opening.{head, head_of}
use Rattle.format.specs.Found.{found_by, runs_head, keys_asked, key_block_number, dictionary_asked}
use Rattle.format.proofs.Answers.{first_one, broken-first, kept-first, two-first, refused-by, sound-by, found-sound, found-refused}
use Rattle.format.proofs.RunBlocks.{rest_of}

module _ (asked : Bool) (k : Kind) (n : ℕ) (b : List ℕ) where
  abbrev answer : Result Head ℕ
  answer = found_by (dictionary_asked asked k n b) (head_of Dictionary b)

  refused : (e : ℕ) → (e ≡ 0 → ⊥) → dictionary_asked asked k n b ≡ e → Err e ≡ answer
  refused e l h = rw h (refused-by e (head_of Dictionary b) l)

  pub too_short : length b < 12 → Err CUT ≡ answer
  unfolding dictionary_asked dictionary_rules first_of
  too_short h = refused CUT (λ z. omega arith) (simp (lt-ltb (length b) 12 h))

  module _ (h0 : 12 ≤ length b) {entries : ℕ} (e1 : entries ≡ entries_in b) where
    pub too_many : MOST_ENTRIES < entries → Err LIMIT ≡ answer
    unfolding dictionary_asked dictionary_rules first_of
    too_many h = refused LIMIT (λ z. omega arith) (rw (← e1) (simp (le-ltb (length b) 12 h0, lt-ltb MOST_ENTRIES entries h)))

    module _ (h1 : entries ≤ MOST_ENTRIES) {keys : ℕ} (e2 : keys ≡ key_length b) where
      pub cut_short : length b < 12 + keys → Err CUT ≡ answer
      unfolding dictionary_asked dictionary_rules first_of
      cut_short h =
          refused CUT (λ z. omega arith)
          (rw (← e1, ← e2) (simp (le-ltb (length b) 12 h0, le-ltb MOST_ENTRIES entries h1, lt-ltb (length b) (12 + keys) h)))

      -- the key block and the entries stand in their parts of the block
      module _ (h2 : 12 + keys ≤ length b) where
        abbrev part : List ℕ
        part = take (12 + keys - 12) (drop 12 b)

        part-is : key_part (key_length b) b ≡ part
        unfolding key_part
        part-is = let m : 12 + keys - 12 ≡ keys = omega arith in rw (m, e2)

        -- the rules behind the head
        number_is : dictionary_asked asked k n b ≡ first_of (key_block_number asked n entries part ∷ plain_number k entries (drop (12 + keys) b) ∷ [])
        unfolding dictionary_asked dictionary_rules first_of key_block_number entries_part
        number_is =
            rw (part-is, ← e1, ← e2)
            (simp (le-ltb (length b) 12 h0, le-ltb MOST_ENTRIES entries h1, le-ltb (length b) (12 + keys) h2)
            (two-first (run_length_number (plain_number i32) n part) (keys_asked asked entries part) (plain_number k entries (drop (12 + keys) b))))

        module _ {found : Result Head ℕ} (p : found ≡ found_by (key_block_number asked n entries part) (runs_head part)) where
          pub keys-wrong : {e : ℕ} → found ≡ Err e → found ≡ answer
          keys-wrong {e} q =
              let r = found-refused (key_block_number asked n entries part) (runs_head part) (sym q ∙ p) in
              let l : key_block_number asked n entries part ≡ 0 → ⊥ = λ z. omega (arith, r.0, r.1) in
              let first = broken-first (key_block_number asked n entries part) (plain_number k entries (drop (12 + keys) b) ∷ []) l in
              q ∙ refused e (λ z. omega (arith, r.1)) (number_is ∙ first ∙ r.0)

          module _ {h : Head} (q : found ≡ Ok h) where
            told : (key_block_number asked n entries part ≡ 0) × (h ≡ runs_head part)
            told = found-sound (key_block_number asked n entries part) (runs_head part) (sym q ∙ p)

            module _ {r : ℕ} (i : r ≡ plain_number k entries (take (length b - (12 + keys)) (drop (12 + keys) b))) where
              plain-is : dictionary_asked asked k n b ≡ r
              plain-is =
                  number_is
                  ∙ kept-first (plain_number k entries (drop (12 + keys) b) ∷ []) told.0
                  ∙ first_one (plain_number k entries (drop (12 + keys) b))
                  ∙ sym (rw rest_of at i)

              pub entries-wrong : (r ≡ 0 → ⊥) → Err r ≡ answer
              entries-wrong e = refused r e plain-is

              pub entries-right : r ≡ 0 → Ok (head h.runs h.counts keys entries) ≡ answer
              unfolding head_of runs_head
              entries-right e = rw (plain-is, e) (rw (part-is, told.1, ← e1, ← e2) (sound-by _))
