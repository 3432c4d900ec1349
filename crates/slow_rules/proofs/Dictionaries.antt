-- The number that a dictionary block's rules give, by what the code read and tested. Assumes nothing.
use Rattle.std.specs.Prelude.{Err}
use Prim.Native.Nat.{ℕ, ◌+◌, ◌-◌, ◌≤◌}
use native.Mathlib.Omega.{arith}
use mathlib.Core.Bool.{true, false}
use mathlib.Core.List.{List, [], ◌∷◌}
use mathlib.Core.Path.{◌≡◌, sym, ap, ◌∙◌}
use lib.ListN.{length, take, drop}
use borrow.Author.Tests.{le-ltb}
use Rattle.limits.specs.Limits.{MOST_ENTRIES}
use Rattle.encode.specs.declared.Kind.{Kind}
use Rattle.plain.specs.Rules.{first_of}
use Rattle.plain.specs.Plain.{plain_number}
use Rattle.rle.specs.RunLength.{run_length_number}
use Rattle.dict.specs.Dictionary.{i32, key_length, entries_in, key_part, entries_part, keys_number, dictionary_rules, dictionary_number}
use Rattle.format.specs.declared.Encoding.TheVariants.{Dictionary}
use Rattle.format.specs.Opening.{head_of}
use Rattle.format.specs.Found.{found_by, inner_number, keys_asked, dictionary_asked}
use Rattle.format.proofs.Answers.{first_one, broken-first, kept-first, found-refused}
use Rattle.format.proofs.RunBlocks.{rest_of}
use Rattle.slow_rules.specs.KeyBlock.{KeyBlock}

-- a key block whose rules gave 0 is sound
pub keys-sound : (n : ℕ) (b : List ℕ) {r : ℕ} → r ≡ run_length_number (inner_number false i32) n b → r ≡ 0 → KeyBlock b
unfolding inner_number
keys-sound n b e z = record { rows = n; rules = sym e ∙ z }

module _ (k : Kind) (n : ℕ) (b : List ℕ) where
  -- a refusal of a block whose rule 15 is asked gives its number
  pub refused : {e : ℕ} → Err e ≡ found_by (dictionary_asked true k n b) (head_of Dictionary b) → e ≡ dictionary_number k n b
  unfolding dictionary_asked dictionary_number keys_asked
  refused q = sym (found-refused (dictionary_asked true k n b) (head_of Dictionary b) q).0

  -- the rules of the head are kept
  module _ (h0 : 12 ≤ length b) {entries : ℕ} (e1 : entries ≡ entries_in b) (h1 : entries ≤ MOST_ENTRIES) {keys : ℕ} (e2 : keys ≡ key_length b)
      (h2 : 12 + keys ≤ length b) where
    abbrev part : List ℕ
    part = take (12 + keys - 12) (drop 12 b)

    -- what is left: the key block, its keys, then the entries
    abbrev rest : ℕ → ℕ → ℕ
    rest runs unknown = first_of (runs ∷ unknown ∷ plain_number k entries (drop (12 + keys) b) ∷ [])

    number_is : dictionary_number k n b ≡ rest (run_length_number (plain_number i32) n part) (keys_number entries part)
    unfolding dictionary_number dictionary_rules key_part entries_part first_of
    number_is =
        let m : 12 + keys - 12 ≡ keys = omega arith in
        rw (m, ← e1, ← e2) (simp (le-ltb (length b) 12 h0, le-ltb MOST_ENTRIES entries h1, le-ltb (length b) (12 + keys) h2))

    module _ {r : ℕ} (p : r ≡ run_length_number (inner_number false i32) n part) where
      runs-are : dictionary_number k n b ≡ rest r (keys_number entries part)
      unfolding inner_number
      runs-are = number_is ∙ ap (λ (x : ℕ). rest x (keys_number entries part)) (sym p)

      pub runs-wrong : (r ≡ 0 → ⊥) → r ≡ dictionary_number k n b
      runs-wrong z = sym (runs-are ∙ broken-first r _ z)

      module _ (z : r ≡ 0) {u : ℕ} (q : u ≡ keys_number entries part) where
        keys-are : dictionary_number k n b ≡ first_of (u ∷ plain_number k entries (drop (12 + keys) b) ∷ [])
        keys-are = runs-are ∙ kept-first _ z ∙ ap (λ (x : ℕ). first_of (x ∷ plain_number k entries (drop (12 + keys) b) ∷ [])) (sym q)

        pub keys-wrong : (u ≡ 0 → ⊥) → u ≡ dictionary_number k n b
        keys-wrong y = sym (keys-are ∙ broken-first u _ y)

        pub then-entries :
            u ≡ 0 → {x : ℕ} → x ≡ plain_number k entries (take (length b - (12 + keys)) (drop (12 + keys) b)) → x ≡ dictionary_number k n b
        then-entries y {x} i =
            let v : ℕ = plain_number k entries (drop (12 + keys) b) in
            (rw rest_of at i) ∙ sym (keys-are ∙ kept-first (v ∷ []) y ∙ first_one v)
