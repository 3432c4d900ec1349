-- What a sound block tells: its limits, and what stands at its head and behind it. Assumes nothing.
use Prim.Native.Nat.{ℕ, ◌+◌, ◌≤◌, ◌<◌}
use native.Mathlib.Omega.{arith}
use mathlib.Core.Bool.{true}
use mathlib.Core.List.{List, [], ◌∷◌}
use mathlib.Core.Logic.{◌⊎◌, inl, inr}
use mathlib.Core.Path.{◌≡◌, refl, sym, ap, ◌∙◌}
use lib.Dec.{ltb}
use lib.ListN.{length}
use borrow.Author.Tests.{le-ltb, ltb-false, not-false}
use Rattle.limits.specs.Refusals.{LIMIT, CUT, KEY}
use Rattle.limits.specs.Limits.{MOST_ITEMS, MOST_ENTRIES, MOST_BYTES}
use Rattle.encode.specs.declared.Kind.{Kind}
use Rattle.plain.proofs.Rules.{kept, whole}
use Rattle.plain.specs.Rules.{◌if◌, first_of}
use Rattle.plain.specs.Plain.{places, plain_number}
use Rattle.nullable.specs.Nullable.{nullable_number}
use Rattle.std.specs.Prelude.{Option, Some, None, Result, Ok, Err}
use Rattle.rle.specs.declared.RunHead.{RunHead}
use Rattle.rle.specs.RunLength.{runs_in, counts_length, counts_part, inner_part, walked, run_length_number}
use Rattle.rle.specs.Pieces.{head_found, number_by}
use Rattle.rle.proofs.Opening.{head-number, head-sound, head-empty, head-refused}
use Rattle.dict.specs.Dictionary.{i32, key_length, entries_in, key_part, entries_part, known, keys_number, dictionary_rules, dictionary_number}
use Rattle.format.specs.declared.Encoding.{Encoding}
use Rattle.format.specs.declared.Encoding.TheVariants.{Plain, Nullable, RunLength, RunLengthNullable, Dictionary}
use Rattle.format.specs.Blocks.{column}
use Rattle.format.specs.Opening.{rules_of, most_rows, column_number, head_of}
use Rattle.format.proofs.Answers.{first_one}

-- ---- the limits, and the rules behind them
pub record Within (k : Kind) (e : Encoding) (n : ℕ) (b : List ℕ) : Type 0 where
  pub size : length b ≤ MOST_BYTES
  pub most : n ≤ most_rows e
  pub rules : rules_of k e n b ≡ 0

module _ (k : Kind) (e : Encoding) (n : ℕ) (b : List ℕ) where
  pub column-sound : column_number (Some (column k e)) n b ≡ 0 → Within k e n b
  unfolding column_number
  column-sound h =
      let x = kept (LIMIT if ltb MOST_BYTES (length b)) _ h in
      let y = kept (LIMIT if ltb (most_rows e) n) _ x.1 in
      record {
        size = ltb-false _ _ (whole LIMIT _ (omega arith) x.0);
        most = ltb-false _ _ (whole LIMIT _ (omega arith) y.0);
        rules = sym (first_one (rules_of k e n b)) ∙ y.1;
      }

  -- within the limits the rules give the number
  pub column-rules : length b ≤ MOST_BYTES → n ≤ most_rows e → column_number (Some (column k e)) n b ≡ rules_of k e n b
  unfolding column_number first_of
  column-rules l m = simp (le-ltb MOST_BYTES (length b) l, le-ltb (most_rows e) n m) (first_one (rules_of k e n b))

-- ---- a run-length block: there is no block at all, or a head, the counts and an inner block
pub record NoRuns (n : ℕ) (b : List ℕ) (runs counts : ℕ) : Type 0 where
  pub no_bytes : b ≡ []
  pub no_rows : n ≡ 0
  pub no-runs : runs ≡ 0
  pub no-counts : counts ≡ 0

pub record SomeRuns (inner : ℕ → List ℕ → ℕ) (b : List ℕ) (runs counts : ℕ) : Type 0 where
  pub some : 0 < runs
  pub room : 8 + counts ≤ length b
  pub inside : inner runs (inner_part counts b) ≡ 0

pub record SoundRuns (inner : ℕ → List ℕ → ℕ) (n : ℕ) (b : List ℕ) (runs counts : ℕ) : Type 0 where
  pub many : runs ≤ MOST_ITEMS
  pub sum : walked runs (counts_part counts b) ≡ Ok n
  pub either : NoRuns n b runs counts ⊎ SomeRuns inner b runs counts

module _ (inner : ℕ → List ℕ → ℕ) (n : ℕ) where
  none_told : (b : List ℕ) → length b ≡ 0 → n ≡ 0 → SoundRuns inner n b (runs_in b) (counts_length b)
  unfolding runs_in counts_length counts_part walked
  none_told [] h z =
      record {
        many = omega arith;
        sum = ap Ok (sym z);
        either = inl (record { no_bytes = refl; no_rows = z; no-runs = refl; no-counts = refl });
      }
  none_told (x ∷ b) h z = absurd (omega arith)

  pub runs-sound : (b : List ℕ) → run_length_number inner n b ≡ 0 → SoundRuns inner n b (runs_in b) (counts_length b)
  unfolding number_by
  runs-sound b h = by (head_found n b) refl
    where
      by : (g : Result (Option RunHead) ℕ) → head_found n b ≡ g → SoundRuns inner n b (runs_in b) (counts_length b)
      by (Ok None) e = let z = head-empty n b e in none_told b z.0 z.1
      by (Err x) e =
          let p = head-refused n b e in
          let q : x ≡ 0 = sym (head-number inner n b ∙ ap (number_by inner b) e) ∙ h in
          absurd (omega arith)
      by (Ok (Some r)) e =
          let s = head-sound n b e in
          let q : inner r.runs (inner_part r.counts b) ≡ 0 = sym (head-number inner n b ∙ ap (number_by inner b) e) ∙ h in
          rw (← s.runs-read, ← s.counts-read)
          (record { many = s.many; sum = s.sum; either = inr (record { some = s.some; room = s.room; inside = q }) })

-- ---- a dictionary block
-- what all rules but 15 tell: of the key block its rules, and what they tell in turn
pub record SoundParts (k : Kind) (n : ℕ) (b : List ℕ) (runs counts keys entries : ℕ) : Type 0 where
  pub few : entries ≤ MOST_ENTRIES
  pub head-room : 12 + keys ≤ length b
  pub key-rules : run_length_number (plain_number i32) n (key_part keys b) ≡ 0
  pub key-runs : SoundRuns (plain_number i32) n (key_part keys b) runs counts
  pub entries-inside : plain_number k entries (entries_part keys b) ≡ 0

-- with rule 15
pub record SoundKeys (k : Kind) (n : ℕ) (b : List ℕ) (runs counts keys entries : ℕ) : Type 0 where
  pub parts : SoundParts k n b runs counts keys entries
  pub all_known : known entries (inner_part counts (key_part keys b)) (places runs 0) ≡ true

-- the keys of a key block: each is known
pub keys-known :
    (entries : ℕ) (b : List ℕ) → keys_number entries b ≡ 0 → known entries (inner_part (counts_length b) b) (places (runs_in b) 0) ≡ true
unfolding keys_number
keys-known entries b h = not-false _ (whole KEY _ (omega arith) h)

module _ (k : Kind) (n : ℕ) (b : List ℕ) where
  -- the rules one by one, of what is read
  pub rules-kept : (fifteen keys entries : ℕ) → key_length b ≡ keys → entries_in b ≡ entries → 12 + keys ≤ length b → entries ≤ MOST_ENTRIES
      → run_length_number (plain_number i32) n (key_part keys b) ≡ 0 → fifteen ≡ 0 → plain_number k entries (entries_part keys b) ≡ 0
      → dictionary_rules fifteen k n b ≡ 0
  unfolding dictionary_rules first_of
  rules-kept fifteen keys entries e f room few runs known items =
      let head : 12 ≤ length b = omega arith in
      rw (e, f)
      (simp (le-ltb (length b) 12 head, le-ltb MOST_ENTRIES entries few, le-ltb (length b) (12 + keys) room, runs, known, items))

  -- and back: what the rules tell
  pub rules-told : (fifteen : ℕ) → dictionary_rules fifteen k n b ≡ 0
      → SoundParts k n b (runs_in (key_part (key_length b) b)) (counts_length (key_part (key_length b) b)) (key_length b) (entries_in b) × (fifteen ≡ 0)
  unfolding dictionary_rules
  rules-told fifteen h =
      let x = kept (CUT if ltb (length b) 12) _ h in
      let y = kept (LIMIT if ltb MOST_ENTRIES (entries_in b)) _ x.1 in
      let z = kept (CUT if ltb (length b) (12 + key_length b)) _ y.1 in
      let u = kept (run_length_number (plain_number i32) n (key_part (key_length b) b)) _ z.1 in
      let v = kept fifteen _ u.1 in (
        record {
          few = ltb-false _ _ (whole LIMIT _ (omega arith) y.0);
          head-room = ltb-false _ _ (whole CUT _ (omega arith) z.0);
          key-rules = u.0;
          key-runs = runs-sound (plain_number i32) n (key_part (key_length b) b) u.0;
          entries-inside = sym (first_one (plain_number k (entries_in b) (entries_part (key_length b) b))) ∙ v.1;
        },
        v.0,
      )

  pub dictionary-sound : dictionary_number k n b ≡ 0
      → SoundKeys k n b (runs_in (key_part (key_length b) b)) (counts_length (key_part (key_length b) b)) (key_length b) (entries_in b)
  unfolding dictionary_number
  dictionary-sound h =
      let t = rules-told (keys_number (entries_in b) (key_part (key_length b) b)) h in
      record { parts = t.0; all_known = keys-known (entries_in b) (key_part (key_length b) b) t.1 }

  -- A sound block keeps the rules as if every key were good.
  pub but-keys : dictionary_number k n b ≡ 0 → dictionary_rules 0 k n b ≡ 0
  but-keys h =
      let s = (dictionary-sound h).parts in
      rules-kept 0 (key_length b) (entries_in b) refl refl s.head-room s.few s.key-rules refl s.entries-inside

-- ---- by encoding
module _ (k : Kind) (n : ℕ) (b : List ℕ) where
  pub plain-sound : rules_of k Plain n b ≡ 0 → plain_number k n b ≡ 0
  unfolding rules_of
  plain-sound h = h

  pub nullable-sound : rules_of k Nullable n b ≡ 0 → nullable_number k n b ≡ 0
  unfolding rules_of
  nullable-sound h = h

  pub run-length-sound :
      rules_of k RunLength n b ≡ 0 → SoundRuns (plain_number k) n b (head_of RunLength b).runs (head_of RunLength b).counts
  unfolding rules_of head_of
  run-length-sound h = runs-sound (plain_number k) n b h

  pub run-length-nullable-sound :
      rules_of k RunLengthNullable n b ≡ 0
      → SoundRuns (nullable_number k) n b (head_of RunLengthNullable b).runs (head_of RunLengthNullable b).counts
  unfolding rules_of head_of
  run-length-nullable-sound h = runs-sound (nullable_number k) n b h

  pub parts-sound :
      dictionary_rules 0 k n b ≡ 0
      → SoundParts k n b (head_of Dictionary b).runs (head_of Dictionary b).counts (head_of Dictionary b).keys (head_of Dictionary b).entries
  unfolding head_of
  parts-sound h = (rules-told k n b 0 h).0

  pub keys-sound :
      rules_of k Dictionary n b ≡ 0
      → SoundKeys k n b (head_of Dictionary b).runs (head_of Dictionary b).counts (head_of Dictionary b).keys (head_of Dictionary b).entries
  unfolding rules_of head_of
  keys-sound h = dictionary-sound k n b h
