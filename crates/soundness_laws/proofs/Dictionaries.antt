-- Dictionary blocks: the parts are as the layout says exactly when no rule refuses them. Assumes nothing.
use Prim.Native.Nat.{ℕ, ◌+◌, ◌≤◌}
use native.Mathlib.Omega.{arith}
use mathlib.Core.Bool.{Bool, true, not}
use mathlib.Core.List.{List}
use mathlib.Core.Logic.{inl, inr}
use mathlib.Core.Path.{◌≡◌, refl, sym, ap, ◌∙◌}
use lib.ListN.{length, take, drop, length-drop}
use lib.Seq.{length-take-le}
use Rattle.limits.specs.Limits.{MOST_ENTRIES}
use Rattle.limits.specs.Refusals.{KEY}
use Rattle.encode.specs.Bytes.{number_of, high-first}
use Rattle.encode.specs.declared.Kind.{Kind}
use Rattle.plain.specs.Rules.{◌if◌}
use Rattle.plain.specs.Plain.{places, plain_number}
use Rattle.rle.specs.RunLength.{runs_in, counts_length, inner_part, run_length_number}
use Rattle.dict.specs.Dictionary.{i32, key_length, entries_in, key_part, entries_part, known, keys_number, dictionary_number}
use Rattle.dict.proofs.Parts.{length-key-part}
use Rattle.format.proofs.Sound.{SoundRuns, rules-kept, dictionary-sound}
use Rattle.soundness_laws.specs.Sound.{Items, RunsOver, Runs, Keys, KeysAndEntries}
use Rattle.soundness_laws.proofs.Parts.{Laid, first_part, second-part, third-part, last-part, length-parts, in_parts}
use Rattle.soundness_laws.proofs.Items.{items-open, opens-items}
use Rattle.soundness_laws.proofs.RunLengths.{runs-read, inner-read, with-inner, runs-open, told-runs}
use Rattle.soundness_laws.proofs.Slots.{keys-known, known-keys}

-- ---- the key block: the run-length rules, and then that of the keys
module _ (entries n : ℕ) (b : List ℕ) where
  plain-keys : RunsOver (Keys entries) n b → RunsOver (Items i32) n b
  plain-keys (inl e) = inl e
  plain-keys (inr r) = inr (with-inner r {Other = Items i32} r.sound.0)

  key-runs-open : RunsOver (Keys entries) n b → run_length_number (plain_number i32) n b ≡ 0
  key-runs-open s = runs-open (Items i32) (plain_number i32) n b (items-open i32) (plain-keys s)

  -- the keys that are looked at are those of the inner block
  keys-read : {Inner : ℕ → List ℕ → Type 0} (r : Runs Inner n b)
      → known entries (inner_part (counts_length b) b) (places (runs_in b) 0) ≡ known entries r.inner (places (length r.counts) 0)
  keys-read r =
      ap (λ (l : List ℕ). known entries l (places (runs_in b) 0)) (inner-read r)
      ∙ ap (λ (m : ℕ). known entries r.inner (places m 0)) (runs-read r)

  all_known : RunsOver (Keys entries) n b → known entries (inner_part (counts_length b) b) (places (runs_in b) 0) ≡ true
  unfolding runs_in known places
  all_known (inl e) = rw e.0
  all_known (inr r) = keys-read r ∙ keys-known entries (length r.counts) r.inner r.sound.1

  keys-open : RunsOver (Keys entries) n b → keys_number entries b ≡ 0
  unfolding keys_number
  keys-open s = ap (λ (t : Bool). KEY if not t) (all_known s)

  opens-keys : SoundRuns (plain_number i32) n b (runs_in b) (counts_length b) → known entries (inner_part (counts_length b) b) (places (runs_in b) 0) ≡ true
      → RunsOver (Keys entries) n b
  opens-keys s h = by (told-runs (Items i32) (plain_number i32) n b (opens-items i32) s)
    where
      by : RunsOver (Items i32) n b → RunsOver (Keys entries) n b
      by (inl e) = inl e
      by (inr r) = inr (with-inner r {Other = Keys entries} (r.sound, known-keys entries (length r.counts) r.inner (sym (keys-read r) ∙ h)))

-- ---- the block
module _ (k : Kind) (n : ℕ) (b : List ℕ) where
  -- the rules one by one, of what is read
  number-kept : (keys entries : ℕ) → key_length b ≡ keys → entries_in b ≡ entries → 12 + keys ≤ length b → entries ≤ MOST_ENTRIES
      → run_length_number (plain_number i32) n (key_part keys b) ≡ 0 → keys_number entries (key_part keys b) ≡ 0
      → plain_number k entries (entries_part keys b) ≡ 0 → dictionary_number k n b ≡ 0
  unfolding dictionary_number
  number-kept keys entries e f room few runs known items = rules-kept k n b _ keys entries e f room few runs (rw (e, f) known) items

  pub dictionary-opens : KeysAndEntries k n b → dictionary_number k n b ≡ 0
  unfolding key_length entries_in key_part entries_part
  dictionary-opens s =
      let laid : Laid 8 4 b s.key_length.bytes s.entry_count.bytes s.key_block s.entries
      = record { whole = s.whole; first = s.key_field.0; second = s.entry_field.0 } in
      let keys : key_part (length s.key_block) b ≡ s.key_block = third-part laid in
      let items : entries_part (length s.key_block) b ≡ s.entries = last-part laid in
      number-kept (length s.key_block) s.entry_count.value
      (ap (number_of high-first) (first_part laid) ∙ s.key_field.1 ∙ s.told)
      (ap (number_of high-first) (second-part laid) ∙ s.entry_field.1)
      (omega (arith, length-parts laid)) s.few
      (ap (run_length_number (plain_number i32) n) keys ∙ key-runs-open s.entry_count.value n s.key_block s.keys)
      (ap (keys_number s.entry_count.value) keys ∙ keys-open s.entry_count.value n s.key_block s.keys)
      (ap (plain_number k s.entry_count.value) items ∙ items-open k s.entry_count.value s.entries s.sound)

  pub opens-dictionary : dictionary_number k n b ≡ 0 → KeysAndEntries k n b
  unfolding key_length entries_in key_part entries_part
  opens-dictionary z =
      let s = dictionary-sound k n b z in
      let room = s.parts.head-room in
      let four : length (take 4 (drop 8 b)) ≡ 4 = length-take-le 4 (drop 8 b) (simp length-drop (omega arith)) in
      record {
        key_length = record { value = key_length b; bytes = take 8 b };
        entry_count = record { value = entries_in b; bytes = take 4 (drop 8 b) };
        key_block = key_part (key_length b) b;
        entries = entries_part (key_length b) b;
        whole = in_parts b 8 4 (key_length b);
        key_field = (length-take-le 8 b (omega arith), refl);
        entry_field = (four, refl);
        told = sym (length-key-part (key_length b) b room);
        few = s.parts.few;
        keys = opens-keys (entries_in b) n (key_part (key_length b) b) s.parts.key-runs s.all_known;
        sound = opens-items k (entries_in b) (entries_part (key_length b) b) s.parts.entries-inside;
      }
