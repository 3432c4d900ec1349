-- The keys of the runs, looked up among the entries that stand behind them: those stay while the keys are written. Assumes nothing.
use Prim.Native.Nat.{ℕ, ◌+◌, ◌-◌, ◌*◌, ◌≤◌}
use native.Mathlib.Omega.{arith}
use mathlib.Core.List.{List}
use mathlib.Core.Path.{◌≡◌, sym, ap, ◌∙◌}
use lib.ListN.{length, take, drop}
use lib.Seq.{sets}
use Rattle.encode.specs.Bytes.{little}
use Rattle.encode.specs.declared.Kind.{Kind}
use Rattle.plain.specs.Rows.{Row}
use Rattle.plain.specs.Plain.{item_of}
use Rattle.rle.specs.RunLength.{run, runs_of}
use Rattle.dict.specs.Dictionary.{entries_of, entry_row}
use Rattle.source.specs.declared.ShownRun.{ShownRun}
use Rattle.repaired.specs.Repaired.{rows_repaired, Entered}
use Rattle.repaired.proofs.Merging.{FirstRun}
use Rattle.used.specs.Used.{plain_rows}
use Rattle.repaired_keys.specs.Keys.{Apart, key_slot, key_bytes}
use Rattle.repaired_keys.proofs.Writing.{Writing, writing-behind, writing-room, writing_step, writing-end}
use Rattle.repaired_keys.proofs.KeyItems.{key_item, key-item, keys-joined, keys-long}
use Rattle.repaired_keys.proofs.EntriesApart.{entries-apart}

module _ (k : Kind) (entries runs : ℕ) (counts keys items : List ℕ) (n : ℕ) (out₀ : List ℕ) (at : ℕ) where
  abbrev rows : List Row
  rows = rows_repaired k entries runs counts keys items n

  abbrev pub Keys : List ℕ → ℕ → ℕ → ShownRun → Type 0
  Keys out to left x = Writing (key_item (entries_of rows)) k entries runs counts keys items n out₀ at out to left x

  module _ {out : List ℕ} {to left : ℕ} {x : ShownRun} (g : Keys out to left x) where
    pub keys-end : left ≤ 0 → out ≡ sets out₀ at (key_bytes rows)
    keys-end h = writing-end _ _ _ _ _ _ _ _ _ _ g h ∙ ap (sets out₀ at) (sym (keys-joined rows))

    -- the entries that stand from one place to another, behind the keys
    module _ (from end : ℕ) (before : at + 4 * length (runs_of rows) ≤ from) where
      abbrev there : List ℕ → List ℕ
      there area = take (end - from) (drop from area)

      same-there : there out ≡ there out₀
      same-there = ap (take (end - from)) (writing-behind _ _ _ _ _ _ _ _ _ _ g {from = from} (omega (arith, keys-long rows)))

      pub keys-entered : {kept : ℕ} → Entered k kept (there out₀) → Entered k kept (there out)
      keys-entered h = rw same-there h

      pub keys-apart : (kept : ℕ) → plain_rows k kept (there out₀) ≡ entries_of rows → Apart (plain_rows k kept (there out))
      keys-apart kept reads = rw (same-there, reads) (entries-apart rows)

      module _ {y : ShownRun} {slot m : ℕ} (told : FirstRun k entries runs counts keys items x left y slot m) where
        pub keys-room : from ≤ length out₀ → to + 4 ≤ length out
        unfolding item_of
        keys-room h = writing-room _ _ _ _ _ _ _ _ _ _ g told (omega (arith, keys-long rows))

        module _ {kept : ℕ} (few : Entered k kept (there out₀)) (reads : plain_rows k kept (there out₀) ≡ entries_of rows)
            {r : ℕ} (is : (r ≡ key_slot (plain_rows k kept (there out)) (entry_row k entries items slot)) × (r ≤ kept + 1)) where
          slot_of : r ≡ key_slot (entries_of rows) (entry_row k entries items slot)
          slot_of =
              is.0
              ∙ ap (λ (l : List ℕ). key_slot (plain_rows k kept l) (entry_row k entries items slot)) same-there
              ∙ ap (λ (es : List Row). key_slot es (entry_row k entries items slot)) reads

          item : little 4 (2147483648 + r) ≡ key_item (entries_of rows) (run (entry_row k entries items slot) m)
          item =
              ap (λ (i : ℕ). little 4 (2147483648 + i)) slot_of
              ∙ key-item (entries_of rows) (entry_row k entries items slot) (omega (arith, slot_of, few.few))

          pub keys_step : {to' : ℕ} {out' : List ℕ} → to' ≡ to + 4 → out' ≡ sets out to (little 4 (2147483648 + r)) → Keys out' to' (left - m) y
          unfolding item_of
          keys_step p q = writing_step _ _ _ _ _ _ _ _ _ _ g told p (q ∙ ap (sets out to) item)
