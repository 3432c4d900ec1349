-- The key block of some rows: its four parts, written one behind the other before entries that stand there already. Assumes nothing.
use Prim.Native.Nat.{ℕ, ◌+◌, ◌-◌, ◌*◌}
use native.Mathlib.Omega.{arith}
use mathlib.Core.List.{List, [], ◌∷◌, ◌++◌, map, map-map}
use mathlib.Core.Path.{◌≡◌, refl, sym, ap, ◌∙◌}
use lib.ListN.{length, take, drop, length-append, length-map}
use lib.Seq.{sets}
use borrow.Author.Tests.{ne_eqb}
use Rattle.encode.specs.Bytes.{little}
use Rattle.encode.specs.declared.Kind.{Kind}
use Rattle.varint.specs.Varint.{spelling}
use Rattle.plain.specs.Rows.{Row}
use Rattle.plain.specs.Plain.{plain_of}
use Rattle.rle.specs.RunLength.{Run, run, runs_of, counts_of, run_length_of}
use Rattle.dict.specs.Dictionary.{i32, entries_of, key_of, key_block_of}
use Rattle.emit.proofs.Writing.{laid_both}
use Rattle.repaired.specs.Repaired.{Entered}
use Rattle.repaired_laws.proofs.KeyRuns.{key-runs}
use Rattle.repaired_laws.proofs.Lengths.{no-key-bytes, key-block-length}
use Rattle.used.specs.Used.{plain_rows}
use Rattle.repaired_sizes.specs.declared.Sizes.{Sizes}
use Rattle.repaired_sizes.specs.Sizes.{sizes_of, keys_long}
use Rattle.repaired_keys.specs.Keys.{key_bytes}
use Rattle.repaired_keys.proofs.KeyItems.{joined-map}
use Rattle.repaired_keys.proofs.Writing.{drop-sets}

-- ---- the parts: how many runs, the bytes of their counts, the counts, the keys
abbrev parts : List Run → List ℕ → List ℕ
parts rs inner = little 4 (length rs) ++ little 4 (length (counts_of rs)) ++ counts_of rs ++ inner

abbrev each : (Row → Row) → Run → Run
each g r = run (g r.row) r.count

counts-kept : (g : Row → Row) (rs : List Run) → counts_of (map (each g) rs) ≡ counts_of rs
unfolding counts_of
counts-kept g rs = joined-map (λ (r : Run). spelling r.count) (each g) rs

each-parts : (g : Row → Row) (rs : List Run)
    → parts (map (each g) rs) (plain_of i32 (map (λ r. r.row) (map (each g) rs))) ≡ parts rs (plain_of i32 (map (λ (r : Run). g r.row) rs))
each-parts g rs = rw (length-map rs (each g), counts-kept g rs, map-map (λ (r : Run). r.row) (each g) rs)

-- ... of rows that have runs
some-key-block : (rows : List Row) → (length (runs_of rows) ≡ 0 → ⊥) → parts (runs_of rows) (key_bytes rows) ≡ key_block_of rows
unfolding key_block_of run_length_of key_bytes
some-key-block [] h = absurd (h (unfold runs_of in refl))
some-key-block (x ∷ xs) h =
    sym
    (ap (λ (rs : List Run). parts rs (plain_of i32 (map (λ r. r.row) rs))) (key-runs (x ∷ xs))
    ∙ each-parts (key_of (entries_of (x ∷ xs))) (runs_of (x ∷ xs)))

none : (l : List ℕ) → length l ≡ 0 → l ≡ []
none [] e = refl
none (x ∷ xs) e = absurd (omega arith)

-- ---- written, where the sizes are those of the rows
module _ (k : Kind) (rows : List Row) {s : Sizes} (is : s ≡ sizes_of k rows) where
  runs-are : s.runs ≡ length (runs_of rows)
  unfolding sizes_of
  runs-are = ap (λ (z : Sizes). z.runs) is

  counts-are : s.counts ≡ length (counts_of (runs_of rows))
  unfolding sizes_of
  counts-are = ap (λ (z : Sizes). z.counts) is

  -- no runs, no bytes
  pub none_written : s.runs ≡ 0 → (d : List ℕ) → d ≡ sets d 12 (key_block_of rows)
  none_written e d =
      let n : length (runs_of rows) ≡ 0 = sym runs-are ∙ e in
      ap (sets d 12) (sym (none (key_block_of rows) (key-block-length rows ∙ no-key-bytes (runs_of rows) n)))

  module _ (some : s.runs ≡ 0 → ⊥) where
    -- the key block ends where the entries begin
    pub key-room : {from : ℕ} → from ≡ 12 + keys_long s → (s.counts ≡ length (counts_of (runs_of rows))) × (20 + s.counts + 4 * length (runs_of rows) ≡ from)
    unfolding keys_long
    key-room e = let z = ne_eqb s.runs 0 some in (counts-are, omega (arith, rw z at e, runs-are))

    -- the numbers and the counts are written
    abbrev before : List ℕ
    before = little 4 s.runs ++ little 4 s.counts ++ counts_of (runs_of rows)

    module _ (d : List ℕ) {d₁ d₂ d₃ : List ℕ} (p : d₁ ≡ sets d 12 (little 4 s.runs)) (q : d₂ ≡ sets d₁ 16 (little 4 s.counts))
        (r : d₃ ≡ sets d₂ 20 (counts_of (runs_of rows))) where
      counted : d₃ ≡ sets d 12 before
      counted =
          (laid_both d 12 (little 4 s.runs ++ little 4 s.counts) (counts_of (runs_of rows))
          (laid_both d 12 (little 4 s.runs) (little 4 s.counts) (refl, p) (refl, q))
          (refl, r)
          ).1

      -- the entries stand behind them as before
      module _ {from : ℕ} (e : from ≡ 12 + keys_long s) (end : ℕ) where
        abbrev there : List ℕ → List ℕ
        there area = take (end - from) (drop from area)

        same-there : there d₃ ≡ there d
        same-there =
            let l = length-append (little 4 s.runs ++ little 4 s.counts) (counts_of (runs_of rows)) in
            ap (λ (area : List ℕ). there area) counted
            ∙ ap (take (end - from)) (drop-sets before d 12 from (omega (arith, l, key-room e)))

        pub still-entered : {kept : ℕ} → Entered k kept (there d) → Entered k kept (there d₃)
        still-entered h = rw same-there h

        pub still_read : (kept : ℕ) {es : List Row} → plain_rows k kept (there d) ≡ es → plain_rows k kept (there d₃) ≡ es
        still_read kept h = ap (λ (area : List ℕ). plain_rows k kept area) same-there ∙ h

      -- and the keys
      pub keys-written : {d₄ : List ℕ} → d₄ ≡ sets d₃ (20 + s.counts) (key_bytes rows) → d₄ ≡ sets d 12 (key_block_of rows)
      keys-written {d₄} w =
          let l = length-append (little 4 s.runs ++ little 4 s.counts) (counts_of (runs_of rows)) in
          let place : 20 + s.counts ≡ 12 + length before = omega (arith, l, counts-are) in
          let all : d₄ ≡ sets d 12 (before ++ key_bytes rows) = (laid_both d 12 before (key_bytes rows) {to = 20 + s.counts} (place, counted) (refl, w)).1 in
          all
          ∙ ap (λ (n : ℕ). sets d 12 (little 4 n ++ little 4 s.counts ++ counts_of (runs_of rows) ++ key_bytes rows)) runs-are
          ∙ ap (λ (n : ℕ). sets d 12 (little 4 (length (runs_of rows)) ++ little 4 n ++ counts_of (runs_of rows) ++ key_bytes rows)) counts-are
          ∙ ap (sets d 12) (some-key-block rows (λ z. some (runs-are ∙ z)))
