-- How long the dictionary block of some rows is, by the runs of the rows and their entries. Assumes nothing.
use Prim.Native.Nat.{ℕ, suc, ◌+◌, ◌*◌, ◌≤◌}
use native.Mathlib.Nat.{mul_comm}
use native.Mathlib.Omega.{arith}
use mathlib.Core.Bool.{Bool, true, false, cond}
use mathlib.Core.List.{List, [], ◌∷◌, ◌++◌, map}
use mathlib.Core.Path.{◌≡◌, refl, ap, ◌∙◌}
use lib.Dec.{eqb}
use lib.ListN.{length, length-append, length-map}
use borrow.Author.Tests.{eq-eqb, ne_eqb}
use Rattle.encode.specs.declared.Primitive.TheVariants.{I32}
use Rattle.encode.specs.declared.Kind.{Kind}
use Rattle.varint.specs.Varint.{spelling}
use Rattle.plain.specs.Rows.{Row}
use Rattle.plain.specs.Plain.{joined, item_of, plain_of}
use Rattle.plain.proofs.Each.{length-joined, fixed-wide}
use Rattle.rle.specs.RunLength.{Run, run, runs_of, counts_of, run_length_of}
use Rattle.dict.specs.Dictionary.{i32, entries_of, key_of, key_block_of, dictionary_of}
use Rattle.format.specs.Sizes.{keys_of}
use Rattle.block_laws.proofs.Runs.{spread, spread-runs}
use Rattle.repaired_laws.proofs.KeyRuns.{key-runs}

-- ---- the keys of some rows: as many runs, with the same counts, and four bytes a key
pub key-runs-many : (rows : List Row) → length (runs_of (keys_of rows)) ≡ length (runs_of rows)
unfolding keys_of
key-runs-many rows = ap length (key-runs rows) ∙ length-map (runs_of rows) (λ r. run (key_of (entries_of rows) r.row) r.count)

counts-kept : (g : Row → Row) (rs : List Run) → counts_of (map (λ r. run (g r.row) r.count) rs) ≡ counts_of rs
unfolding counts_of joined
counts-kept g [] = refl
counts-kept g (r ∷ rs) = ap (λ (l : List ℕ). spelling r.count ++ l) (counts-kept g rs)

key_counts : (rows : List Row) → counts_of (runs_of (keys_of rows)) ≡ counts_of (runs_of rows)
unfolding keys_of
key_counts rows = ap counts_of (key-runs rows) ∙ counts-kept (key_of (entries_of rows)) (runs_of rows)

key-bytes : (keys : List Row) → length (plain_of i32 keys) ≡ 4 * length keys
unfolding plain_of
key-bytes keys = length-joined (item_of i32) 4 keys (fixed-wide I32 keys) ∙ mul_comm (length keys) 4

-- ---- the key block: no runs have no bytes
abbrev pub key_bytes : List Run → ℕ
key_bytes rs = cond (eqb (length rs) 0) 0 (8 + length (counts_of rs) + 4 * length rs)

pub no-key-bytes : (rs : List Run) → length rs ≡ 0 → key_bytes rs ≡ 0
no-key-bytes rs e = rw (eq-eqb (length rs) 0 e)

pub key-bytes-most : (rs : List Run) → key_bytes rs ≤ 8 + length (counts_of rs) + 4 * length rs
key-bytes-most rs = go (eqb (length rs) 0)
  where
    go : (t : Bool) → cond t 0 (8 + length (counts_of rs) + 4 * length rs) ≤ 8 + length (counts_of rs) + 4 * length rs
    go true = omega arith
    go false = omega arith

some-run : (x : Row) (xs : List Row) → eqb (length (runs_of (x ∷ xs))) 0 ≡ false
unfolding spread
some-run x xs = go (runs_of (x ∷ xs)) (spread-runs (x ∷ xs))
  where
    go : (rs : List Run) → spread rs ≡ x ∷ xs → eqb (length rs) 0 ≡ false
    go [] e = let z : 0 ≡ suc (length xs) = ap length e in absurd (omega arith)
    go (r ∷ rs) e = ne_eqb (suc (length rs)) 0 (λ z. omega arith)

pub key-block-length : (rows : List Row) → length (key_block_of rows) ≡ key_bytes (runs_of rows)
unfolding key_block_of run_length_of
key-block-length [] = unfold runs_of in refl
key-block-length (x ∷ xs) = rw (some-run x xs) whole
  where
    keys : List Run
    keys = runs_of (keys_of (x ∷ xs))

    inner : List ℕ
    inner = plain_of i32 (map (λ r. r.row) keys)

    items : length inner ≡ 4 * length (runs_of (x ∷ xs))
    items = key-bytes (map (λ r. r.row) keys) ∙ omega (arith, length-map keys (λ r. r.row), key-runs-many (x ∷ xs))

    whole : length (key_block_of (x ∷ xs)) ≡ 8 + length (counts_of (runs_of (x ∷ xs))) + 4 * length (runs_of (x ∷ xs))
    whole = unfold key_block_of run_length_of keys_of in omega (arith, length-append (counts_of keys) inner, items, ap length (key_counts (x ∷ xs)))

-- ---- the block: a head of twelve bytes, the key block and the entries
pub dictionary-length : (k : Kind) (rows : List Row) → length (dictionary_of k rows) ≡ 12 + key_bytes (runs_of rows) + length (plain_of k (entries_of rows))
unfolding dictionary_of
dictionary-length k rows = omega (arith, length-append (key_block_of rows) (plain_of k (entries_of rows)), key-block-length rows)
