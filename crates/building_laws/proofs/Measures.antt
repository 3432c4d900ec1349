-- How long blocks of lists are, by what they store. Assumes nothing.
use Prim.Native.Nat.{ℕ, ◌+◌, ◌*◌, ◌≤◌, ◌<◌}
use native.Mathlib.Nat.{mul_comm}
use native.Mathlib.Omega.{arith}
use mathlib.Core.Bool.{Bool, true, false, cond, ◌&&◌}
use mathlib.Core.List.{List, [], ◌∷◌, ◌++◌, map}
use mathlib.Core.Path.{◌≡◌, refl, ◌∙◌}
use lib.Dec.{ltb, eqb}
use lib.ListN.{length, length-append, length-map}
use borrow.Author.Tests.{ne_eqb}
use Rattle.limits.specs.Limits.{MOST_COUNT}
use Rattle.encode.specs.Bytes.{low_first, little, big}
use Rattle.encode.specs.Kinds.{width_of}
use Rattle.encode.specs.declared.Primitive.{Primitive}
use Rattle.encode.specs.declared.Kind.{Kind}
use Rattle.encode.specs.declared.Kind.TheVariants.{Fixed, Char, Blob}
use Rattle.encode.proofs.RoundTrip.{length-bytes}
use Rattle.plain.specs.Each.{Each}
use Rattle.plain.specs.Rows.{Row, same, fits}
use Rattle.plain.specs.Plain.{joined, item_of, ends_from, plain_of}
use Rattle.plain.proofs.Each.{Wide, all-each, length-joined, fixed-wide, char-wide}
use Rattle.plain.proofs.Ends.{length-ends}
use Rattle.rle.specs.RunLength.{Run, run, runs_from, runs_of, counts_of, run_length_of}
use Rattle.dict.specs.Dictionary.{i32, entries_of, key_block_of, dictionary_of}
use Rattle.format.specs.Sizes.{run_rows}
use Rattle.needs.specs.Needs.{plain_bytes}

-- ---- items
pub fixed-items : (p : Primitive) (s : List Row) → length (joined (item_of (Fixed p)) s) ≡ length s * width_of p
unfolding item_of
fixed-items p s = length-joined (item_of (Fixed p)) (width_of p) s (fixed-wide p s)

pub char-items : (w : ℕ) (s : List Row) → Each (λ x. fits (Char w) x ≡ true) s → length (joined (item_of (Char w)) s) ≡ length s * w
char-items w s h = length-joined (item_of (Char w)) w s (char-wide w s h)

-- ---- plain blocks
fours : (es : List ℕ) → length (joined (little 4) es) ≡ 4 * length es
fours es = length-joined (little 4) 4 es (all-each (Wide (little 4) 4) (λ e. length-bytes low_first 4 e) es) ∙ mul_comm (length es) 4

pub plain-length : (k : Kind) (s : List Row) → plain_bytes k (length s) (length (joined (item_of k) s)) ≡ length (plain_of k s)
unfolding plain_bytes plain_of
plain-length (Fixed p) s = refl
plain-length (Char w) s = refl
plain-length (Blob text) s =
    let es : List ℕ = ends_from 0 (map (item_of (Blob text)) s) in
    let a = length-append (joined (little 4) es) (joined (item_of (Blob text)) s) in
    let b = fours es in
    let c : length es ≡ length s = length-ends 0 (map (item_of (Blob text)) s) ∙ length-map s (item_of (Blob text)) in
    omega arith

-- keys are four bytes each
pub keys_length : (s : List Row) → length (plain_of i32 s) ≡ 4 * length s
unfolding plain_of
keys_length s = fixed-items _ s ∙ mul_comm (length s) 4

-- ---- run-length blocks
pub runs-some : (r : Row) (n : ℕ) (xs : List Row) → 0 < length (runs_from r n xs)
unfolding runs_from
runs-some r n [] = omega arith
runs-some r n (x ∷ xs) = go (same r x && ltb n MOST_COUNT) (runs-some r (n + 1) xs)
  where
    go : (t : Bool) → 0 < length (runs_from r (n + 1) xs) → 0 < length (cond t (runs_from r (n + 1) xs) (run r n ∷ runs_from x 1 xs))
    go true h = h
    go false h = omega arith

module _ (inner : List Row → List ℕ) where
  pub runs-length : (rows : List Row)
      → cond (eqb (length (runs_of rows)) 0) 0 (8 + length (counts_of (runs_of rows)) + length (inner (run_rows rows))) ≡ length (run_length_of inner rows)
  unfolding run_length_of runs_of run_rows
  runs-length [] = refl
  runs-length (x ∷ xs) =
      let rs : List Run = runs_from x 1 xs in
      let h = runs-some x 1 xs in
      let z : eqb (length rs) 0 ≡ false = ne_eqb (length rs) 0 (λ (q : length rs ≡ 0). omega arith) in
      let in' : List ℕ = inner (map (λ r. r.row) rs) in
      let a = length-append (little 4 (length rs) ++ little 4 (length (counts_of rs))) (counts_of rs) in
      let b = length-append (little 4 (length rs) ++ little 4 (length (counts_of rs)) ++ counts_of rs) in' in
      rw z (omega arith)

  pub counts-within : (rows : List Row) → length (counts_of (runs_of rows)) ≤ length (run_length_of inner rows)
  unfolding run_length_of runs_of counts_of joined
  counts-within [] = omega arith
  counts-within (x ∷ xs) =
      let rs : List Run = runs_from x 1 xs in
      let in' : List ℕ = inner (map (λ r. r.row) rs) in
      let a = length-append (little 4 (length rs) ++ little 4 (length (counts_of rs))) (counts_of rs) in
      let b = length-append (little 4 (length rs) ++ little 4 (length (counts_of rs)) ++ counts_of rs) in' in
      omega arith

-- ---- dictionaries
pub dictionary-length : (k : Kind) (rows : List Row) → 12 + length (key_block_of rows) + length (plain_of k (entries_of rows)) ≡ length (dictionary_of k rows)
unfolding dictionary_of
dictionary-length k rows =
    let b : List ℕ = key_block_of rows in
    let es : List Row = entries_of rows in
    let p = length-append (big 8 (length b) ++ big 4 (length es)) b in
    let q = length-append (big 8 (length b) ++ big 4 (length es) ++ b) (plain_of k es) in
    omega arith
