-- The run counts of a sound block stand in the bytes that are written for their numbers, and in no others. Assumes nothing.
use Prim.Native.Nat.{ℕ, zero, suc}
use native.Mathlib.Omega.{arith}
use mathlib.Core.List.{List, [], ◌∷◌, ◌++◌}
use mathlib.Core.Path.{◌≡◌, refl, sym, ap, subst, ◌∙◌}
use lib.ListN.{length}
use lib.Seq.{take-length}
use Rattle.varint.specs.Varint.{spelling}
use Rattle.varint.proofs.OneSpelling.{Bytes, one-spelling}
use Rattle.plain.specs.Each.{Each}
use Rattle.plain.specs.Plain.{joined}
use Rattle.soundness_laws.specs.Sound.{Written, RunCount, Runs, values, written}

-- ---- the parts of a list of bytes are lists of bytes
first-bytes : (xs ys : List ℕ) → Bytes (xs ++ ys) → Bytes xs
first-bytes [] ys h i = omega arith
first-bytes (x ∷ xs) ys h zero = h 0
first-bytes (x ∷ xs) ys h (suc i) = first-bytes xs ys (λ j. h (suc j)) i

rest-bytes : (xs ys : List ℕ) → Bytes (xs ++ ys) → Bytes ys
rest-bytes [] ys h = h
rest-bytes (x ∷ xs) ys h = rest-bytes xs ys (λ j. h (suc j))

-- ---- one count; counts one after another
pub count-spelled : (w : Written) → RunCount w → Bytes w.bytes → w.bytes ≡ spelling w.value
count-spelled w c h = sym (take-length w.bytes) ∙ one-spelling w.bytes w.value (length w.bytes) h (sym c.0)

pub counts-spelled : (ws : List Written) → Each RunCount ws → Bytes (written ws) → written ws ≡ joined spelling (values ws)
unfolding joined
counts-spelled [] h b = refl
counts-spelled (w ∷ ws) h b =
    ap (λ (l : List ℕ). l ++ written ws) (count-spelled w h.0 (first-bytes w.bytes (written ws) b))
    ∙ ap (λ (l : List ℕ). spelling w.value ++ l) (counts-spelled ws h.1 (rest-bytes w.bytes (written ws) b))

-- ---- a sound block with runs, or a dictionary's key block: its counts are the spellings of their numbers
module _ (Inner : ℕ → List ℕ → Type 0) (n : ℕ) (b : List ℕ) (r : Runs Inner n b) where
  abbrev front : List ℕ
  front = r.runs.bytes ++ r.size.bytes

  pub runs-spelled : Bytes b → b ≡ r.runs.bytes ++ r.size.bytes ++ joined spelling (values r.counts) ++ r.inner
  runs-spelled h =
      let all : Bytes (front ++ written r.counts ++ r.inner) = subst Bytes r.whole h in
      let counted : Bytes (written r.counts) = rest-bytes front (written r.counts) (first-bytes (front ++ written r.counts) r.inner all) in
      r.whole ∙ ap (λ (l : List ℕ). front ++ l ++ r.inner) (counts-spelled r.counts r.each counted)
