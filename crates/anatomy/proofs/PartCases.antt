-- Where the parts lie, on each way through the functions of the encodings and through take_apart. Assumes nothing.
use Prim.Native.Nat.{ℕ, ◌+◌, ◌-◌}
use mathlib.Core.Path.{◌≡◌, refl, sym, subst}
use mathlib.Core.Bool.{Bool, true, false}
use Rattle.encode.specs.declared.Kind.{Kind}
use Rattle.nullable.specs.Nullable.{bitmap_length}
use Rattle.source.specs.declared.Marks.TheVariants.{Bare, Bits, Keys}
use Rattle.format.specs.declared.Encoding.{Encoding}
use Rattle.format.specs.declared.Encoding.TheVariants.{Plain, Nullable, RunLength, RunLengthNullable, Dictionary}
use Rattle.format.specs.declared.Head.{Head}
use Rattle.anatomy.specs.declared.Parts.{Parts}
use Rattle.anatomy.specs.Tests.{no_runs}
use Rattle.anatomy.specs.Parts.{part, source, apart, plain_parts, nullable_parts, run_parts, null_run_parts, key_parts, parts_of}

-- ---- by the encoding
module _ (k : Kind) (n len : ℕ) where
  pub plain-parts : apart (source k Bare n 0 false) (part 0 0) (part 0 0) (part 0 len) ≡ plain_parts k n len
  unfolding plain_parts
  plain-parts = refl

  pub nullable-parts :
      {m : ℕ} → m ≡ bitmap_length n
      → apart (source k Bits n 0 false) (part 0 0) (part (len - (m + 4)) (len - (m + 4) + m)) (part 0 (len - (m + 4))) ≡ nullable_parts k n len
  unfolding nullable_parts
  nullable-parts h = rw h

module _ (k : Kind) (len : ℕ) (h : Head) {t : Bool} (none : t ≡ no_runs h) where
  pub runs_none : t ≡ true → apart (source k Bare h.runs h.runs true) (part 0 0) (part 0 0) (part 0 0) ≡ run_parts k len h
  unfolding run_parts
  runs_none e = rw (← none, e)

  pub runs-parts :
      t ≡ false
      → apart (source k Bare h.runs h.runs true) (part 8 (8 + h.counts)) (part 0 0) (part (8 + h.counts) len) ≡ run_parts k len h
  unfolding run_parts
  runs-parts e = rw (← none, e)

  pub null-runs-none : t ≡ true → apart (source k Bits h.runs h.runs true) (part 0 0) (part 0 0) (part 0 0) ≡ null_run_parts k len h
  unfolding null_run_parts
  null-runs-none e = rw (← none, e)

  pub null-runs-parts :
      t ≡ false → {m : ℕ} → m ≡ bitmap_length h.runs
      → apart (source k Bits h.runs h.runs true) (part 8 (8 + h.counts)) (part (len - (m + 4)) (len - (m + 4) + m))
      (part (8 + h.counts) (len - (m + 4)))
      ≡ null_run_parts k len h
  unfolding null_run_parts
  null-runs-parts e g = rw (← none, e, g)

  pub keys_none : t ≡ true → apart (source k Keys h.entries h.runs true) (part 0 0) (part 0 0) (part (12 + h.keys) len) ≡ key_parts k len h
  unfolding key_parts
  keys_none e = rw (← none, e)

  pub keys-parts :
      t ≡ false
      → apart (source k Keys h.entries h.runs true) (part 20 (20 + h.counts)) (part (20 + h.counts) (12 + h.keys)) (part (12 + h.keys) len)
      ≡ key_parts k len h
  unfolding key_parts
  keys-parts e = rw (← none, e)

-- ---- for the encoding that a match found
module _ (k : Kind) (e : Encoding) (n len : ℕ) (h : Head) {p : Parts} where
  same : (f : Encoding) → e ≡ f → p ≡ parts_of k f n len h → p ≡ parts_of k e n len h
  same f q g = subst (λ (x : Encoding). p ≡ parts_of k x n len h) (sym q) g

  pub as_plain : e ≡ Plain → p ≡ plain_parts k n len → p ≡ parts_of k e n len h
  unfolding parts_of
  as_plain q g = same Plain q g

  pub as-nullable : e ≡ Nullable → p ≡ nullable_parts k n len → p ≡ parts_of k e n len h
  unfolding parts_of
  as-nullable q g = same Nullable q g

  pub as-runs : e ≡ RunLength → p ≡ run_parts k len h → p ≡ parts_of k e n len h
  unfolding parts_of
  as-runs q g = same RunLength q g

  pub as-null-runs : e ≡ RunLengthNullable → p ≡ null_run_parts k len h → p ≡ parts_of k e n len h
  unfolding parts_of
  as-null-runs q g = same RunLengthNullable q g

  pub as-keys : e ≡ Dictionary → p ≡ key_parts k len h → p ≡ parts_of k e n len h
  unfolding parts_of
  as-keys q g = same Dictionary q g
