-- What opening a column and its part come to, by the number of the file and the entry. Assumes nothing.
use Prim.Native.Nat.{ℕ, zero, suc, ◌+◌, ◌-◌, ◌≤◌, ◌<◌}
use native.Mathlib.Omega.{arith}
use mathlib.Core.Path.{◌≡◌, refl, ap, ◌∙◌}
use mathlib.Core.List.{List, []}
use lib.ListN.{take, drop}
use borrow.Author.Tests.{eq-eqb, ne_eqb}
use Rattle.std.specs.Prelude.{Result, Ok, Err}
use Rattle.block.specs.declared.Reader.{Reader}
use Rattle.block.specs.declared.Opening.{Opening}
use Rattle.block.specs.Reading.{no_reader, opening_of}
use Rattle.descriptor.specs.declared.Descriptor.{Descriptor}
use Rattle.descriptor.specs.Descriptor.{described_opened}
use Rattle.descriptor.proofs.Openings.{refused-some}
use Rattle.sheet.specs.Sheet.{entry_at, descriptor_in, offset_in, length_in, named_by, sheet_number, opened_in, column_opened, found, found_by, column_found, column_part}

-- the bytes from one place to another
between : (from len : ℕ) (f : List ℕ) → take (from + len - from) (drop from f) ≡ take len (drop from f)
between from len f = let e : from + len - from ≡ len = omega arith in rw e

module _ (f : List ℕ) (j : ℕ) where
  -- ---- the file or the entry is refused
  module _ {n : ℕ} (told : n ≡ sheet_number f j) (refused : 0 < n) where
    opened-as : (m : ℕ) (d : Descriptor) (b : List ℕ) → 0 < m → opened_in m d b ≡ Err m
    unfolding opened_in
    opened-as zero d b h = absurd (omega arith)
    opened-as (suc m) d b h = refl

    pub nothing-found : found n 0 0 no_reader ≡ column_found f j
    unfolding found_by
    nothing-found = rw (← told, opened-as n (descriptor_in (entry_at j f)) (named_by (entry_at j f) f) refused)

    pub no_part : [] ≡ column_part f j
    unfolding column_part
    no_part = rw (← told, ne_eqb n 0 (λ e. omega arith))

  -- ---- neither is
  module _ {n : ℕ} (told : n ≡ sheet_number f j) (none : n ≤ 0)
      {d : Descriptor} {from len : ℕ} (d-read : d ≡ descriptor_in (entry_at j f)) (from-read : from ≡ offset_in (entry_at j f)) (len_read : len ≡ length_in (entry_at j f)) where
    zero-told : sheet_number f j ≡ 0
    zero-told = omega (arith, told)

    bytes-named : take (from + len - from) (drop from f) ≡ named_by (entry_at j f) f
    bytes-named = between from len f ∙ rw (from-read, len_read)

    column-opened : {o : Result Reader ℕ} → o ≡ described_opened d (take (from + len - from) (drop from f)) → o ≡ column_opened f j
    unfolding opened_in
    column-opened e = rw zero-told (e ∙ ap (described_opened d) bytes-named ∙ ap (λ (x : Descriptor). described_opened x (named_by (entry_at j f) f)) d-read)

    by_number : (x : Result Reader ℕ) {o : Opening} → o ≡ opening_of x → ((m : ℕ) → x ≡ Err m → 0 < m)
        → (o.number ≤ 0 → found 0 from len o.reader ≡ found_by x from len) × (0 < o.number → found o.number 0 0 no_reader ≡ found_by x from len)
    unfolding opening_of found_by
    by_number (Ok r) q some = rw q (λ h. refl, λ h. absurd (omega arith))
    by_number (Err m) q some = let p = some m refl in rw q (λ h. absurd (omega arith), λ h. refl)

    module _ {o : Opening} (e : o ≡ opening_of (described_opened d (take (from + len - from) (drop from f)))) where
      abbrev x : Result Reader ℕ
      x = described_opened d (take (from + len - from) (drop from f))

      placed : found_by x from len ≡ column_found f j
      placed = rw (← column-opened refl, from-read, len_read)

      pub column-found : o.number ≤ 0 → found 0 from len o.reader ≡ column_found f j
      column-found h = (by_number x e (λ m. refused-some d (take (from + len - from) (drop from f)) m)).0 h ∙ placed

      pub column-refused : 0 < o.number → found o.number 0 0 no_reader ≡ column_found f j
      column-refused h = (by_number x e (λ m. refused-some d (take (from + len - from) (drop from f)) m)).1 h ∙ placed

    pub part-found : take (from + len - from) (drop from f) ≡ column_part f j
    unfolding column_part
    part-found = rw (eq-eqb (sheet_number f j) 0 zero-told) bytes-named
