-- 01, "Building": what an append writes into the lent areas, slot by slot. Assumes nothing.
use Rattle.std.specs.Prelude.{ℕ, ◌+◌, ◌-◌, ◌*◌, ◌/◌, ◌%◌, ◌^◌, Bool, cond, List, eqb, get_or, set}
use Rattle.encode.specs.declared.Kind.{Kind}
use Rattle.encode.specs.declared.Kind.TheVariants.{Fixed, Char, Blob}

-- item i, whose bytes stand behind those held: its end; its length
unfoldable pub ends_with : Kind → ℕ → ℕ → List ℕ → List ℕ
ends_with (Fixed p) i end ends = ends
ends_with (Char w) i end ends = ends
ends_with (Blob text) i end ends = set ends i end

unfoldable pub lens_with : Kind → ℕ → ℕ → List ℕ → List ℕ
lens_with (Fixed p) i len lens = lens
lens_with (Char w) i len lens = set lens i len
lens_with (Blob text) i len lens = lens

-- its flag: bit i mod 8 alone of byte i / 8; a new byte starts at 0
unfoldable pub with_bit : ℕ → ℕ → ℕ → ℕ
with_bit byte s bit = byte / 2 ^ (s + 1) * 2 ^ (s + 1) + bit * 2 ^ s + byte % 2 ^ s

unfoldable pub flags_with : ℕ → ℕ → List ℕ → List ℕ
flags_with i bit flags = set flags (i / 8) (with_bit (cond (eqb (i % 8) 0) 0 (get_or flags (i / 8) 0)) (i % 8) bit)

-- the count of the row's run: of n runs the last has so many rows; 1 for a new run, one more where the row joins
unfoldable pub counts_with : ℕ → ℕ → Bool → List ℕ → List ℕ
counts_with n last joins counts = cond joins (set counts (n - 1) (last + 1)) (set counts n 1)
