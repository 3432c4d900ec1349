-- The bytes of a descriptor whose fields have their bits there give that descriptor back. Assumes nothing.
use Prim.Native.Nat.{ℕ, ◌+◌, ◌*◌, ◌/◌, ◌<◌}
use native.Mathlib.Omega.{arith}
use mathlib.Core.Path.{◌≡◌, ap, ◌∙◌}
use Rattle.encode.specs.Bytes.{high-first, big, number_of}
use Rattle.encode.proofs.RoundTrip.{number-bytes}
use Rattle.descriptor.specs.declared.Descriptor.{Descriptor}
use Rattle.descriptor.specs.Descriptor.{fields_of, descriptor_of, packed_number, descriptor_bytes}

-- each field has its bits there
pub record Fits (d : Descriptor) : Type 0 where
  pub kind : d.kind < 16
  pub encoding : d.encoding < 8
  pub width : d.width < 256
  pub zero : d.zero < 2
  pub rows : d.rows < 281474976710656

abbrev fields : ℕ → ℕ → ℕ → ℕ → ℕ → Descriptor
fields k e w z n = record { kind = k; encoding = e; width = w; zero = z; rows = n }

same : {k k' e e' w w' z z' n n' : ℕ} → k ≡ k' → e ≡ e' → w ≡ w' → z ≡ z' → n ≡ n' → fields k e w z n ≡ fields k' e' w' z' n'
same p q r s t = rw (p, q, r, s, t)

pub packed-small : (d : Descriptor) → packed_number d < 18446744073709551616
packed-small d = omega arith

-- five numbers, each with its bits in the number n that they make
module _ (k e w z r : ℕ) (hk : k < 16) (he : e < 8) (hw : w < 256) (hz : z < 2) (hr : r < 281474976710656) where
  abbrev made : ℕ
  made = k * 1152921504606846976 + e * 144115188075855872 + w * 562949953421312 + z * 281474976710656 + r

  made-back : fields_of made ≡ fields k e w z r
  made-back =
      let a : made / 281474976710656 ≡ k * 4096 + e * 512 + w * 2 + z = omega arith in
      let b : made / 562949953421312 ≡ k * 2048 + e * 256 + w = omega arith in
      let c : made / 144115188075855872 ≡ k * 8 + e = omega arith in
      let d : made / 1152921504606846976 ≡ k = omega arith in
      same d (rw c (omega arith)) (rw b (omega arith)) (rw a (omega arith)) (omega arith)

  made-packed : packed_number (fields k e w z r) ≡ made
  made-packed = omega arith

pub comes_back : (d : Descriptor) → Fits d → descriptor_of (descriptor_bytes d) ≡ d
comes_back d f =
    let s = packed-small d in
    let m : number_of high-first (big 8 (packed_number d)) ≡ packed_number d = number-bytes high-first 8 (packed_number d) ∙ omega arith in
    ap fields_of m
    ∙ ap fields_of (made-packed d.kind d.encoding d.width d.zero d.rows f.kind f.encoding f.width f.zero f.rows)
    ∙ made-back d.kind d.encoding d.width d.zero d.rows f.kind f.encoding f.width f.zero f.rows
