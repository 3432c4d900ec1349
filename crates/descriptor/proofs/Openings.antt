-- Which case of `described_opened` the test of `open_by` leads to. Assumes nothing.
use Prim.Native.Nat.{ℕ, zero, suc, ◌≤◌, ◌<◌}
use native.Mathlib.Omega.{arith}
use mathlib.Core.Bool.{Bool, true, false, cond}
use mathlib.Core.Path.{◌≡◌}
use mathlib.Core.List.{List}
use lib.Dec.{eqb}
use borrow.Author.Tests.{eq-eqb, ne_eqb}
use Rattle.std.specs.Prelude.{Result, Err}
use Rattle.limits.specs.Refusals.{COLUMN}
use Rattle.format.specs.Opening.{open_number}
use Rattle.block.specs.declared.Reader.{Reader}
use Rattle.block.specs.Reading.{opened_by, opened}
use Rattle.descriptor.specs.declared.Descriptor.{Descriptor}
use Rattle.descriptor.specs.Descriptor.{described_opened}

pub by-refused : (d : Descriptor) (b : List ℕ) → 0 < d.zero → Err COLUMN ≡ described_opened d b
unfolding described_opened
by-refused d b h = rw (ne_eqb d.zero 0 (λ e. omega arith))

pub by-opened :
    (d : Descriptor) (b : List ℕ) {r : Result Reader ℕ} → d.zero ≤ 0 → r ≡ opened d.kind d.encoding d.width d.rows b
    → r ≡ described_opened d b
unfolding described_opened
by-opened d b h e = let z : d.zero ≡ 0 = omega arith in rw (eq-eqb d.zero 0 z) e

-- no refusal is 0
by-descriptor : (t : Bool) (m : ℕ) (r : Reader) (e : ℕ) → cond t (opened_by m r) (Err COLUMN) ≡ Err e → 0 < e
unfolding opened_by
by-descriptor true zero r e q = let z : ◌≡◌ {A = ℕ} 0 1 = cc in absurd (omega arith)
by-descriptor true (suc m) r e q = let s : suc m ≡ e = cc in omega arith
by-descriptor false m r e q = let s : COLUMN ≡ e = cc in omega arith

pub refused-some : (d : Descriptor) (b : List ℕ) (e : ℕ) → described_opened d b ≡ Err e → 0 < e
unfolding described_opened opened
refused-some d b e q = by-descriptor (eqb d.zero 0) (open_number d.kind d.encoding d.width d.rows b) _ e q
