-- `tested` meets its contract: each return by the law of the tests that led there. Assumes nothing.
use native.Mathlib.Omega.{arith}
use mathlib.Core.Path.{ap}
use Rattle.descriptor.specs.declared.Descriptor.{Descriptor}
use Rattle.compare_by.proofs.Files as laws
use Rattle.compare_by.proofs.tested.Goals as goal

pub returns-then-file-lt8 : goal.returns-then-file-lt8
returns-then-file-lt8 c = laws.no-descriptor _ (omega arith)

pub returns-then-file-gt-MOST_INPUT : goal.returns-then-file-gt-MOST_INPUT
returns-then-file-gt-MOST_INPUT c = laws.too_long _ (omega arith) (omega arith)

pub returns-then-d-ne0 : goal.returns-then-d-ne0
returns-then-d-ne0 c =
    let e = ap (λ (d : Descriptor). d.zero) c.descriptor_in-d.ensures in
    laws.bit-set _ (omega arith) (omega arith) (λ z. omega (arith, e, z))

pub returns : goal.returns
returns c =
    let e = ap (λ (d : Descriptor). d.zero) c.descriptor_in-d.ensures in
    laws.none-refuses _ (omega arith) (omega arith) (omega (arith, e))
