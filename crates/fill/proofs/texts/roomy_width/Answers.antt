-- `fill::roomy_width` meets its contract: 0 says nothing, and what was tested is room. Assumes nothing.
use native.Mathlib.Omega.{arith}
use Rattle.fill.proofs.texts.roomy_width.Goals as goal

-- src/texts.rt:85:9
pub returns-then-w-eq0 : goal.returns-then-w-eq0
returns-then-w-eq0 c = λ l. absurd (omega arith)

-- src/texts.rt:88:9
pub returns-then-flags-n : goal.returns-then-flags-n
returns-then-flags-n c = λ l. absurd (omega arith)

-- src/texts.rt:91:9
pub returns-then-ends-n : goal.returns-then-ends-n
returns-then-ends-n c = λ l. absurd (omega arith)

-- src/texts.rt:93:16
pub most_bytes-requires : goal.most_bytes-requires
most_bytes-requires c =
    (c.requires, c.alone_width-w.ensures (omega (arith, c.if-w-eq0.false)))

-- src/texts.rt:94:9
pub returns-then-bytes-most_bytes : goal.returns-then-bytes-most_bytes
returns-then-bytes-most_bytes c = λ l. absurd (omega arith)

-- src/texts.rt:71:1
pub returns : goal.returns
returns c = λ l. record {
  alone = c.alone_width-w.ensures l;
  flagged = omega (arith, c.if-flags-n.false);
  ended = omega (arith, c.if-ends-n.false);
  held = omega (arith, c.most_bytes.ensures, c.if-bytes-most_bytes.false);
}
