-- `rle::rest_of` meets its contract: each return by its law. Assumes nothing.
use mathlib.Core.Path.{◌∙◌}
use native.Mathlib.Omega.{arith}
use Rattle.rle.proofs.RestOfRun as laws
use Rattle.rle.proofs.rest_of.Goals as goal

pub returns-then-runs-s : goal.returns-then-runs-s
returns-then-runs-s c = laws.rest-past _ _ _ (omega arith)

pub returns-in_err-count : goal.returns-in_err-count
returns-in_err-count c = c.from_residual.ensures ∙ laws.rest-bad _ _ _ (omega arith) c.decode_u32.ensures c.in_err-count.was

pub returns-then-rows-eq0 : goal.returns-then-rows-eq0
returns-then-rows-eq0 c =
    laws.rest-zero _ _ _ (omega arith) c.decode_u32.ensures c.in_ok-count.was (omega arith)

pub returns-then-rows-s : goal.returns-then-rows-s
returns-then-rows-s c =
    laws.rest_below _ _ _ (omega arith) c.decode_u32.ensures c.in_ok-count.was c.if-rows-eq0.false (omega arith)

pub returns : goal.returns
returns c =
    laws.rest-rows _ _ _ (omega arith) c.decode_u32.ensures c.in_ok-count.was c.if-rows-eq0.false (omega arith)
