-- `check` meets its contract: each arm is the law of its kind. Assumes nothing.
use mathlib.Core.Path.{sym, ap, ◌∙◌}
use native.Mathlib.Omega.{arith}
use Rattle.encode.specs.declared.Kind.{Kind}
use Rattle.encode.specs.declared.Kind.TheVariants.{Fixed}
use Rattle.encode.specs.Kinds.{layout_of}
use Rattle.plain.specs.Plain.{plain_number}
use Rattle.plain.proofs.Numbers.{bytes_small, product_small, fixed_number, length-same, length-other}
use Rattle.plain.proofs.check.Goals as goal

pub overflow_mul-n : goal.overflow_mul-n
overflow_mul-n c =
    let b = bytes_small (layout_of c.in-Fixed.p).size in
    let p = product_small c.args.n c.width.result (omega arith) (omega (arith, c.width.ensures)) in
    omega arith

pub returns-then-s-n : goal.returns-then-s-n
returns-then-s-n c =
    length-same (Fixed c.in-Fixed.p) c.in-Fixed.is _ _ _ (fixed_number _ _ _ _ c.width.ensures) c.if-s-n.true

pub returns-else-s-n : goal.returns-else-s-n
returns-else-s-n c =
    length-other (Fixed c.in-Fixed.p) c.in-Fixed.is _ _ _ (fixed_number _ _ _ _ c.width.ensures) c.if-s-n.false

pub returns-in-Char : goal.returns-in-Char
returns-in-Char c =
    let a = c.args in
    c.check_chars.ensures ∙ ap (λ (k : Kind). plain_number k a.n a.s.now) (sym c.in-Char.is)

pub returns-in-Blob : goal.returns-in-Blob
returns-in-Blob c =
    let a = c.args in
    c.check_blobs.ensures ∙ ap (λ (k : Kind). plain_number k a.n a.s.now) (sym c.in-Blob.is)
