-- `check_chars` meets its contract: the length, then text. Assumes nothing.
use mathlib.Core.Path.{sym, ◌∙◌}
use native.Mathlib.Omega.{arith}
use Rattle.encode.specs.declared.Kind.TheVariants.{Char}
use Rattle.plain.proofs.Numbers.{product_small, char-length, char-other, all-text, not-text}
use Rattle.plain.proofs.check_chars.Goals as goal

pub overflow_mul-n : goal.overflow_mul-n
overflow_mul-n c = let p = product_small c.args.n c.args.w (omega arith) (omega arith) in omega arith

pub returns-then-s-n : goal.returns-then-s-n
returns-then-s-n c = char-other _ _ _ (λ e. c.if-s-n.true e)

pub returns-then-chars_are_text : goal.returns-then-chars_are_text
returns-then-chars_are_text c =
    let a = c.args in
    sym (all-text (Char a.w) a.n a.s.now (char-length a.w a.n a.s.now (omega arith)) (sym c.chars_are_text.ensures ∙ c.if-chars_are_text.true))

pub returns-else-chars_are_text : goal.returns-else-chars_are_text
returns-else-chars_are_text c =
    let a = c.args in
    sym (not-text (Char a.w) a.n a.s.now (char-length a.w a.n a.s.now (omega arith)) (sym c.chars_are_text.ensures ∙ c.if-chars_are_text.false))
