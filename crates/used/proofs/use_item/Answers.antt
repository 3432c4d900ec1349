-- `used::use_item` meets its contract: a mark that is there stays, and one that isn't is set. Assumes nothing.
use mathlib.Core.Path.{refl, sym, ◌∙◌}
use Rattle.used.proofs.Bits.{is_one, is_none, as-set}
use Rattle.used.proofs.use_item.Goals as goal

pub returns-then-bit_at-eq1 : goal.returns-then-bit_at-eq1
returns-then-bit_at-eq1 c =
    let a = c.args in
    let m = sym c.bit_at.ensures.0 ∙ c.if-bit_at-eq1.true in
    record { value = is_one m; bits_len_unchanged = refl; by_index = as-set a.bits.now a.i m }

pub returns : goal.returns
returns c =
    record { value = is_none (λ b. c.if-bit_at-eq1.false (c.bit_at.ensures.0 ∙ b)); bits_len_unchanged = c.mark.ensures.bits_len_unchanged; by_index = c.mark.ensures.by_index }
