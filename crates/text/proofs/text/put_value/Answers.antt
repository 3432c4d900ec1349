-- `put_value` meets its contract: an Interval, or any other value. Assumes nothing.
use mathlib.Core.Path.{sym, ap, ◌∙◌}
use mir.Syntax.{w64}
use mir.Val.{of_z}
use mir.Facts.{to_z-of_z}
use Rattle.text.proofs.Numbers as laws
use Rattle.text.proofs.text.put_value.Goals as goal

pub returns-then-is_interval : goal.returns-then-is_interval
returns-then-is_interval c =
    let a = c.args in
    let all = laws.put-interval a.p a.v a.at a.out.now
    (sym c.is_interval.ensures ∙ c.if-is_interval.true)
    (c.cast_unsigned-bits.ensures ∙ ap (of_z w64) (to_z-of_z c.ranges.v))
    (c.put_interval.ensures.value, c.put_interval.ensures.out_after) in
    record { value = all.0; out_after = all.1 }

pub returns : goal.returns
returns c =
    let a = c.args in
    let all = laws.put_other a.p a.v a.at a.out.now
    (sym c.is_interval.ensures ∙ c.if-is_interval.false)
    c.ranges.v
    (c.cast_unsigned-bits.ensures ∙ ap (of_z w64) (to_z-of_z c.ranges.v))
    (c.put_number.ensures.value, c.put_number.ensures.out_after) in
    record { value = all.0; out_after = all.1 }
