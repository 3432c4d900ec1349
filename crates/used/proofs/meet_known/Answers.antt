-- `used::meet_known` meets its contract: an entry that is known as the first of its like is judged by its own mark. Assumes nothing.
use mathlib.Core.Path.{refl, sym, ◌∙◌}
use Rattle.used.proofs.Marks.{own_like}
use Rattle.used.proofs.Meeting.{met-still, shown-named}
use Rattle.used.proofs.meet_known.Goals as goal

pub returns-then-bit_at-eq1 : goal.returns-then-bit_at-eq1
returns-then-bit_at-eq1 c =
    let a = c.args in
    let p = c.requires in
    let own = own_like a.kind a.n a.items.now a.slot p.5 p.6 p.2 (sym c.bit_at.ensures.0 ∙ c.if-bit_at-eq1.true) in
    record {
      value = (λ es f. shown-named a.kind a.n a.items.now a.slot p.5 p.6 f own c.use_item.ensures.value (c.use_item.ensures.bits_len_unchanged, c.use_item.ensures.by_index)
          (met-still a.kind a.n a.items.now a.slot p.5 f.those-met));
      bits_len_unchanged = c.use_item.ensures.bits_len_unchanged;
      met_len_unchanged = refl;
    }
