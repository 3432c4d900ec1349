-- `used::meet` meets its contract: an entry that was met before shows a row that is there, and any other is judged by the first of its like.
-- Assumes nothing.
use mathlib.Core.Path.{refl, sym, ◌∙◌}
use native.Mathlib.Omega.{arith}
use Rattle.used.proofs.Marks.{like-inside}
use Rattle.used.proofs.Meeting.{met-more, shown-met, shown-named}
use Rattle.used.proofs.meet.Goals as goal

pub returns-then-not-use_item : goal.returns-then-not-use_item
returns-then-not-use_item c =
    let a = c.args in
    let p = c.requires in
    record {
      value = (λ es f. shown-met a.kind a.n a.items.now a.slot p.4 p.5 f (sym c.use_item.ensures.value ∙ c.if-not-use_item.true)
          (c.use_item.ensures.bits_len_unchanged, c.use_item.ensures.by_index));
      bits_len_unchanged = refl;
      met_len_unchanged = c.use_item.ensures.bits_len_unchanged;
    }

pub use_item-requires-2 : goal.use_item-requires-2
use_item-requires-2 c =
    let a = c.args in
    let p = c.requires in
    omega (arith, c.first_like-name.ensures, like-inside a.kind a.n a.items.now a.slot p.4 p.5, p.2)

pub returns : goal.returns
returns c =
    let a = c.args in
    let p = c.requires in
    let u = c.use_item.ensures in
    let v = c.use_item-2.ensures in
    record {
      value =
          (λ es f. shown-named a.kind a.n a.items.now a.slot p.4 p.5 f c.first_like-name.ensures v.value (v.bits_len_unchanged, v.by_index)
          (met-more a.kind a.n a.items.now a.slot p.4 f.those-met (u.bits_len_unchanged, u.by_index)));
      bits_len_unchanged = v.bits_len_unchanged;
      met_len_unchanged = u.bits_len_unchanged;
    }
