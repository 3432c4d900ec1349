-- 02 (v), the law wanted of one row appended n times, for any numbers and all memory: in parts, one by one, and what the next append of the same row finds.
-- Assumes nothing.
use Rattle.std.specs.Prelude.{ℕ, suc, ◌+◌, false, ◌≡◌, ℤ}
use Rattle.encode.specs.declared.Kind.{Kind}
use Rattle.plain.specs.Rows.{Row}
use Rattle.format.specs.declared.Encoding.{Encoding}
use Rattle.needs.specs.declared.Counted.{Counted}
use Rattle.needs.specs.Needs.{disagree}
use Rattle.step.specs.Steps.{adds, step_of}
use Rattle.append.specs.Appending.{Lent, room_of, held_in, Added}
use Rattle.copies.specs.Copies.{joins_again, stores_again, added_times}
use Rattle.copies_laws.specs.Singles.{singles}

-- the number is 0
abbrev pub Accepted : Added → Type 0
Accepted x = x.answer.number ≡ 0

-- ---- n copies and then m copies, either of them 0 too, are accepted exactly when n + m copies are, and leave the same numbers and areas
abbrev pub AddUp : Kind → Encoding → Counted → Lent → ℕ → ℕ → Row → Type 0
AddUp k e r a n m row =
    let x = added_times k e r a n row in
    let y = added_times k e x.answer.counted x.areas m row in
    let z = added_times k e r a (n + m) row in
    (Accepted x → Accepted y → y ≡ z) × (Accepted z → Accepted x × Accepted y)

-- ---- n + 1 copies are accepted exactly when n + 1 appends of the row are, one after the other, and leave the same numbers and areas
abbrev pub AreAppends : Kind → Encoding → Counted → Lent → ℕ → Row → Type 0
AreAppends k e r a n row =
    let x = added_times k e r a (suc n) row in
    let y = singles k e row (suc n) r a in
    (Accepted y → x ≡ y) × (Accepted x → y ≡ x)

-- ---- on numbers and areas that an append of the row left, the next append of it finds that it joins its run while that can take one row more; else its item
-- is stored again, but for an entry; its key is the same
abbrev pub StepsAgain : Kind → Encoding → Counted → Lent → Row → ℤ → Type 0
StepsAgain k e r a row key = step_of k e r (held_in a) a.keys row ≡ adds (stores_again e r) (joins_again e r) key

-- and the numbers and the areas agree
abbrev pub FindsAgain : Kind → Encoding → Counted → Lent → Row → ℤ → Type 0
FindsAgain k e r a row key = (disagree k e r (room_of a) ≡ false) × StepsAgain k e r a row key
