-- `check_blobs` meets its contract: the rules of the ends, then text where it is asked for. Assumes nothing.
use mathlib.Core.Path.{◌≡◌, sym, ◌∙◌}
use native.Mathlib.Omega.{arith}
use borrow.Author.Rules.{rules}
use Rattle.limits.specs.Refusals.{CUT}
use Rattle.encode.specs.Kinds.{blob}
use Rattle.plain.specs.Plain.{lengths_number}
use Rattle.std.proofs.lemmas.Result.{err_from_is_err_and}
use Rattle.limits.proofs.Refused.{refusal-some}
use Rattle.plain.proofs.Ends.{ends-missing}
use Rattle.plain.proofs.Numbers.{ends-broken, bytes-open, strings-open, strings-broken}
use Rattle.plain.proofs.check_blobs.Goals as goal

pub returns-then-s-n : goal.returns-then-s-n
returns-then-s-n c =
    let a = c.args in
    ends-broken a.text a.n a.s.now (ends-missing a.n a.s.now c.if-s-n.true) (λ (z : CUT ≡ 0). omega arith)

pub returns-in_err-check_ends : goal.returns-in_err-check_ends
returns-in_err-check_ends c =
    let a = c.args in
    let p = err_from_is_err_and c.from_residual.result c.from_residual.ensures.1 in
    rw (p.1, p.2) (ends-broken a.text a.n a.s.now c.in_err-check_ends.ensures (refusal-some _))

pub strings_are_text-requires : goal.strings_are_text-requires
strings_are_text-requires c =
    let ends-kept : let a = c.args in 0 ≡ lengths_number blob a.n a.s.now = c.in_ok-check_ends.ensures in
    (search rules, sym (ends-kept))

pub returns-then-not-text : goal.returns-then-not-text
returns-then-not-text c =
    let ends-kept : let a = c.args in 0 ≡ lengths_number blob a.n a.s.now = c.in_ok-check_ends.ensures in
    let a = c.args in
    bytes-open a.text a.n a.s.now (ends-kept) c.if-not-text.true

pub returns-then-strings_are_text : goal.returns-then-strings_are_text
returns-then-strings_are_text c =
    let ends-kept : let a = c.args in 0 ≡ lengths_number blob a.n a.s.now = c.in_ok-check_ends.ensures in
    let a = c.args in
    strings-open a.text a.n a.s.now (ends-kept) c.if-not-text.false (sym c.if-strings_are_text.true ∙ c.strings_are_text.ensures)

pub returns-else-strings_are_text : goal.returns-else-strings_are_text
returns-else-strings_are_text c =
    let ends-kept : let a = c.args in 0 ≡ lengths_number blob a.n a.s.now = c.in_ok-check_ends.ensures in
    let a = c.args in
    strings-broken a.text a.n a.s.now (ends-kept) c.if-not-text.false (sym c.if-strings_are_text.false ∙ c.strings_are_text.ensures)
