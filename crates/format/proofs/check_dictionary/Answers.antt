-- `format::check_dictionary` meets its contract: each return by the law of the rules tested so far. Assumes nothing.
use Rattle.std.proofs.lemmas.Result.{err_from_is_err_and}
use mathlib.Core.Path.{refl}
use native.Mathlib.Omega.{arith}
use Rattle.limits.proofs.Refused.{refusal-some}
use Rattle.format.proofs.Dictionaries as laws
use Rattle.format.proofs.check_dictionary.Goals as goal

pub returns-then-n-lt12 : goal.returns-then-n-lt12
returns-then-n-lt12 c = laws.too_short _ _ _ _ c.if-n-lt12.true

pub returns-then-entries-gt-MOST_ENTRIES : goal.returns-then-entries-gt-MOST_ENTRIES
returns-then-entries-gt-MOST_ENTRIES c = laws.too_many _ _ _ _ (omega arith) c.entries_in-entries.ensures.0 (omega arith)

pub returns-then-n-keys : goal.returns-then-n-keys
returns-then-n-keys c =
    laws.cut_short _ _ _ _ (omega arith) c.entries_in-entries.ensures.0 (omega arith) c.key_len-keys.ensures (omega arith)

pub returns-in_err-head : goal.returns-in_err-head
returns-in_err-head c =
    let p = err_from_is_err_and c.from_residual.result c.from_residual.ensures.1 in
    rw (p.1, p.2)
    (laws.keys-wrong _ _ _ _ (omega arith) c.entries_in-entries.ensures.0 (omega arith) c.key_len-keys.ensures (omega arith) c.in_err-head.ensures refl)

pub returns-in_err-check : goal.returns-in_err-check
returns-in_err-check c =
    let p = err_from_is_err_and c.from_residual-in_err-check.result c.from_residual-in_err-check.ensures.1 in
    rw (p.1, p.2)
    (laws.entries-wrong _ _ _ _ (omega arith) c.entries_in-entries.ensures.0 (omega arith) c.key_len-keys.ensures (omega arith) c.in_ok-head.ensures refl c.in_err-check.ensures (refusal-some _))

pub returns : goal.returns
returns c =
    laws.entries-right _ _ _ _ (omega arith) c.entries_in-entries.ensures.0 (omega arith) c.key_len-keys.ensures (omega arith) c.in_ok-head.ensures refl
    c.in_ok-check.ensures refl
