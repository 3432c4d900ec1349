-- `dictionary_number` meets its contract: each return by the law of the rules tested so far. Assumes nothing.
use mathlib.Core.Path.{refl, ◌∙◌}
use native.Mathlib.Omega.{arith}
use mathlib.Core.Bool.{true}
use Rattle.dict.specs.Dictionary.{key_length, entries_in}
use Rattle.format.proofs.Dictionaries as heads
use Rattle.slow_numbers.specs.Numbers.{order_by}
use Rattle.limits.proofs.Refused.{refusal-some}
use Rattle.slow_plain.proofs.Refused.{passed-on}
use Rattle.slow_rules.proofs.Dictionaries as laws
use Rattle.slow_rules.proofs.dictionary_number.Goals as goal

pub returns-then-s-lt12 : goal.returns-then-s-lt12
returns-then-s-lt12 c = laws.refused _ _ _ (heads.too_short true _ _ _ c.if-s-lt12.true)

pub returns-then-entries-gt-MOST_ENTRIES : goal.returns-then-entries-gt-MOST_ENTRIES
unfolding order_by entries_in
returns-then-entries-gt-MOST_ENTRIES c = laws.refused _ _ _ (heads.too_many true _ _ _ (omega arith) c.number_at-entries.ensures.0 (omega arith))

pub returns-then-room-keys : goal.returns-then-room-keys
unfolding order_by entries_in key_length
returns-then-room-keys c =
    laws.refused _ _ _
    (heads.cut_short true _ _ _ (omega arith) c.number_at-entries.ensures.0 (omega arith) c.number_at-keys.ensures.0 (omega arith))

pub returns-in_err-run_length_number : goal.returns-in_err-run_length_number
unfolding order_by entries_in key_length
returns-in_err-run_length_number c =
    passed-on _ _ c.from_residual.ensures.1
    ∙ laws.runs-wrong _ _ _ (omega arith) c.number_at-entries.ensures.0 (omega arith) c.number_at-keys.ensures.0 (omega arith)
    c.in_err-run_length_number.ensures (refusal-some _)

-- the key block gave 0
pub keys_number-requires : goal.keys_number-requires
keys_number-requires c = laws.keys-sound _ _ c.in_ok-run_length_number.ensures refl

pub returns-in_err-keys_number : goal.returns-in_err-keys_number
unfolding order_by entries_in key_length
returns-in_err-keys_number c =
    passed-on _ _ c.from_residual-in_err-keys_number.ensures.1
    ∙ laws.keys-wrong _ _ _ (omega arith) c.number_at-entries.ensures.0 (omega arith) c.number_at-keys.ensures.0 (omega arith)
    c.in_ok-run_length_number.ensures refl c.in_err-keys_number.ensures (refusal-some _)

pub returns : goal.returns
unfolding order_by entries_in key_length
returns c =
    laws.then-entries _ _ _ (omega arith) c.number_at-entries.ensures.0 (omega arith) c.number_at-keys.ensures.0 (omega arith)
    c.in_ok-run_length_number.ensures refl c.in_ok-keys_number.ensures refl c.plain_number.ensures
