-- `char_len` meets its contract: what stands before the first NUL is as long as that one's place. Assumes nothing.
use Rattle.std.proofs.Common.{rules, tests, arith}
use Rattle.std.proofs.lemmas.Iterator.{IsFirst-from_position, YieldsList-from_slice}
use Rattle.std.specs.Prelude.{unwrap_or}
use Prim.Native.Nat.{ℕ, ◌+◌, ◌-◌, ◌*◌, ◌≤◌}
use mathlib.Core.List.{List}
use mathlib.Core.Path.{◌≡◌, sym, ap, ◌∙◌}
use lib.ListN.{length, take, drop}
use lib.Seq.{length-take-le}
use lib.ListN.{length-drop}
use Rattle.plain.specs.Plain.{char_at}
use Rattle.plain.proofs.Chars.{IsNul, IsOther, length_first, length-char}
use Rattle.plain.proofs.char_len.Goals as goal

pub returns : goal.returns
unfolding char_at
returns c =
    let a = c.args in
    let at = a.i * a.w in
    let xs : List ℕ = take a.w (drop at a.s.now) in
    let cut : at + a.w - at ≡ a.w = omega arith in
    let rest : c.iter.result.rest.now ≡ xs = c.iter.ensures.rest ∙ ap (λ (m : ℕ). take m (drop at a.s.now)) cut in
    let d : length (drop at a.s.now) ≡ length a.s.now - at = length-drop at a.s.now in
    let long : length xs ≡ a.w = length-take-le a.w (drop at a.s.now) (omega arith) in
    let first = IsFirst-from_position _ _ c.position.result IsNul IsOther c.position.ensures.ran (YieldsList-from_slice xs rest)
    (λ x q k. search (rules, tests)) (λ x q k. search (rules, tests)) in
    let is : c.unwrap_or.result ≡ length (char_at a.w a.s.now a.i) =
    c.unwrap_or.ensures ∙ ap (unwrap_or c.position.result) (sym long) ∙ sym (length_first xs c.position.result first) in
    let short : length (char_at a.w a.s.now a.i) ≤ a.w = length-char a.w a.s.now a.i in
    (is, omega arith)
