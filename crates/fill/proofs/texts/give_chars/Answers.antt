-- `fill::give_chars` meets its contract: what was written is the filling, and no look was needed. Assumes nothing.
use mathlib.Core.List.{[]}
use native.Mathlib.Omega.{arith}
use Rattle.item_rows.proofs.LoneChars.{chars-read, chars-weight, chars-flags}
use Rattle.fill.specs.Areas.{areas}
use Rattle.fill.proofs.FilledAreas.{texts-written, stays, is-char}
use Rattle.fill.proofs.texts.give_chars.Goals as goal

-- src/texts.rt:101:1
pub returns : goal.returns
returns c =
    let a = c.args in
    let m = c.requires.1 in
    let read = chars-read a.parts a.from a.block.now a.n c.requires.0 a.w m.alone in
    let all = texts-written
    read
    (areas [] a.flags.now a.ends.now a.bytes.now)
    (is-char _ a.w m.alone.kind)
    _
    (chars-weight a.parts a.from a.block.now a.n c.requires.0 a.w m.alone c.write_chars-total.ensures.value.0 c.write_chars-total.ensures.value.1)
    a.from
    (stays a.parts a.from _ m.alone.coded)
    m.flagged
    m.ended
    (omega (arith, c.write_chars-total.ensures.value.0, m.held))
    (omega (arith, c.write_chars-total.ensures.value.1))
    (chars-flags a.parts a.from a.block.now a.n c.requires.0 a.w m.alone a.flags.now c.fill.ensures)
    c.write_chars-total.ensures.ends_after
    c.write_chars-total.ensures.bytes_after in
    record { value = all.0; flags_after = all.1.0; ends_after = all.1.1.0; bytes_after = all.1.1.1 }
