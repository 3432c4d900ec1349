-- `char_len` meets its contract. The loop's invariant: no byte that was passed is a NUL, so that what is left decides the length.
-- Assumes nothing.
use Rattle.plain.proofs.Chars.{Uncut}
use Rattle.slow_plain.proofs.char_len.Given as goal

abbrev pub invariant-loop-len : goal.invariant-loop-len
invariant-loop-len l = Uncut l.w l.s l.i l.from l.len
