-- `is_text` meets its contract: each arm is the rule of its kind. Assumes nothing.
use borrow.Author.Rules.{rules}
use Rattle.slow_plain.proofs.Pieces.{char-bytes, blob-bytes, fixed-text, char-text, string-text, blob-text}
use Rattle.slow_plain.proofs.is_text.Goals as goal

pub chars_are_text-requires : goal.chars_are_text-requires
chars_are_text-requires c = let p = c.requires in (p.0, search rules, char-bytes _ _ p.1 c.in-Char.is)

pub strings_are_text-requires : goal.strings_are_text-requires
strings_are_text-requires c = let p = c.requires in (p.0, blob-bytes _ _ p.1 c.in-Blob.is)

pub returns-then-text : goal.returns-then-text
returns-then-text c = string-text _ _ c.in-Blob.is c.if-text.true c.strings_are_text.ensures

pub returns-in-Fixed : goal.returns-in-Fixed
returns-in-Fixed c = fixed-text _ _ c.in-Fixed.is

pub returns-in-Char : goal.returns-in-Char
returns-in-Char c = char-text _ _ c.in-Char.is c.chars_are_text.ensures

pub returns-else-text : goal.returns-else-text
returns-else-text c = blob-text _ _ c.in-Blob.is c.if-text.false
