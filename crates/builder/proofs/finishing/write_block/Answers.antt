-- `builder::write_block` meets its contract: each return by the law of the tests and arms that led there. Assumes nothing.
use mathlib.Core.Path.{ap, ◌∙◌}
use mathlib.Core.List.{[]}
use lib.Seq.{sets}
use Rattle.append.specs.Appending.{Lent, lent}
use Rattle.builder.proofs.BlockHeld as laws
use Rattle.builder.proofs.finishing.write_block.Goals as goal

pub write_inner-requires : goal.write_inner-requires
write_inner-requires c =
    let areas : Lent = let a = c.args in lent a.items.now a.ends.now a.flags.now a.counts.now a.keys.now [] in
    let a = c.args in
    laws.plain-asks a.kind a.c (areas) c.requires.0 c.requires.2 c.in-Plain.is

pub write_inner-requires-in-Nullable : goal.write_inner-requires-in-Nullable
write_inner-requires-in-Nullable c =
    let areas : Lent = let a = c.args in lent a.items.now a.ends.now a.flags.now a.counts.now a.keys.now [] in
    let a = c.args in
    laws.nullable-asks a.kind a.c (areas) c.requires.0 c.requires.2 c.in-Nullable.is

pub write_coded-requires : goal.write_coded-requires
write_coded-requires c =
    let areas : Lent = let a = c.args in lent a.items.now a.ends.now a.flags.now a.counts.now a.keys.now [] in
    let a = c.args in
    laws.runs-ask a.kind a.c (areas) c.requires.0 c.requires.2 c.requires.1 c.in-RunLength.is

pub write_coded-requires-in-RunLengthNullable : goal.write_coded-requires-in-RunLengthNullable
write_coded-requires-in-RunLengthNullable c =
    let areas : Lent = let a = c.args in lent a.items.now a.ends.now a.flags.now a.counts.now a.keys.now [] in
    let a = c.args in
    laws.null-runs-ask a.kind a.c (areas) c.requires.0 c.requires.2 c.requires.1 c.in-RunLengthNullable.is

pub write_dictionary-requires : goal.write_dictionary-requires
write_dictionary-requires c =
    let areas : Lent = let a = c.args in lent a.items.now a.ends.now a.flags.now a.counts.now a.keys.now [] in
    let a = c.args in
    laws.keys-ask a.kind a.c (areas) c.requires.0 c.requires.2 c.requires.1 c.in-Dictionary.is

pub returns-in-Plain : goal.returns-in-Plain
returns-in-Plain c =
    let areas : Lent = let a = c.args in lent a.items.now a.ends.now a.flags.now a.counts.now a.keys.now [] in
    let a = c.args in
    c.write_inner.ensures.out_after ∙ ap (sets a.out.now 0) (laws.block-plain a.kind a.c (areas) c.in-Plain.is)

pub returns-in-Nullable : goal.returns-in-Nullable
returns-in-Nullable c =
    let areas : Lent = let a = c.args in lent a.items.now a.ends.now a.flags.now a.counts.now a.keys.now [] in
    let a = c.args in
    c.write_inner-in-Nullable.ensures.out_after ∙ ap (sets a.out.now 0) (laws.block-nullable a.kind a.c (areas) c.in-Nullable.is)

pub returns-in-RunLength : goal.returns-in-RunLength
returns-in-RunLength c =
    let areas : Lent = let a = c.args in lent a.items.now a.ends.now a.flags.now a.counts.now a.keys.now [] in
    let a = c.args in
    c.write_coded.ensures ∙ ap (sets a.out.now 0) (laws.block_runs a.kind a.c (areas) c.in-RunLength.is)

pub returns-in-RunLengthNullable : goal.returns-in-RunLengthNullable
returns-in-RunLengthNullable c =
    let areas : Lent = let a = c.args in lent a.items.now a.ends.now a.flags.now a.counts.now a.keys.now [] in
    let a = c.args in
    c.write_coded-in-RunLengthNullable.ensures ∙ ap (sets a.out.now 0) (laws.block-null-runs a.kind a.c (areas) c.in-RunLengthNullable.is)

pub returns-in-Dictionary : goal.returns-in-Dictionary
returns-in-Dictionary c =
    let areas : Lent = let a = c.args in lent a.items.now a.ends.now a.flags.now a.counts.now a.keys.now [] in
    let a = c.args in
    c.write_dictionary.ensures ∙ ap (sets a.out.now 0) (laws.block-keys a.kind a.c (areas) c.in-Dictionary.is)
