-- `append_block::to_block` meets its contract: each arm by the contract of the append that it calls. Assumes nothing.
use Rattle.needs.proofs.Encodings.{rows_told, runs-told}
use Rattle.append.specs.Appending.{Lent, lent}
use Rattle.append_times.proofs.Ways.{arm}
use Rattle.append_block.proofs.to_block.Goals as goal

pub returns-in-Plain : goal.returns-in-Plain
returns-in-Plain c =
    let areas : Lent = let a = c.args in lent a.items.now a.ends.now a.flags.now a.counts.now a.keys.now a.lens.now in
    let a = c.args in
    arm a.kind a.c (areas) a.n a.present a.value a.item.now c.ranges.value
    (rows_told a.encoding c.in-Plain.in-Plain-own.keys1 c.is_flagged.ensures) c.to_rows.ensures

pub returns-in-RunLength : goal.returns-in-RunLength
returns-in-RunLength c =
    let areas : Lent = let a = c.args in lent a.items.now a.ends.now a.flags.now a.counts.now a.keys.now a.lens.now in
    let a = c.args in
    arm a.kind a.c (areas) a.n a.present a.value a.item.now c.ranges.value
    (runs-told a.encoding c.in-RunLength.in-RunLength-own.keys2 c.is_flagged-in-RunLength.ensures) c.to_runs.ensures

pub returns-in-Dictionary : goal.returns-in-Dictionary
returns-in-Dictionary c =
    let areas : Lent = let a = c.args in lent a.items.now a.ends.now a.flags.now a.counts.now a.keys.now a.lens.now in
    let a = c.args in
    arm a.kind a.c (areas) a.n a.present a.value a.item.now c.ranges.value c.in-Dictionary.is c.to_keys.ensures
