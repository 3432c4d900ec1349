-- `salvage_parts` meets its contract: the sizes and the ranges are found first; then each return by the law of the tests that led there. Assumes nothing.
use native.Mathlib.Omega.{arith}
use Prim.Native.Nat.{ℕ, ◌≤◌}
use mathlib.Core.List.{List}
use mathlib.Core.Path.{◌≡◌}
use lib.ListN.{length}
use Rattle.plain.specs.Rows.{Row}
use Rattle.dict.specs.Dictionary.{dictionary_of}
use Rattle.ranges.specs.Ranges.{Range}
use Rattle.repaired.specs.Repaired.{rows_repaired}
use Rattle.used.proofs.Start.{used-none}
use Rattle.repaired_sizes.proofs.Long.{found_within}
use Rattle.salvaging.specs.Mending.{ranges_lost}
use Rattle.salvaging.proofs.MendedSizes as sizes
use Rattle.salvaging.proofs.Outcomes as laws
use Rattle.salvaging.proofs.salvage_parts.Goals as goal

pub sizes_of-sizes-requires : goal.sizes_of-sizes-requires
sizes_of-sizes-requires c =
    let m = c.requires in
    let a = c.args in
    (m.keyed, m.entered, m.ahead, m.short, used-none a.kind a.entries a.items.now 8192 (omega (arith, m.entered.few)), m.small)

pub block_len-len-requires : goal.block_len-len-requires
block_len-len-requires c =
    let rows : List Row = let a = c.args in rows_repaired a.kind a.entries a.runs a.counts.now a.keys.now a.items.now a.n in
    found_within c.args.kind (rows) c.sizes_of-sizes.ensures.value c.requires.small

pub returns-then-out-len : goal.returns-then-out-len
returns-then-out-len c =
    let rows : List Row = let a = c.args in rows_repaired a.kind a.entries a.runs a.counts.now a.keys.now a.items.now a.n in
    let block : List ℕ = dictionary_of c.args.kind (rows) in
    let lost : List Range = let a = c.args in ranges_lost a.entries a.runs a.counts.now a.keys.now a.n in
    let long : c.block_len-len.result ≡ length (block) = sizes.found-long c.args.kind (rows) c.sizes_of-sizes.ensures.value c.block_len-len.ensures in
    let a = c.args in
    let all = laws.out-short (block) (lost) a.firsts.now a.lasts.now a.out.now (omega (arith, long)) c.refused.ensures in
    record { value = all.0; firsts_after = all.1.0; lasts_after = all.1.1.0; out_after = all.1.1.1 }

pub returns-then-firsts-ranges : goal.returns-then-firsts-ranges
returns-then-firsts-ranges c =
    let rows : List Row = let a = c.args in rows_repaired a.kind a.entries a.runs a.counts.now a.keys.now a.items.now a.n in
    let block : List ℕ = dictionary_of c.args.kind (rows) in
    let lost : List Range = let a = c.args in ranges_lost a.entries a.runs a.counts.now a.keys.now a.n in
    let long : c.block_len-len.result ≡ length (block) = sizes.found-long c.args.kind (rows) c.sizes_of-sizes.ensures.value c.block_len-len.ensures in
    let room : length (block) ≤ length c.args.out.now = omega (arith, long, c.if-out-len.false) in
    let many : c.mark_lost-ranges.result ≡ length (lost) = c.mark_lost-ranges.ensures.value in
    let a = c.args in
    let all = laws.firsts-short (block) (lost) a.firsts.now a.lasts.now a.out.now (room) (omega (arith, many)) c.refused-then-firsts-ranges.ensures in
    record { value = all.0; firsts_after = all.1.0; lasts_after = all.1.1.0; out_after = all.1.1.1 }

pub returns-then-lasts-ranges : goal.returns-then-lasts-ranges
returns-then-lasts-ranges c =
    let rows : List Row = let a = c.args in rows_repaired a.kind a.entries a.runs a.counts.now a.keys.now a.items.now a.n in
    let block : List ℕ = dictionary_of c.args.kind (rows) in
    let lost : List Range = let a = c.args in ranges_lost a.entries a.runs a.counts.now a.keys.now a.n in
    let long : c.block_len-len.result ≡ length (block) = sizes.found-long c.args.kind (rows) c.sizes_of-sizes.ensures.value c.block_len-len.ensures in
    let room : length (block) ≤ length c.args.out.now = omega (arith, long, c.if-out-len.false) in
    let many : c.mark_lost-ranges.result ≡ length (lost) = c.mark_lost-ranges.ensures.value in
    let a = c.args in
    let all = laws.lasts-short (block) (lost) a.firsts.now a.lasts.now a.out.now (room) (omega (arith, many)) (omega (arith, many))
    c.refused-then-lasts-ranges.ensures in
    record { value = all.0; firsts_after = all.1.0; lasts_after = all.1.1.0; out_after = all.1.1.1 }

pub write_block-requires : goal.write_block-requires
write_block-requires c =
    let rows : List Row = let a = c.args in rows_repaired a.kind a.entries a.runs a.counts.now a.keys.now a.items.now a.n in
    let block : List ℕ = dictionary_of c.args.kind (rows) in
    let long : c.block_len-len.result ≡ length (block) = sizes.found-long c.args.kind (rows) c.sizes_of-sizes.ensures.value c.block_len-len.ensures in
    let room : length (block) ≤ length c.args.out.now = omega (arith, long, c.if-out-len.false) in
    let p = c.requires in (
      p.keyed,
      p.entered,
      p.ahead,
      c.sizes_of-sizes.ensures.used.firsts,
      p.short,
      c.sizes_of-sizes.ensures.value,
      sizes.entries-good c.args.kind (rows) c.sizes_of-sizes.ensures.value p.kept,
      sizes.entries-read c.args.kind (rows) c.sizes_of-sizes.ensures.value p.kept,
      p.small,
      room,
    )

pub mark_lost-requires : goal.mark_lost-requires
mark_lost-requires c =
    let p = c.requires in
    (p.keyed, p.ahead)

pub returns : goal.returns
returns c =
    let rows : List Row = let a = c.args in rows_repaired a.kind a.entries a.runs a.counts.now a.keys.now a.items.now a.n in
    let block : List ℕ = dictionary_of c.args.kind (rows) in
    let lost : List Range = let a = c.args in ranges_lost a.entries a.runs a.counts.now a.keys.now a.n in
    let long : c.block_len-len.result ≡ length (block) = sizes.found-long c.args.kind (rows) c.sizes_of-sizes.ensures.value c.block_len-len.ensures in
    let room : length (block) ≤ length c.args.out.now = omega (arith, long, c.if-out-len.false) in
    let many : c.mark_lost-ranges.result ≡ length (lost) = c.mark_lost-ranges.ensures.value in
    let a = c.args in
    let all = laws.all-written (block) (lost) a.firsts.now a.lasts.now a.out.now
    (room) (omega (arith, many, c.if-firsts-ranges.false)) (omega (arith, many, c.if-lasts-ranges.false))
    (long) (many) c.mark_lost.ensures.firsts_after c.mark_lost.ensures.lasts_after c.write_block.ensures in
    record { value = all.0; firsts_after = all.1.0; lasts_after = all.1.1.0; out_after = all.1.1.1 }
