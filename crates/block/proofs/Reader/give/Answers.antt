-- `block::Reader::give` meets its contract: each return by the law of what led there. Assumes nothing.
use Prim.Native.Nat.{◌+◌, ◌<◌, ◌^◌}
use mathlib.Core.Path.{refl, ap}
use Rattle.std.proofs.lemmas.Result.{err_from_is_err_and}
use Rattle.limits.specs.Refusals.{DISAGREE, by_number}
use Rattle.fill.specs.Areas.{Areas, areas}
use Rattle.block.proofs.RecordTests.{apart-asks}
use Rattle.block.proofs.GivenRows.{told}
use Rattle.block.proofs.ReadTests.{read-refused, read-passed}
use Rattle.block.proofs.ReadRows as laws
use Rattle.block.proofs.Reader.give.Goals as goal

pub returns-in_err-column : goal.returns-in_err-column
returns-in_err-column c =
    let a = c.args in
    let lent : Areas = areas a.values.now a.flags.now a.ends.now a.bytes.now in
    let p = err_from_is_err_and c.from_residual.result c.from_residual.ensures.1 in
    let all = told (record { number = _; rows = 0; bytes = 0; reader = a.self }) refl
    (read-refused a.self a.block.now a.skip a.size (lent) c.in_err-column.ensures) in
    rw (p.1, p.2) (record { value = all.0; values_after = all.1.0; flags_after = all.1.1.0; ends_after = all.1.1.1.0; bytes_after = all.1.1.1.1 })

pub take_apart-parts-requires : goal.take_apart-parts-requires
take_apart-parts-requires c =
    let lent : Areas = let a = c.args in areas a.values.now a.flags.now a.ends.now a.bytes.now in
    let passed : let a = c.args in
    laws.Passed a.self a.block.now a.skip a.size (lent) c.in_ok-column.column.kind c.in_ok-column.column.encoding = let a = c.args in
    read-passed a.self a.block.now a.skip a.size (lent) c.in_ok-column.ensures in
    apart-asks (passed).right

pub pass-there-requires : goal.pass-there-requires
pass-there-requires c =
    let lent : Areas = let a = c.args in areas a.values.now a.flags.now a.ends.now a.bytes.now in
    let passed : let a = c.args in
    laws.Passed a.self a.block.now a.skip a.size (lent) c.in_ok-column.column.kind c.in_ok-column.column.encoding = let a = c.args in
    read-passed a.self a.block.now a.skip a.size (lent) c.in_ok-column.ensures in
    laws.pass-may (passed) c.take_apart-parts.ensures c.start.ensures

pub returns-in_default : goal.returns-in_default
returns-in_default c =
    let lent : Areas = let a = c.args in areas a.values.now a.flags.now a.ends.now a.bytes.now in
    let passed : let a = c.args in
    laws.Passed a.self a.block.now a.skip a.size (lent) c.in_ok-column.column.kind c.in_ok-column.column.encoding = let a = c.args in
    read-passed a.self a.block.now a.skip a.size (lent) c.in_ok-column.ensures in
    let all = told (record { number = DISAGREE; rows = 0; bytes = 0; reader = c.args.self }) refl
    (laws.read-stuck (passed) c.take_apart-parts.ensures c.start.ensures c.pass-there.ensures c.in_default.is) in
    record { value = all.0; values_after = all.1.0; flags_after = all.1.1.0; ends_after = all.1.1.1.0; bytes_after = all.1.1.1.1 }

pub overflow_sub-self : goal.overflow_sub-self
overflow_sub-self c =
    let lent : Areas = let a = c.args in areas a.values.now a.flags.now a.ends.now a.bytes.now in
    let passed : let a = c.args in
    laws.Passed a.self a.block.now a.skip a.size (lent) c.in_ok-column.column.kind c.in_ok-column.column.encoding = let a = c.args in
    read-passed a.self a.block.now a.skip a.size (lent) c.in_ok-column.ensures in
    (passed).right.place

pub overflow_sub-self-2 : goal.overflow_sub-self-2
overflow_sub-self-2 c =
    let lent : Areas = let a = c.args in areas a.values.now a.flags.now a.ends.now a.bytes.now in
    let passed : let a = c.args in
    laws.Passed a.self a.block.now a.skip a.size (lent) c.in_ok-column.column.kind c.in_ok-column.column.encoding = let a = c.args in
    read-passed a.self a.block.now a.skip a.size (lent) c.in_ok-column.ensures in
    (passed).within

pub write_rows-requires : goal.write_rows-requires
write_rows-requires c =
    let lent : Areas = let a = c.args in areas a.values.now a.flags.now a.ends.now a.bytes.now in
    let passed : let a = c.args in
    laws.Passed a.self a.block.now a.skip a.size (lent) c.in_ok-column.column.kind c.in_ok-column.column.encoding = let a = c.args in
    read-passed a.self a.block.now a.skip a.size (lent) c.in_ok-column.ensures in
    laws.may (passed) c.take_apart-parts.ensures c.start.ensures c.pass-there.ensures c.in-Some.is c.least-n.ensures

pub returns-in_err-filled : goal.returns-in_err-filled
returns-in_err-filled c =
    let lent : Areas = let a = c.args in areas a.values.now a.flags.now a.ends.now a.bytes.now in
    let passed : let a = c.args in
    laws.Passed a.self a.block.now a.skip a.size (lent) c.in_ok-column.column.kind c.in_ok-column.column.encoding = let a = c.args in
    read-passed a.self a.block.now a.skip a.size (lent) c.in_ok-column.ensures in
    let p = err_from_is_err_and c.from_residual-in_err-filled.result c.from_residual-in_err-filled.ensures.1 in
    let all =
    laws.fill-refused (passed) c.take_apart-parts.ensures c.start.ensures c.pass-there.ensures c.in-Some.is c.least-n.ensures (
      c.write_rows.ensures.value,
      (
        c.write_rows.ensures.values_after,
        (c.write_rows.ensures.flags_after, (c.write_rows.ensures.ends_after, c.write_rows.ensures.bytes_after)),
      ),
    )
    (ap by_number c.in_err-filled.was) in
    rw (p.1, p.2) (record { value = all.0; values_after = all.1.0; flags_after = all.1.1.0; ends_after = all.1.1.1.0; bytes_after = all.1.1.1.1 })

pub nulls_given-nulls-requires : goal.nulls_given-nulls-requires
nulls_given-nulls-requires c =
    let lent : Areas = let a = c.args in areas a.values.now a.flags.now a.ends.now a.bytes.now in
    let passed : let a = c.args in
    laws.Passed a.self a.block.now a.skip a.size (lent) c.in_ok-column.column.kind c.in_ok-column.column.encoding = let a = c.args in
    read-passed a.self a.block.now a.skip a.size (lent) c.in_ok-column.ensures in
    laws.flags-there (passed) c.take_apart-parts.ensures c.start.ensures c.pass-there.ensures c.in-Some.is c.least-n.ensures (
      c.write_rows.ensures.value,
      (
        c.write_rows.ensures.values_after,
        (c.write_rows.ensures.flags_after, (c.write_rows.ensures.ends_after, c.write_rows.ensures.bytes_after)),
      ),
    ) (ap by_number c.in_ok-filled.was)

pub overflow_add-skip : goal.overflow_add-skip
overflow_add-skip c =
    let lent : Areas = let a = c.args in areas a.values.now a.flags.now a.ends.now a.bytes.now in
    let passed : let a = c.args in
    laws.Passed a.self a.block.now a.skip a.size (lent) c.in_ok-column.column.kind c.in_ok-column.column.encoding = let a = c.args in
    read-passed a.self a.block.now a.skip a.size (lent) c.in_ok-column.ensures in
    let fits : let a = c.args in
    (a.skip + c.least-n.result < 2 ^ 64) × (a.self.place + (a.skip + c.least-n.result) < 2 ^ 64) =
    laws.place-fits (passed) c.take_apart-parts.ensures c.start.ensures c.pass-there.ensures c.in-Some.is c.least-n.ensures in
    record { fits = (fits).0 }

pub moved-requires : goal.moved-requires
moved-requires c =
    let lent : Areas = let a = c.args in areas a.values.now a.flags.now a.ends.now a.bytes.now in
    let passed : let a = c.args in
    laws.Passed a.self a.block.now a.skip a.size (lent) c.in_ok-column.column.kind c.in_ok-column.column.encoding = let a = c.args in
    read-passed a.self a.block.now a.skip a.size (lent) c.in_ok-column.ensures in
    let fits : let a = c.args in
    (a.skip + c.least-n.result < 2 ^ 64) × (a.self.place + (a.skip + c.least-n.result) < 2 ^ 64) =
    laws.place-fits (passed) c.take_apart-parts.ensures c.start.ensures c.pass-there.ensures c.in-Some.is c.least-n.ensures in (
      (fits).1,
      laws.nulls-fit (passed) c.take_apart-parts.ensures c.start.ensures c.pass-there.ensures c.in-Some.is c.least-n.ensures (
        c.write_rows.ensures.value,
        (
          c.write_rows.ensures.values_after,
          (c.write_rows.ensures.flags_after, (c.write_rows.ensures.ends_after, c.write_rows.ensures.bytes_after)),
        ),
      ) c.nulls_given-nulls.ensures.1,
    )

pub returns : goal.returns
returns c =
    let lent : Areas = let a = c.args in areas a.values.now a.flags.now a.ends.now a.bytes.now in
    let passed : let a = c.args in
    laws.Passed a.self a.block.now a.skip a.size (lent) c.in_ok-column.column.kind c.in_ok-column.column.encoding = let a = c.args in
    read-passed a.self a.block.now a.skip a.size (lent) c.in_ok-column.ensures in
    let all =
    laws.fill_done (passed) c.take_apart-parts.ensures c.start.ensures c.pass-there.ensures c.in-Some.is c.least-n.ensures (
      c.write_rows.ensures.value,
      (
        c.write_rows.ensures.values_after,
        (c.write_rows.ensures.flags_after, (c.write_rows.ensures.ends_after, c.write_rows.ensures.bytes_after)),
      ),
    )
    (ap by_number c.in_ok-filled.was) c.nulls_given-nulls.ensures.0 c.moved.ensures in
    record { value = all.0; values_after = all.1.0; flags_after = all.1.1.0; ends_after = all.1.1.1.0; bytes_after = all.1.1.1.1 }
