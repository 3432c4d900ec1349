-- `capi::idz_append_times` meets its contract: that of the call below, for the row that the flag says. Assumes nothing.
use mir.Facts.{to_z-of_z}
use Rattle.builder.proofs.Coincide.{appends}
use Rattle.capi.proofs.building.idz_append_times.Goals as goal

pub returns : goal.returns
returns c =
    let v = to_z-of_z c.ranges.value in
    let e = c.append_times.ensures in
    rw (← c.is_present-there.ensures)
    (appends _ _ _ _ _ _ _ _ _ _ _ _ _
    (rw v at e.value)
    (rw v at e.after)
    (rw v at e.ends_after)
    (rw v at e.flags_after)
    (rw v at e.counts_after)
    (rw v at e.keys_after)
    (rw v at e.lens_after))
