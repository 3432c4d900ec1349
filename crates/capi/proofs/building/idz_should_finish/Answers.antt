-- `capi::idz_should_finish` meets its contract: that of the call below, for the row that the flag says. Assumes nothing.
use Rattle.capi.proofs.building.idz_should_finish.Goals as goal

pub returns : goal.returns
returns c = rw (← c.is_present-there.ensures) c.should_finish.ensures
