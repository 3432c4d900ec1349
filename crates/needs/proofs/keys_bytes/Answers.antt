-- `needs::keys_bytes` meets its contract: each return by the law of the tests and arms that led there. Assumes nothing.
use Rattle.needs.proofs.Lengths as lengths
use Rattle.needs.proofs.keys_bytes.Goals as goal

pub returns : goal.returns
returns c = lengths.keys-block _ _ c.run_bytes.ensures.0 c.plain_bytes.ensures.0
