-- `format::check_but_keys` meets its contract: rule 15 isn't asked, and so gives 0. Assumes nothing.
use Rattle.format.specs.Found.{keys_asked, dictionary_asked}
use Rattle.format.proofs.check_but_keys.Goals as goal

pub returns : goal.returns
unfolding dictionary_asked keys_asked
returns c = c.check_dictionary.ensures
