-- `print` meets its contract: the lists that it lends have as many slots as the program's. Assumes nothing.
use Rattle.compare_by.proofs.Files as laws
use Rattle.compare_by.proofs.print.Goals as goal

pub returns : goal.returns
returns c =
    laws.as-asked _ _ c.slots-firsts.ensures c.slots-lasts.ensures c.print_by.ensures
