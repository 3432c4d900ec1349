-- `place_of` meets its contract: each arm is the function of its encoding. Assumes nothing.
use Rattle.slow_places.proofs.Items.{opened-as, told-as, has-as}
use Rattle.slow_places.proofs.place_of.Goals as goal

pub item_place-requires : goal.item_place-requires
item_place-requires c = (opened-as c.in-Plain.is c.requires.0, c.requires.1)

pub item_place-requires-in-Nullable : goal.item_place-requires-in-Nullable
item_place-requires-in-Nullable c = (opened-as c.in-Nullable.is c.requires.0, c.requires.1)

pub run_place-requires : goal.run_place-requires
run_place-requires c = has-as c.in-RunLength.is c.requires.0 c.requires.1

pub run_place-requires-in-RunLengthNullable : goal.run_place-requires-in-RunLengthNullable
run_place-requires-in-RunLengthNullable c = has-as c.in-RunLengthNullable.is c.requires.0 c.requires.1

pub key_place-requires : goal.key_place-requires
key_place-requires c = has-as c.in-Dictionary.is c.requires.0 c.requires.1

pub returns-in-Plain : goal.returns-in-Plain
returns-in-Plain c = told-as c.in-Plain.is c.item_place.ensures

pub returns-in-Nullable : goal.returns-in-Nullable
returns-in-Nullable c = told-as c.in-Nullable.is c.item_place-in-Nullable.ensures

pub returns-in-RunLength : goal.returns-in-RunLength
returns-in-RunLength c = told-as c.in-RunLength.is (c.run_place.ensures _ c.requires.1)

pub returns-in-RunLengthNullable : goal.returns-in-RunLengthNullable
returns-in-RunLengthNullable c = told-as c.in-RunLengthNullable.is (c.run_place-in-RunLengthNullable.ensures _ c.requires.1)

pub returns-in-Dictionary : goal.returns-in-Dictionary
returns-in-Dictionary c = told-as c.in-Dictionary.is (c.key_place.ensures _ c.requires.1)
