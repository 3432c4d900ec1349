-- `anatomy::keys_outside` meets its contract: each return by the law of the tests there. Assumes nothing.
use mathlib.Core.Path.{refl}
use native.Mathlib.Omega.{arith}
use Rattle.anatomy.proofs.NumberTests as laws
use Rattle.anatomy.proofs.keys_outside.Goals as goal

-- src/lib.rt:74:9
pub returns-then-head-gt-MOST_BYTES : goal.returns-then-head-gt-MOST_BYTES
returns-then-head-gt-MOST_BYTES c = laws.keys-far _ _ _ c.requires.0 c.if-head-gt-MOST_BYTES.true

-- src/lib.rt:76:31
pub least_bytes-requires : goal.least_bytes-requires
least_bytes-requires c =
    let f = laws.keys-few c.args.head c.requires.1 refl in
    omega arith

-- src/lib.rt:77:9
pub returns-then-len-head : goal.returns-then-len-head
returns-then-len-head c = laws.entries-outside _ _ _ c.least_bytes.ensures.0 c.if-len-head.true

-- src/lib.rt:79:35
pub overflow_mul-head : goal.overflow_mul-head
overflow_mul-head c =
    let f = laws.keys-few c.args.head c.requires.1 refl in
    omega arith

-- src/lib.rt:79:5
pub runs_outside-requires : goal.runs_outside-requires
runs_outside-requires c =
    let f = laws.keys-few c.args.head c.requires.1 refl in
    (omega arith, omega arith)

-- src/lib.rt:69:1
pub returns : goal.returns
returns c = laws.key-runs-outside _ _ _ c.least_bytes.ensures.0 (omega arith) c.runs_outside.ensures
