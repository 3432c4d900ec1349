-- `begun` meets its contract: each return is a row of the table, or none. Assumes nothing.
use mathlib.Core.Path.{sym}
use native.Mathlib.Omega.{arith}
use Rattle.slow_text.proofs.Starts.{shown, row-0, row-1, row-2, row-3, row-4, row-5, row-6, row-7, row-8, between, behind-all}
use Rattle.slow_text.proofs.begun.Goals as goal

pub returns-then-b-le127 : goal.returns-then-b-le127
returns-then-b-le127 c =
    let b = c.args.b in
    shown c.asks.result c.asks.ensures (row-0 b (omega arith))

pub returns-then-b-lt194 : goal.returns-then-b-lt194
returns-then-b-lt194 c =
    let b = c.args.b in
    (sym (between b (omega arith) (omega arith)), tt)

pub returns-then-b-le223 : goal.returns-then-b-le223
returns-then-b-le223 c =
    let b = c.args.b in
    shown c.asks-then-b-le223.result c.asks-then-b-le223.ensures (row-1 b (omega arith) (omega arith))

pub returns-then-b-eq224 : goal.returns-then-b-eq224
returns-then-b-eq224 c =
    let b = c.args.b in
    shown c.asks-then-b-eq224.result c.asks-then-b-eq224.ensures (row-2 b (omega arith) (omega arith))

pub returns-then-b-le236 : goal.returns-then-b-le236
returns-then-b-le236 c =
    let b = c.args.b in
    shown c.asks-then-b-le236.result c.asks-then-b-le236.ensures (row-3 b (omega arith) (omega arith))

pub returns-then-b-eq237 : goal.returns-then-b-eq237
returns-then-b-eq237 c =
    let b = c.args.b in
    shown c.asks-then-b-eq237.result c.asks-then-b-eq237.ensures (row-4 b (omega arith) (omega arith))

pub returns-then-b-le239 : goal.returns-then-b-le239
returns-then-b-le239 c =
    let b = c.args.b in
    shown c.asks-then-b-le239.result c.asks-then-b-le239.ensures (row-5 b (omega arith) (omega arith))

pub returns-then-b-eq240 : goal.returns-then-b-eq240
returns-then-b-eq240 c =
    let b = c.args.b in
    shown c.asks-then-b-eq240.result c.asks-then-b-eq240.ensures (row-6 b (omega arith) (omega arith))

pub returns-then-b-le243 : goal.returns-then-b-le243
returns-then-b-le243 c =
    let b = c.args.b in
    shown c.asks-then-b-le243.result c.asks-then-b-le243.ensures (row-7 b (omega arith) (omega arith))

pub returns-then-b-eq244 : goal.returns-then-b-eq244
returns-then-b-eq244 c =
    let b = c.args.b in
    shown c.asks-then-b-eq244.result c.asks-then-b-eq244.ensures (row-8 b (omega arith) (omega arith))

pub returns : goal.returns
returns c =
    let b = c.args.b in
    (sym (behind-all b (omega arith)), tt)
