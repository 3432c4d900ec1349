-- `source::seen_run` meets its contract: a piece that has rows is looked at, and its item is there. Assumes nothing.
use mathlib.Core.Path.{refl}
use Rattle.source.proofs.AtPlace.{sees-none, sees-some}
use Rattle.source.proofs.Looks as laws
use Rattle.source.proofs.seen_run.Goals as goal

pub returns-in_err-piece : goal.returns-in_err-piece
returns-in_err-piece c = rw c.from_residual.ensures (laws.look-stuck _ _ _ c.in_err-piece.ensures refl)

pub returns-then-rows-eq0 : goal.returns-then-rows-eq0
returns-then-rows-eq0 c = laws.look_none _ _ _ c.in_ok-piece.ensures refl c.if-rows-eq0.true

pub returns-then-s-seen : goal.returns-then-s-seen
returns-then-s-seen c =
    laws.look-wrong _ _ _ c.in_ok-piece.ensures refl c.if-rows-eq0.false
    (sees-none _ _ _ c.seen_at-seen.ensures.0 c.seen_at-seen.ensures.1 c.if-s-seen.true)

pub returns : goal.returns
returns c =
    laws.look-item _ _ _ c.in_ok-piece.ensures refl c.if-rows-eq0.false
    (sees-some _ _ _ c.seen_at-seen.ensures.0 c.seen_at-seen.ensures.1 c.if-s-seen.false)
