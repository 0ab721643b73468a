-- `receive::write_pieces` meets its contract: after k turns the first k pieces are written. Assumes nothing.
use Rattle.std.proofs.Common.{◌≡◌, ◌∙◌, arith}
use Rattle.receive.specs.Pieces.{pieces}
use Rattle.receive.proofs.Writing.{appends_none, appends_more, appends-printed}
use Rattle.receive.proofs.write_pieces.Goals as goal

pub loop-k-init : goal.loop-k-init
loop-k-init g c = (c.requires, appends_none _ _ _ _)

pub loop-k-preserved : goal.loop-k-preserved
loop-k-preserved g c = (
  c.piece-end.auto.out ∙ c.loop-k.invariant.0,
  appends_more _ _ _ _ _ _ _ _ c.loop-k.invariant.1 c.piece-end.ensures.out_after c.in_ok-write_all.ensures.bytes,
)

pub returns : goal.returns
returns g c =
    let e : c.loop-k.k ≡ pieces c.args.text.outcome = let n = c.count-k-end.ensures in omega arith in
    appends-printed _ _ _ _ _ _ e c.loop-k.invariant.1
