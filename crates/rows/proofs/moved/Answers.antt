-- `rows::moved` moves a run.
use mathlib.Core.Path.{refl}
use Rattle.rows.specs.Rows.{behind}
use Rattle.rows.proofs.moved.Goals as goal

pub returns : goal.returns
unfolding behind
returns c = refl
