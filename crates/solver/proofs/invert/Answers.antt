-- `solver::invert` gives the inverse of a two by two array by value.
use Rattle.field.specs.Field.{add}
use Rattle.solver.specs.Inner.Solver.{entry, adjugate, inverted}
use Rattle.solver.proofs.invert.Goals as goal

pub returns : goal.returns
unfolding entry adjugate inverted add
returns c =
    rw (
      c.mul-6.ensures,
      c.mul-5.ensures,
      c.mul-4.ensures,
      c.mul-3.ensures,
      c.inverse-e.ensures,
      c.mul-2.ensures,
      c.mul.ensures,
    )
