-- `line::block::solve_block` writes both erasures of each line of a block from the syndromes of the erased lines.
use native.Mathlib.Omega.{arith}
use Rattle.line.proofs.Solving.{places-inside, places-width, combining-end, combining-cleared}
use Rattle.line.proofs.block.solve_block.Goals as goal

pub combine-requires : goal.combine-requires
combine-requires c =
    let end = c.erased_to_end.ensures.yes_then c.if-erased_to_end.true in (
      places-inside c.first_places.ensures end.some_place (omega arith) c.requires.0.0,
      places-width _ _ _ c.first_places.ensures,
      c.requires.0,
      c.requires.1,
    )

pub returns-then-erased_to_end : goal.returns-then-erased_to_end
returns-then-erased_to_end c = combining-end c.requires.0.1 (c.erased_to_end.ensures.yes_then c.if-erased_to_end.true) c.first_places.ensures c.combine.ensures

pub returns : goal.returns
returns c = combining-cleared c.requires.0.0.apart c.clear.ensures c.clear-2.ensures c.combine-2.ensures
