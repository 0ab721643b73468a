-- `receive::pieces::Text::texts` meets its contract. Assumes nothing.
use mathlib.Core.Logic.{inl, inr}
use Rattle.receive.specs.Printed.{texts, came_texts}
use Rattle.receive.proofs.pieces.Text.texts.Goals as goal

pub cells-requires : goal.cells-requires
cells-requires c = (c.args.self.now.fits _ c.in-Came.is).valid

pub returns-in-TooBig : goal.returns-in-TooBig
unfolding texts
returns-in-TooBig c = elim c.in-TooBig.is [ inl e ↦ rw e | inr w ↦ rw w.1 ]

pub returns-in-File : goal.returns-in-File
unfolding texts came_texts
returns-in-File c = rw (c.in-Came.is, c.in-File.is)

pub returns-in-Left : goal.returns-in-Left
unfolding texts came_texts
returns-in-Left c = rw (c.in-Came.is, c.in-Left.is) c.cells.ensures
