-- `receive::pieces::Text::append_text` meets its contract. Assumes nothing.
use native.Mathlib.Omega.{arith}
use mathlib.Core.Path.{sym}
use lib.Seq.{length-take-le}
use mathlib.Core.Logic.{inl, inr}
use Rattle.printing.proofs.Appending.{append-nothing}
use Rattle.receive.specs.Printed.{came_text, text_of}
use Rattle.receive.proofs.Endings.{file-texts, byte-taken, texts-fit}
use Rattle.receive.proofs.pieces.Text.append_text.Goals as goal

pub slice_bounds-append_byte-end : goal.slice_bounds-append_byte-end
slice_bounds-append_byte-end c =
    let a = c.args.self.now in
    sym (length-take-le _ _ (omega (arith, file-texts _ _ c.in-Came.is _ c.in-File.is, texts-fit _ a.fits, a.file_whole)))

pub append_byte-requires : goal.append_byte-requires
append_byte-requires c =
    let a = c.args.self.now in
    let n = file-texts _ _ c.in-Came.is _ c.in-File.is in
    rw (length-take-le c.in-File.n a.file.now (omega (arith, n, texts-fit _ a.fits, a.file_whole))) (omega (arith, n, c.requires.1))

pub returns-in-TooBig : goal.returns-in-TooBig
unfolding text_of
returns-in-TooBig c =
    let same = append-nothing c.args.out.now c.args.at c.requires.0 in
    elim c.in-TooBig.is [ inl e ↦ rw e same | inr w ↦ rw w.1 same ]

pub returns-in-File : goal.returns-in-File
unfolding text_of came_text
returns-in-File c =
    let a = c.args.self.now in
    let n = file-texts _ _ c.in-Came.is _ c.in-File.is in
    rw (c.in-Came.is, c.in-File.is)
    (rw (byte-taken a.file.now c.in-File.n c.args.i (omega (arith, n, texts-fit _ a.fits, a.file_whole)) (omega (arith, n, c.requires.1))) at c.append_byte.ensures)

pub returns-in-Left : goal.returns-in-Left
unfolding text_of came_text
returns-in-Left c = rw (c.in-Came.is, c.in-Left.is) c.append_cell.ensures
