-- `text::reader::read_text` meets its contract. Assumes nothing.
use mathlib.Core.Path.{refl}
use Rattle.answer.proofs.Values.{handed-on}
use Rattle.text.specs.Text.{read_broken}
use Rattle.text.proofs.Decoding.{scanned-broken}
use Rattle.text.proofs.reader.read_text.Goals as goal

pub returns-in_err-s : goal.returns-in_err-s
returns-in_err-s c =
    let (n, value, broken) = scanned-broken _ _ c.scan.ensures c.in_err-s.was in
    rw (handed-on _ _ _ c.from_residual.ensures.1 value) (read_broken n broken refl)
