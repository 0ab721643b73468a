-- `text::reader::text_pack_bytes` meets its contract. Assumes nothing.
use Rattle.answer.proofs.Values.{handed-on}
use Rattle.text.specs.Text.{size_broken}
use Rattle.text.proofs.Decoding.{scanned-broken, scanned-whole, size-told}
use Rattle.text.proofs.reader.text_pack_bytes.Goals as goal

pub returns-in_err-s : goal.returns-in_err-s
returns-in_err-s c =
    let (n, value, broken) = scanned-broken _ _ c.scan.ensures c.in_err-s.was in
    rw (handed-on _ _ _ c.from_residual.ensures.1 value) (size_broken n broken)

pub returns : goal.returns
returns c =
    size-told _ (scanned-whole _ _ c.scan.ensures c.in_ok-s.was) c.air_bytes.ensures
