-- `text::lines::pair` meets its contract.
use Rattle.text.proofs.Hexadecimal.{pair-test}
use Rattle.text.proofs.lines.pair.Goals as goal

pub returns : goal.returns
returns c = pair-test _ _ _ _ _ c.kind.ensures c.kind-2.ensures c.kind-3.ensures
