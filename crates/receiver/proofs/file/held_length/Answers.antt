-- `held_length` reads the first four bytes of the data string, low first.
use native.Mathlib.Omega.{arith}
use Rattle.cursor.specs.Steps.{word}
use Rattle.receiver.proofs.HeldFile.{read_told}
use Rattle.receiver.proofs.file.held_length.Goals as goal

pub returns : goal.returns
unfolding word
returns c =
    let copy = read_told _ _ _ _ _ _ _ _ c.requires.0.valid c.requires.0.size c.requires.1 (omega arith) c.read_data.ensures in
    omega (
      arith,
      c.from_le_bytes.ensures,
      copy.copied 0 (omega arith),
      copy.copied 1 (omega arith),
      copy.copied 2 (omega arith),
      copy.copied 3 (omega arith),
    )
