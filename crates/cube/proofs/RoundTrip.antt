-- Encoding and extracting undo each other: a data string has one code cube, and a cube holds one data string.
use mathlib.Core.Path.{sym}
use Rattle.data.specs.Data.{held_data}
use Rattle.cube.specs.Encoded.{encoded}
use Rattle.cube.specs.Theorems.{OneCodeCube, RoundTrip}
use Rattle.data.proofs.HeldData.{held_data-holds, held_data-only, held_data-lt, length-held_data}
use Rattle.cube.proofs.Existence.{one-code-cube}

pub round_trip : RoundTrip
unfolding RoundTrip OneCodeCube
round_trip r p sh v = (
  λ ds size bytes. sym (held_data-only sh (encoded r sh ds) ds v (one-code-cube r p sh v ds size bytes).holds),
  λ xs code.
      sym ((one-code-cube r p sh v (held_data sh xs) (length-held_data sh xs) (held_data-lt sh xs code.bytes)).only xs code (held_data-holds sh xs)),
)
