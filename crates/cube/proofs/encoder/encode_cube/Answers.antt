-- `encode_cube` encodes the data rows along axis 3, then codes every plane: that is the one code cube with the data.
use mathlib.Core.Path.{◌≡◌}
use Prim.Native.Nat.{ℕ, ◌*◌, ◌<◌}
use native.Mathlib.Omega.{arith}
use lib.ListN.{length, get_or}
use Rattle.shape.specs.Shapes.{cells}
use Rattle.cube.specs.Theorems.{OneCodeCube}
use Rattle.cube.proofs.Existence.{one-code-cube}
use Rattle.cube.proofs.Encoding.{code-cube, data-held}
use Rattle.cube.proofs.encoder.encode_cube.Goals as goal

pub returns : goal.returns
unfolding OneCodeCube
returns c =
    let sh = c.args.sh in
    let v = c.requires.0.valid in
    let size : length c.encode_planes.new.cube ≡ sh.w * cells sh =
    omega (arith, c.encode_rows.auto.cube, c.encode_planes.auto.cube) in
    let bytes : (p : ℕ) → get_or c.encode_planes.new.cube p 0 < 256 = λ p. omega (arith, c.slice_known-3-1.given p) in
    let code = code-cube _ c.requires.2 sh v _ _ _ bytes c.encode_rows.ensures c.encode_planes.ensures size in
    let held = data-held _ c.requires.2 sh v _ _ _ bytes c.encode_rows.ensures c.encode_planes.ensures c.requires.1 in
    let source : (p : ℕ) → get_or c.args.«data».now p 0 < 256 = λ p. omega (arith, c.shared_slice_known-1.given p) in
    (one-code-cube c.args.reduction c.requires.2 sh v c.args.«data».now c.requires.1 source).only _ code held
