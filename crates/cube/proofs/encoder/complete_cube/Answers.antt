-- `complete_cube` completes the data rows along axis 3, then codes every plane: that is the one code cube with the data that stood there.
use mathlib.Core.Path.{◌≡◌}
use Prim.Native.Nat.{ℕ, ◌*◌, ◌<◌}
use native.Mathlib.Omega.{arith}
use lib.ListN.{length, get_or}
use Rattle.shape.specs.Shapes.{cells}
use Rattle.data.specs.Data.{held_data}
use Rattle.data.proofs.HeldData.{length-held_data, held_data-lt}
use Rattle.cube.specs.Theorems.{OneCodeCube}
use Rattle.cube.proofs.Existence.{one-code-cube}
use Rattle.cube.proofs.Encoding.{across-encoded, code-cube, data-held}
use Rattle.cube.proofs.encoder.complete_cube.Goals as goal

pub returns : goal.returns
unfolding OneCodeCube
returns c =
    let sh = c.args.sh in
    let v = c.requires.0.valid in
    let ds = held_data sh c.args.cube.now in
    let rows = across-encoded _ sh _ _ c.complete_across.ensures in
    let size : length c.encode_planes.new.cube ≡ sh.w * cells sh =
    omega (arith, c.complete_across.auto.cube, c.encode_planes.auto.cube) in
    let bytes : (p : ℕ) → get_or c.encode_planes.new.cube p 0 < 256 = λ p. omega (arith, c.slice_known-3-1.given p) in
    let code = code-cube _ c.requires.1 sh v _ _ _ bytes rows c.encode_planes.ensures size in
    let held = data-held _ c.requires.1 sh v _ _ _ bytes rows c.encode_planes.ensures (length-held_data sh _) in
    let source : (p : ℕ) → get_or ds p 0 < 256 = held_data-lt sh _ (λ p. omega (arith, c.slice_known-1.given p)) in
    (one-code-cube c.args.reduction c.requires.1 sh v ds (length-held_data sh _) source).only _ code held
