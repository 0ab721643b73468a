-- The theorem: every example of the list holds. Its kind's test passes, which computes, and answers true only where the claim holds.
use mathlib.Core.Path.{◌≡◌, refl}
use mathlib.Core.Bool.{Bool, true}
use mathlib.Core.List.{List, [], ◌∷◌}
use lib.Dec.{eqb}
use lib.ListN.{length, get_or}
use borrow.Author.Tests.{eqb-true}
use Rattle.answer.specs.Values.{check, and_then}
use Rattle.field.specs.Field.{add, reduction, xtime, mul_bits, mul, pow}
use Rattle.solver.specs.Solver.{pick, error_place}
use Rattle.line.specs.Line.{syndrome0, syndrome1, corrected}
use Rattle.shape.specs.Shapes.{cells, capacity, both, within, lengths_fit, sizes, shape_checked, cell}
use Rattle.shape.specs.Flags.{missing, none_missing, flags_valid}
use Rattle.shape.proofs.Valid.{both-parts}
use Rattle.stopping.specs.Stopping.{number, on_line}
use Rattle.stopping.proofs.Peeling.{has, listed, clear, few, peels, peel_line, pass, stable, peeled, largest}
use Rattle.stopping.proofs.CubeLines.{table, grid, lines1, lines2, lines3, cube_lines, cube_largest}
use Rattle.data.specs.Data.{layer}
use Rattle.cube.specs.Cube.{layer_line}
use Rattle.data.specs.Calls.{slices_checked}
use Rattle.fill.specs.Fill.{flags_checked}
use Rattle.mend.specs.Mend.{mend_checked, whole_checked}
use Rattle.examples.specs.Examples.{Example, product, right, encodes, fills, leaves, mends, no_place, Holds, Each, smallest, planes, made, wider, diagonal, diagonals, last_known, last_known_flags, examples}
use Rattle.examples.proofs.Tests.{implies, same, passes?, all, all₂, axis_lines, all_lines, bytes?, codeword?, codeword?-sound, line?, code_cube?, holds_data?, encodes?, encodes?-sound}
use Rattle.examples.proofs.Filling.{largest?, leaves?, leaves?-sound, kept?, zero?, right_off?, filling?, flag?, flagged?, filled?, contradicts?, fills?, fills?-sound}
use Rattle.examples.proofs.Mending.{corrects?, pass?, mended?, mends?, mends?-sound, no-place?, no-place?-sound}

unfoldable pub holds? : Example → Bool
holds? (product a b c) = eqb (mul reduction a b) c
holds? (right cs) = codeword? reduction (λ i. get_or cs i 0) (length cs)
holds? (encodes sh ds before after value) = encodes? sh ds before after value
holds? (fills sh xs fs xs' fs' value) = fills? sh xs fs xs' fs' value
holds? (leaves sh fs size) = leaves? sh fs size
holds? (mends sh xs fs before after value) = mends? sh xs fs before after value
holds? (no_place v0 v1 n j) = no-place? v0 v1 n j

holds?-sound : (e : Example) → holds? e ≡ true → Holds e
unfolding holds? Holds
holds?-sound (product a b c) h = eqb-true _ _ h
holds?-sound (right cs) h = codeword?-sound reduction _ (length cs) h
holds?-sound (encodes sh ds before after value) h = encodes?-sound sh ds before after value h
holds?-sound (fills sh xs fs xs' fs' value) h = fills?-sound sh xs fs xs' fs' value h
holds?-sound (leaves sh fs size) h = leaves?-sound sh fs size h
holds?-sound (mends sh xs fs before after value) h = mends?-sound sh xs fs before after value h
holds?-sound (no_place v0 v1 n j) h = no-place?-sound v0 v1 n j h

unfoldable pub each? : List Example → Bool
each? [] = true
each? (e ∷ es) = both (holds? e) (each? es)

each?-sound : (es : List Example) → each? es ≡ true → Each Holds es
unfolding each? Each
each?-sound [] h = tt
each?-sound (e ∷ es) h =
    let (here, rest) = both-parts (holds? e) (each? es) h in
    (holds?-sound e here, each?-sound es rest)

-- the test of the whole list computes; it opens the list, then what encoding, filling and mending compute by
examples-pass : each? examples ≡ true
unfolding examples smallest planes made wider diagonal diagonals last_known last_known_flags each? holds?
    add reduction xtime mul_bits mul pow syndrome0 syndrome1 cells capacity cell layer layer_line both all all₂ axis_lines all_lines
    bytes? codeword? line? code_cube? holds_data? encodes? slices_checked
    within lengths_fit sizes shape_checked check and_then missing flags_valid flags_checked number on_line implies same passes?
    has listed clear few peels peel_line pass stable peeled largest table grid lines1 lines2 lines3 cube_lines cube_largest largest? leaves?
    kept? zero? right_off? filling? flag? flagged? filled? contradicts? fills?
    pick error_place corrected none_missing whole_checked mend_checked corrects? pass? mended? mends? no-place?
examples-pass = refl

pub examples-hold : Each Holds examples
examples-hold = each?-sound examples examples-pass
