-- `text::reader::decode` meets its contract. The invariant: the bytes before i are decoded. Assumes nothing.
use mathlib.Core.Path.{◌≡◌, refl}
use native.Mathlib.Omega.{arith}
use Rattle.text.proofs.Hexadecimal.{pair_values, pairs-length}
use Rattle.text.proofs.Decoding.{decoded-more}
use Rattle.text.proofs.reader.decode.Goals as goal

pub overflow_mul-out : goal.overflow_mul-out
overflow_mul-out c =
    let (high, _) = pair_values _ _ _ c.requires.0 c.loop-i.i (omega arith) in
    omega (arith, high, c.value.ensures)

pub overflow_add-out : goal.overflow_add-out
overflow_add-out c =
    let (high, low) = pair_values _ _ _ c.requires.0 c.loop-i.i (omega arith) in
    omega (arith, high, low, c.value.ensures, c.value-in-loop-i.ensures)

pub loop-i-preserved : goal.loop-i-preserved
loop-i-preserved c =
    decoded-more _ _ _ _ c.loop-i.i _ _ _ _ (omega arith) refl refl (omega (arith, c.requires.1, c.loop-i.invariant.kept.size))
    c.value.ensures c.value-in-loop-i.ensures c.loop-i.invariant

pub returns : goal.returns
returns c =
    let n : c.loop-i.i ≡ c.args.n = omega arith in
    rw (pairs-length c.args.text.now c.args.from c.args.n) (rw n at c.loop-i.invariant)
