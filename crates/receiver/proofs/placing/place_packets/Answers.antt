-- `place_packets` goes from run to run: packets that are the first of their cells, then repeats, which are counted.
use native.Mathlib.Omega.{arith}
use Rattle.pack.specs.Packets.{source}
use Rattle.receiver.proofs.Arrivals.{repeats-none, repeats-le}
use Rattle.receiver.proofs.placing.place_packets.Goals as goal
use Rattle.receiver.proofs.placing.place_packets.Goals.{After-place_repeats-j}

pub loop-i-init : goal.loop-i-init
loop-i-init c =
    let (run, repeat) = c.place_new-i.ensures in
    (run.high, run.marked, omega (arith, run.repeats, repeats-none (source c.args.packets.now.bytes.now c.args.packets.now.header c.args.packets.now.section)), repeat)

pub overflow_add-repeats : goal.overflow_add-repeats
overflow_add-repeats c =
    let run = c.place_repeats-j.ensures.0 in
    omega (
      arith,
      run.low,
      run.repeats,
      c.loop-i.invariant.2,
      repeats-le ((source c.args.packets.now.bytes.now c.args.packets.now.header c.args.packets.now.section)) c.place_repeats-j.result,
      c.place_repeats-j.type_inv,
    )
