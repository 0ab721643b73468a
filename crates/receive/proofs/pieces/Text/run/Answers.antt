-- `receive::pieces::Text::run` meets its contract: after i turns i texts stand in the buffer. Assumes nothing.
use mathlib.Core.Path.{◌≡◌}
use Prim.Native.Nat.{◌-◌, min}
use native.Mathlib.Omega.{arith}
use Rattle.printing.proofs.Appending.{append-whole}
use Rattle.receive.specs.Printed.{joined, texts, text_of}
use Rattle.receive.proofs.Joining.{joined-none, joined-more}
use Rattle.receive.proofs.Lengths.{run_fits}
use Rattle.receive.proofs.pieces.Text.run.Goals as goal

pub loop-i-init : goal.loop-i-init
loop-i-init c =
    let a = c.args.self.now in
    joined-none _ (text_of a.flags.now a.file.now a.outcome) c.args.from

pub loop-i-preserved : goal.loop-i-preserved
loop-i-preserved c =
    let a = c.args.self.now in
    joined-more _ (text_of a.flags.now a.file.now a.outcome) _ _ _ _ _ _ c.loop-i.invariant c.append_text-at.ensures

pub returns : goal.returns
returns c =
    let a = c.args.self.now in
    let text = text_of a.flags.now a.file.now a.outcome in
    let count = min 512 (texts a.outcome - c.args.from) in
    let e : c.loop-i.i ≡ count = omega (arith, c.texts.ensures, c.min-count.ensures) in
    let fits = run_fits a.flags.now a.file.now a.outcome c.args.from count (omega arith) in
    let (counts, stands) = append-whole _ (joined text c.args.from count) _ _ (omega (arith, c.requires.0)) (rw e at c.loop-i.invariant) in
    record { prefix_len = counts; out_after = stands }
