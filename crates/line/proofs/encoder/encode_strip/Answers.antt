-- `line::encoder::encode_strip` copies and sums the data places of 64 lines, and writes their parity from the sums.
use native.Mathlib.Omega.{arith}
use Rattle.line.proofs.Parts.{inside-size}
use Rattle.line.proofs.Encoding.{parity-order, strip-inside, strip-feeds, strip-width, strip-places, strip-encoded}
use Rattle.line.proofs.encoder.encode_strip.Goals as goal

pub place_strip-sums-requires : goal.place_strip-sums-requires
place_strip-sums-requires c =
    let pre = c.requires in
    let es = c.lines_from-source.ensures in
    let et = c.lines_from-target.ensures in (
      strip-inside _ _ _ es et pre.3 pre.0,
      strip-feeds _ _ _ es et pre.3 pre.1,
      strip-width _ _ _ es et pre.3,
    )

pub combine-requires : goal.combine-requires
combine-requires c =
    let pre = c.requires in
    let es = c.lines_from-source.ensures in
    let et = c.lines_from-target.ensures in
    let order = parity-order _ pre.2 pre.1 in
    let inside = inside-size (strip-inside _ _ _ es et pre.3 pre.0) c.place_strip-sums.ensures.0.size in
    ((inside, order.0, omega (arith, order.1, strip-places _ _ _ es et pre.3)), strip-width _ _ _ es et pre.3)

pub returns : goal.returns
returns c =
    let pre = c.requires in
    strip-encoded _ _ _ c.lines_from-source.ensures c.lines_from-target.ensures pre.3 pre.0 pre.1 pre.2 c.place_strip-sums.ensures c.combine.ensures
