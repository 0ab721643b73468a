-- `erasures::scan_line` looks at a line whose places all have a flag.
use mathlib.Core.Path.{refl}
use Rattle.span.proofs.Decision.{decides-false, decides-true, cases_done, cases-refused}
use Rattle.erasures.proofs.scan_line.Goals as goal

pub returns-then-not-has_flags : goal.returns-then-not-has_flags
returns-then-not-has_flags c = cases-refused (decides-false c.has_flags.ensures c.if-not-has_flags.true) (refl, refl, refl, refl)

pub look-requires : goal.look-requires
look-requires c = decides-true c.has_flags.ensures c.if-not-has_flags.false

pub returns : goal.returns
returns c = cases_done (decides-true c.has_flags.ensures c.if-not-has_flags.false) (c.look.ensures.scanned, c.look.ensures.read_value)
