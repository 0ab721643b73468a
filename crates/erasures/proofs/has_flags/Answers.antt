-- `erasures::has_flags` tells whether every place of a line has a flag, without a sum or a product that could wrap.
use Prim.Native.Nat.{◌≤◌, ◌<◌, ◌-◌}
use native.Mathlib.Omega.{arith}
use native.Mathlib.Nat.{mul-le-mul}
use lib.ListN.{length}
use Rattle.span.proofs.Decision.{decides-no}
use Rattle.erasures.proofs.Inside.{decides-places}
use Rattle.erasures.proofs.has_flags.Goals as goal
use Rattle.erasures.proofs.has_flags.Goals.{Else-flags-first, then-len-eq0-via-then-len-eq0, then-len-eq0-via-else-len-eq0+then-len-gt255, then-len-eq0-via-else-len-eq0+else-len-gt255+then-stride-gt65025, then-len-eq0-via-else-len-eq0+else-len-gt255+else-stride-gt65025+then-flags-first}

-- what has been tested
few : (c : Else-flags-first) → c.args.line.len ≤ 255
few c = c.if-len-gt255.false

near : (c : Else-flags-first) → c.args.line.stride ≤ 65025
near c = c.if-stride-gt65025.false

begins : (c : Else-flags-first) → c.args.line.first < length c.args.flags.now
begins c = c.if-flags-first.false

pub returns-then-len-eq0 : goal.returns-then-len-eq0
returns-then-len-eq0 c =
    decides-no
    (λ p.
    elim c.then-len-eq0.branch [
      | then-len-eq0-via-then-len-eq0 w ↦ omega (arith, p.some, w.if-len-eq0.true)
      | then-len-eq0-via-else-len-eq0+then-len-gt255 w ↦ omega (arith, p.few, w.if-len-gt255.true)
      | then-len-eq0-via-else-len-eq0+else-len-gt255+then-stride-gt65025 w ↦ omega (arith, p.near, w.if-stride-gt65025.true)
      | then-len-eq0-via-else-len-eq0+else-len-gt255+else-stride-gt65025+then-flags-first w ↦ omega (arith, p.within 0 p.some, w.if-flags-first.true)
    ])

pub overflow_mul-result : goal.overflow_mul-result
overflow_mul-result c = let short : c.args.line.len - 1 ≤ 254 = omega (arith, few (goal.at.overflow_mul-result c).Else-flags-first) in omega (arith, mul-le-mul (near (goal.at.overflow_mul-result c).Else-flags-first) short)

pub overflow_sub-result-2 : goal.overflow_sub-result-2
overflow_sub-result-2 c = omega (arith, begins (goal.at.overflow_sub-result-2 c).Else-flags-first)

pub returns : goal.returns
returns c = decides-places _ _ _ _ (omega arith) (few (goal.at.returns c).Else-flags-first) (near (goal.at.returns c).Else-flags-first) (begins (goal.at.returns c).Else-flags-first)
