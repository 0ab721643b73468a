-- `erasures::look` counts the missing cells of a line up to the third, and finds the first and the last of them and the places read.
use mathlib.Core.Path.{◌≡◌, refl, sym, ap, ◌∙◌}
use mathlib.Core.Logic.{◌≢◌}
use Prim.Native.Nat.{◌+◌, ◌≤◌}
use native.Mathlib.Omega.{arith}
use borrow.Author.Tests.{eq-eqb, ne_eqb}
use Rattle.shape.specs.Flags.{missing}
use Rattle.erasures.specs.Erasures.{Scanned}
use Rattle.erasures.specs.Scan.{places_read}
use Rattle.erasures.proofs.Third.{read_none, read_more, read-ends}
use Rattle.erasures.proofs.Scanning.{scanned-few, scanned-many, scanned-none, scanned-skip, scanned-first, scanned-next, scanned-three}
use Rattle.erasures.proofs.look.Goals as goal
use Rattle.erasures.proofs.look.Goals.{In-loop-i, Joined-e-eq0, then-e-eq0, else-e-eq0, then-flags-first-eq-MISSING+else-e-eq3, else-flags-first-eq-MISSING}

-- the inner branch leaves the count
counts : (c : Joined-e-eq0) → c.if-e-eq0.e.count ≡ c.loop-i.e.count
counts c = elim c.if-e-eq0.branch [ then-e-eq0 w ↦ rw w.e-is | else-e-eq0 w ↦ rw w.e-is ]

-- one more is counted, with its place
marked : (c : Joined-e-eq0) → Scanned (missing c.args.flags.now) c.args.line.first c.args.line.stride (c.loop-i.i + 1) (c.if-e-eq0.e.count + 1) c.if-e-eq0.e.first c.loop-i.i
unfolding missing
marked c =
    let inv = c.loop-i.invariant in
    elim c.if-e-eq0.branch [
      | then-e-eq0 v ↦ rw v.e-is (scanned-first _ _ _ _ _ _ _ inv.scanned (eq-eqb _ _ c.if-flags-first-eq-MISSING.true) v.if-e-eq0.true)
      | else-e-eq0 v ↦ rw v.e-is (scanned-next _ _ _ _ _ _ _ inv.scanned (eq-eqb _ _ c.if-flags-first-eq-MISSING.true) v.if-e-eq0.false inv.few)
    ]

-- the next place is read
reads : (c : In-loop-i) → c.loop-i.i + 1 ≡ places_read (missing c.args.flags.now) c.args.line.first c.args.line.stride (c.loop-i.i + 1)
reads c =
    let inv = c.loop-i.invariant in
    read_more _ _ _ _ inv.so_far (scanned-few _ _ _ _ _ _ _ inv.scanned inv.few)

pub loop-i-init : goal.loop-i-init
loop-i-init c =
    record { few = omega arith; scanned = scanned-none _ _ _; so_far = read_none _ _ _; whole = refl }

pub overflow_mul-stride : goal.overflow_mul-stride
overflow_mul-stride c = omega (arith, c.requires.within c.loop-i.i (omega arith))

pub overflow_add-first : goal.overflow_add-first
overflow_add-first c = omega (arith, c.requires.within c.loop-i.i (omega arith))

pub bounds-flags-first : goal.bounds-flags-first
bounds-flags-first c = c.requires.within c.loop-i.i (omega arith)

pub overflow_add-e : goal.overflow_add-e
overflow_add-e c = omega (arith, counts (goal.at.overflow_add-e c).Joined-e-eq0)

pub returns-then-e-eq3 : goal.returns-then-e-eq3
returns-then-e-eq3 c =
    let found = marked (goal.at.returns-then-e-eq3 c).Joined-e-eq0 in
    let three : 3 ≤ c.if-e-eq0.e.count + 1 = omega arith in
    record {
      scanned = scanned-three _ _ _ _ _ _ _ _ found three (omega arith);
      read_value = read-ends _ _ _ _ _ (reads (goal.at.returns-then-e-eq3 c).In-loop-i) (scanned-many _ _ _ _ _ _ _ found three) (omega arith);
    }

pub loop-i-preserved : goal.loop-i-preserved
unfolding missing
loop-i-preserved c =
    let inv = c.loop-i.invariant in
    let next = reads (goal.at.loop-i-preserved c).In-loop-i in
    elim c.if-flags-first-eq-MISSING.branch [
      | then-flags-first-eq-MISSING+else-e-eq3 w ↦
          let here = eq-eqb _ _ w.if-flags-first-eq-MISSING.true in
          rw w.e-is
          (elim w.if-e-eq0.branch [
            | then-e-eq0 v ↦
                rw v.e-is
                (record {
                  few = omega arith;
                  scanned = scanned-first _ _ _ _ _ _ _ inv.scanned here v.if-e-eq0.true;
                  so_far = next;
                  whole = inv.whole;
                })
            | else-e-eq0 v ↦
                let other : c.loop-i.e.count + 1 ≢ 3 = rw v.e-is at w.if-e-eq3.false in
                rw v.e-is
                (record {
                  few = omega (arith, inv.few);
                  scanned = scanned-next _ _ _ _ _ _ _ inv.scanned here v.if-e-eq0.false inv.few;
                  so_far = next;
                  whole = inv.whole;
                })
          ])
      | else-flags-first-eq-MISSING w ↦
          rw w.e-is
          (record {
            few = inv.few;
            scanned = scanned-skip _ _ _ _ _ _ _ inv.scanned (ne_eqb _ _ w.if-flags-first-eq-MISSING.false);
            so_far = next;
            whole = inv.whole;
          })
    ]

pub returns-after-loop-i : goal.returns-after-loop-i
returns-after-loop-i c =
    let inv = c.loop-i.invariant in
    let e : c.loop-i.i ≡ c.args.line.len = omega arith in
    record { scanned = rw e at inv.scanned; read_value = inv.whole ∙ sym e ∙ inv.so_far ∙ ap (places_read _ _ _) e }
