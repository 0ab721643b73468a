-- `pack::reading::given_at` meets its contract: with nine bytes there is room for the last four. Assumes nothing.
use Rattle.std.specs.Prelude.{Result, Ok, Err, Some, None}
use Rattle.std.specs.Result.{result_ok}
use mathlib.Core.Path.{◌≡◌, refl, sym, ◌∙◌}
use native.Mathlib.Omega.{arith}
use borrow.Author.Tests.{eq-eqb, ne_eqb}
use Rattle.cursor.proofs.Steps.{count-known, count-short}
use Rattle.pack.specs.Reading.{given_at}
use Rattle.pack.proofs.reading.given_at.Goals as goal

ok-some : {T E : Type 0} (r : Result T E) (x : T) → result_ok r ≡ Some x → r ≡ Ok x
ok-some (Ok y) x e = cc
ok-some (Err f) x e = cc

ok-none : {T E : Type 0} (r : Result T E) → result_ok r ≡ None → (f : E) × (r ≡ Err f)
ok-none (Ok y) e = cc
ok-none (Err f) e = (f, refl)

pub returns-then-n-ne9 : goal.returns-then-n-ne9
returns-then-n-ne9 c = rw (ne_eqb _ _ c.if-n-ne9.true)

pub returns-in_err-used : goal.returns-in_err-used
returns-in_err-used c =
    let (f, is) = ok-none c.count.result (sym c.ok.ensures.value ∙ c.in_err-used.was) in
    absurd (omega (arith, c.requires, c.if-n-ne9.false, count-short _ _ _ c.count.ensures f is))

pub returns : goal.returns
unfolding given_at
returns c =
    let is = ok-some c.count.result _ (sym c.ok.ensures.value ∙ c.in_ok-used.was) in
    rw (eq-eqb _ _ c.if-n-ne9.false, (count-known _ _ _ c.count.ensures _ _ is).1)
