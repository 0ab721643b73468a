-- `pack::packets::all_sent` meets its contract. Assumes nothing.
use Rattle.std.specs.Prelude.{Result, Ok, Err}
use Rattle.std.specs.Result.{is_ok}
use mathlib.Core.Path.{◌≡◌, refl, sym, ◌∙◌}
use mathlib.Core.Bool.{true}
use native.Mathlib.Omega.{arith}
use borrow.Author.Tests.{leb-true}
use Rattle.answer.proofs.Values.{value-passed}
use Rattle.shape.proofs.Valid.{shape-passed}
use Rattle.pack.proofs.Sent.{enough-sent}
use Rattle.pack.proofs.packets.all_sent.Goals as goal

is_ok-value : {T E : Type 0} (r : Result T E) → is_ok r ≡ true → (x : T) × (r ≡ Ok x)
is_ok-value (Ok x) e = (x, refl)
is_ok-value (Err f) e = cc

pub data_cells-requires : goal.data_cells-requires
data_cells-requires c =
    let (z, passed) = is_ok-value c.measure.result (sym c.is_ok.ensures.value ∙ c.if-is_ok.true) in
    (shape-passed _ _ (value-passed _ _ _ c.measure.ensures passed)).0

pub returns-then-is_ok : goal.returns-then-is_ok
returns-then-is_ok c e = enough-sent c.args.h (omega (arith, c.data_cells.ensures, leb-true c.data_cells.result c.args.h.used e))
