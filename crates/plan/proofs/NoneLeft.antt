-- A plan is shown only where no place is left: its file was opened, so filling has left no cell, and no flag says missing.
use mathlib.Core.Path.{◌≡◌, refl, ◌∙◌}
use mathlib.Core.List.{List}
use mathlib.Core.Logic.{◌≢◌}
use Prim.Native.Nat.{ℕ, ◌≤◌}
use native.Mathlib.Decide.{dec_lt}
use native.Mathlib.Omega.{arith}
use lib.ListN.{length, get_or, get_or-eq_default}
use Rattle.answer.specs.Values.{Value, gives, Checked}
use Rattle.shape.specs.declared.Shape.{Shape}
use Rattle.shape.specs.Shapes.{cells}
use Rattle.shape.specs.Flags.{missing}
use Rattle.shape.proofs.Missing.{missing-one}
use Rattle.stopping.specs.Stopping.{number}
use Rattle.stopping.proofs.Number.{number-pos}
use Rattle.fill.specs.Fill.{CellsLeft, FillOutcome, fill_refused, fill_done, fill_contradiction}
use Rattle.pack.specs.declared.Header.{Header}
use Rattle.pack.specs.declared.Section.{Section}
use Rattle.receiver.specs.declared.Counts.{Counts}
use Rattle.receiver.specs.Gathering.{Reception, file, Gathered, whole, GatherOutcome, unfit, index, contradiction, some_left}
use Rattle.receiver.specs.Receive.{Memory, ReceiveOutcome, unopened, bad_file, opened}
use Rattle.plan_form.specs.declared.PlanCounts.{PlanCounts}
use Rattle.plan_form.specs.Form.{Lists}
use Rattle.plan.specs.Calls.{ReadPlanOutcome, read_broken, read_short, read_shown}
use Rattle.plan.specs.Receiving.{no_file, no_plan, no_room, shown}
use Rattle.plan.specs.Theorems.{NoneLeft}

-- where none of so many flags is counted as missing, none is 1
none-counted : (fs : List ℕ) (n : ℕ) → length fs ≡ n → number (missing fs) n ≡ 0 → (i : ℕ) → get_or fs i 0 ≢ 1
none-counted fs n size none i e =
    elim (dec_lt i n) [
      | yes l ↦ omega (arith, number-pos (missing fs) n i l (missing-one fs i e))
      | no far ↦ let beyond : length fs ≤ i = omega arith in omega (arith, get_or-eq_default fs 0 beyond)
    ]

module _ {r : ℕ} where
  -- filling that leaves nothing leaves no flag 1
  none_filled : {sh : Shape} {xs fs xs' fs' : List ℕ} {v : Value CellsLeft} → FillOutcome r sh xs fs xs' fs' v → length fs ≡ cells sh
      → v ≡ gives (CellsLeft.left 0) → (i : ℕ) → get_or fs' i 0 ≢ 1
  none_filled (fill_refused _ _ _ _) size q = let z : ◌≡◌ {A = ℕ} 0 1 = cc in absurd (omega arith)
  none_filled {sh} {xs} {fs} {xs'} {fs'} (fill_done _ g _ _) size q = none-counted fs' (cells sh) (g.size ∙ size) cc
  none_filled (fill_contradiction _ _ _ _ _ _) size q = let z : ◌≡◌ {A = ℕ} 0 1 = cc in absurd (omega arith)

  none-gathered : {p : List ℕ} {checks : Checked (Header × Section)} {xs fs xs' fs' : List ℕ} {g : Gathered} {k : Counts} → GatherOutcome r p checks xs fs xs' fs' g k
      → g ≡ whole → (i : ℕ) → get_or fs' i 0 ≢ 1
  none-gathered (unfit _ _ _ _) q = let z : ◌≡◌ {A = ℕ} 0 1 = cc in absurd (omega arith)
  none-gathered (index _ _ _ _ _ _ _ _ _) q = let z : ◌≡◌ {A = ℕ} 0 1 = cc in absurd (omega arith)
  none-gathered (contradiction _ _ _ _ _ _ _) q = let z : ◌≡◌ {A = ℕ} 0 1 = cc in absurd (omega arith)
  none-gathered (some_left _ _ _ _ _ _ _ _ _) q = let z : ◌≡◌ {A = ℕ} 0 1 = cc in absurd (omega arith)
  none-gathered (GatherOutcome.none_left _ _ _ _ _ taken o) q = none_filled o taken.placed.flags_size refl

  none-received : {p : List ℕ} {m m' : Memory} {v : Value Reception} {k : Counts} → ReceiveOutcome r p m m' v k → (n : ℕ) → v ≡ gives (file n)
      → (i : ℕ) → get_or m'.flags i 0 ≢ 1
  none-received (unopened _ _ (unfit _ _ _ _) _) n q = let z : ◌≡◌ {A = ℕ} 0 1 = cc in absurd (omega arith)
  none-received (unopened _ _ (index _ _ _ _ _ _ _ _ _) _) n q = let z : ◌≡◌ {A = ℕ} 0 1 = cc in absurd (omega arith)
  none-received (unopened _ _ (contradiction _ _ _ _ _ _ _) _) n q = let z : ◌≡◌ {A = ℕ} 0 1 = cc in absurd (omega arith)
  none-received (unopened _ _ (some_left _ _ _ _ _ _ _ _ _) _) n q = let z : ◌≡◌ {A = ℕ} 0 1 = cc in absurd (omega arith)
  none-received (bad_file _ _ _ _ _ _) n q = let z : ◌≡◌ {A = ℕ} 0 1 = cc in absurd (omega arith)
  none-received (opened _ _ _ _ gathered _ _) n q = none-gathered gathered refl

-- a plan that is not shown changes no list
unchanged : {f : List ℕ} {l l' : Lists} {v : Value PlanCounts} → ReadPlanOutcome f l l' v → ((n : PlanCounts) → v ≢ gives n) → l' ≡ l
unchanged (read_broken _ _ e) none = e
unchanged (read_short _ _ e) none = e
unchanged (read_shown _ _ _) none = absurd (none _ refl)

pub none_left : NoneLeft
unfolding NoneLeft
none_left r p m m' l l' v k e (no_file _ _ _ none same) i flag = (none, same, refl)
none_left r p m m' l l' v k e (no_plan _ _ _ _ read) i flag =
    (λ n q. let z : ◌≡◌ {A = ℕ} 0 1 = cc in omega arith, unchanged read (λ n q. let z : ◌≡◌ {A = ℕ} 0 1 = cc in omega arith), refl)
none_left r p m m' l l' v k e (no_room _ _ _ read) i flag =
    (λ n q. let z : ◌≡◌ {A = ℕ} 0 1 = cc in omega arith, unchanged read (λ n q. let z : ◌≡◌ {A = ℕ} 0 1 = cc in omega arith), refl)
none_left r p m m' l l' v k e (shown n _ received _ _) i flag = absurd (none-received received n refl i flag)
