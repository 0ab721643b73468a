-- The blocks of a run, one after the other: what a closure that is called at each may take, and what its answers say of the run.
use mathlib.Core.Path.{◌≡◌, refl, sym, ap, subst, ◌∙◌}
use mathlib.Core.Bool.{Bool, true, false}
use mathlib.Core.List.{List, [], ◌∷◌}
use Prim.Native.Nat.{ℕ, ◌≤◌, ◌<◌}
use native.Mathlib.Omega.{arith}
use denote.Param.Members.{Mut}
use Rattle.std.specs.Fn.{Called}
use Rattle.std.specs.Prelude.{Option, None, Some, MatchOption}
use Rattle.std.specs.Iterator.{Yields, YieldsThen, CallableAtEachTurn}
use Rattle.std.specs.List.{FoldsTo}
use Rattle.std.proofs.lemmas.Fn.{serves_by}
use Rattle.span.specs.Decision.{Decides}
use Rattle.span.proofs.Decision.{decides-yes, decides-no, decides-false}
use Rattle.line.specs.declared.Run.{Run}
use Rattle.line.specs.declared.block.Blocks.{Blocks}
use Rattle.line.specs.Line.{Codeword}
use Rattle.line.specs.Run.{Inside, line_at}
use Rattle.line.specs.Inner.Block.{Block}
use Rattle.line.specs.Inner.Blocks.{Widened, cuts}
use Rattle.line.proofs.Parts.{cover-inside, codewords-block, codewords-more}

run-kept : (xs : List Run) (s t : Blocks) → Yields cuts s xs t → t.run ≡ s.run
run-kept [] s t y = ap (λ (k : Blocks). k.run) (sym y)
run-kept (x ∷ xs) s t y = run-kept xs y.0 t y.2 ∙ y.1.run

-- a closure that stays as it is may be called at each block
pub blocks-served :
    {P : Type 0} {R : P → Run → P → Type 0} {Q : P → Run → Type 0} {s : Blocks} {p : P} → ((x : Run) (q : P) → R p x q → q ≡ p) →
    ((x : Run) (a : ℕ) → Block s.run a x → Q p x) → CallableAtEachTurn cuts R Q s p
blocks-served {P} {R} {Q} {s} {p} stays takes =
    serves_by R (λ _ q. q ≡ p) (λ xs q x v e r. stays x v (subst (λ k. R k x v) e r)) cuts Q s p refl
    (λ xs t q x u y step e. subst (λ k. Q k x) (sym e) (takes x t.done (subst (λ k. Block k t.done x) (run-kept xs s t y) step.block)))

-- what takes the place of a block lies inside as the run does
pub covered :
    {run x : Run} {n a : ℕ} → Inside run n → Block run a x → (next : Run) → ((k : ℕ) → Block run k x → Widened run k x next) →
    Inside next n × (next.width ≤ 4096)
covered {run} {x} {n} {a} h b next wide = (cover-inside run next n a h (wide a b).cover, (wide a b).cover.few_lines)

module _ (r : ℕ) (l : List ℕ) (run : Run) where
  abbrev RightBelow : ℕ → Type 0
  RightBelow n = (t : ℕ) → t < n → Codeword r (line_at l run t) run.len

  -- the answer to whether all lines are codewords of what takes the place of the block x
  abbrev pub Tested : Run → Bool → Type 0
  Tested x answer = (next : Run) × ((a : ℕ) → Block run a x → Widened run a x next)
      × Decides ((t : ℕ) → t < next.width → Codeword r (line_at l next t) next.len) answer

  -- calls that each found codewords
  codewords-walked :
      {F : Type 0} (R : F → Run → F → Type 0) (f : F) → ((x : Run) (q : F) → R f x q → (q ≡ f) × Tested x true) →
      (xs : List Run) (s t : Blocks) (g : F) → s.run ≡ run → RightBelow s.done → Yields cuts s xs t → FoldsTo R f xs g →
      (t.run ≡ run) × RightBelow t.done × (g ≡ f)
  codewords-walked R f each [] s t g e h y c =
      (subst (λ (k : Blocks). k.run ≡ run) y e, subst (λ (k : Blocks). RightBelow k.done) y h, sym c)
  codewords-walked R f each (x ∷ xs) s t g e h y c =
      let step = y.1 in
      let call = each x c.0 c.1 in
      let wide = call.1.1 s.done (subst (λ (k : Run). Block k s.done x) e step.block) in
      codewords-walked R f each xs y.0 t g (step.run ∙ e)
      (subst RightBelow (sym step.done) (codewords-more r l wide h (call.1.2.yes_then refl))) y.2
      (subst (λ (k : _). FoldsTo R k xs g) call.0 c.2)

  -- what `all` answers of a test of each block
  pub codewords-tested :
      {F : Type 0} {g : Mut F (Run × Unit {0}) Bool} (f : F) (s u : Blocks) (answer : Bool) → s.run ≡ run → s.done ≡ 0 →
      (xs : List Run) × (o : Option Run) × (j : F) × YieldsThen cuts s xs o u × FoldsTo (λ p x q. Called g p (x, tt) true q) f xs j
      × MatchOption o (answer ≡ true) (λ x. (answer ≡ false) × ((h : F) × Called g j (x, tt) false h)) →
      ((x : Run) (b : Bool) (q : F) → Called g f (x, tt) b q → (q ≡ f) × Tested x b) → Decides (RightBelow run.width) answer
  codewords-tested {F} {g} f s u answer e none (xs, o, j, (t, ran, stops), calls, told) decided =
      let w = codewords-walked (λ p x q. Called g p (x, tt) true q) f (λ x q k. decided x true q k) xs s t j e (λ k less. absurd (omega (arith, none, less))) ran calls in
      by o stops (subst (λ k. MatchOption o (answer ≡ true) (λ x. (answer ≡ false) × ((h : F) × Called g k (x, tt) false h))) w.2 told) w.0 w.1
    where
      by : (o : Option Run) → cuts t o u → MatchOption o (answer ≡ true) (λ x. (answer ≡ false) × ((h : F) × Called g f (x, tt) false h)) →
          t.run ≡ run → RightBelow t.done → Decides (RightBelow run.width) answer
      by None past told same h =
          rw told (decides-yes (λ k less. h k (omega (arith, less, subst (λ (x : Run). x.width ≤ t.done) same past))))
      by (Some x) step told same h =
          let d = decided x false told.1.0 told.1.1 in
          let wide = d.1.1 t.done (subst (λ (k : Run). Block k t.done x) same step.block) in
          rw told.0 (decides-no (λ all. decides-false d.1.2 refl (codewords-block r l wide.cover all)))
