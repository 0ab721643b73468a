-- Without packets the largest stopping set of sent cells is left: 00h in every cell is a filling, since unsent cells are 00h. Where every cell is
-- sent, that set is all cells: "No packets gives Left cells."
use mathlib.Core.Path.{◌≡◌, refl, sym, ap, ◌∙◌}
use mathlib.Core.Bool.{Bool, true, false, cond, not}
use mathlib.Core.List.{List}
use mathlib.Core.Logic.{inr}
use Prim.Native.Nat.{ℕ, zero, suc, ◌+◌, ◌*◌, ◌≤◌, ◌<◌}
use native.Mathlib.Omega.{arith}
use lib.ListN.{length, get_or, replicate, length-replicate}
use lib.Dec.{eqb}
use borrow.Author.Tests.{not-false}
use Rattle.answer.specs.Values.{Value, gives, Checked, passes}
use Rattle.shape.specs.declared.Shape.{Shape}
use Rattle.shape.specs.Shapes.{Valid, both, cells, IsLine}
use Rattle.shape.specs.Flags.{missing}
use Rattle.shape.proofs.Geometry.{line-length-low}
use Rattle.line.proofs.Codeword.{codeword-cong, codeword-zero}
use Rattle.data.specs.Data.{layer}
use Rattle.cube.specs.Cube.{layer_line}
use Rattle.stopping.specs.Stopping.{number, on_line, Stopping, Largest}
use Rattle.stopping.proofs.Number.{number-cong, number-all}
use Rattle.stopping.proofs.Stopping.{largest-unique, largest-missing}
use Rattle.fill.specs.Fill.{CellsLeft, flags_checked, Filling, FillOutcome}
use Rattle.fill.proofs.Unique.{done_refused}
use Rattle.pack.specs.declared.Header.{Header}
use Rattle.pack.specs.declared.Section.{Section}
use Rattle.pack.specs.Packs.{unsent, sends}
use Rattle.pack.specs.Packets.{Source}
use Rattle.pack.proofs.Sent.{all-sent}
use Rattle.pack.proofs.Sound.{air-sound}
use Rattle.receiver.specs.declared.Counts.{Counts}
use Rattle.receiver.specs.Placing.{among, agreed, flag_at, Placed}
use Rattle.receiver.specs.Gathering.{Reception, left, Gathered, ends, GatherOutcome}
use Rattle.receiver.specs.Receive.{Memory, receive_checked, ReceiveOutcome}
use Rattle.receiver.specs.Theorems.{NoPackets, NoPacketsPlain}
use Rattle.receiver.proofs.Clash.{clash}
use Rattle.receiver.proofs.Outcomes.{Ready, accepted-ready, placed-checked}
use Rattle.receiver.proofs.Determined.{filled_as, Stage, stage}
use Rattle.receiver.proofs.Corners.{sent-27}

zero-at : (n p : ℕ) → ◌≡◌ {A = ℕ} (get_or (replicate n 0) p 0) 0
zero-at zero p = refl
zero-at (suc n) zero = refl
zero-at (suc n) (suc p) = zero-at n p

-- ---- without packets

module _ (h : Header) (s : Source) (xs fs : List ℕ) (placed : Placed h s 0 xs fs) where
  -- the cells that are sent are missing
  missing-sent : (n : ℕ) → n < cells h.shape → missing fs n ≡ sends h n
  unfolding missing sends flag_at agreed among both
  missing-sent n l = ap (λ (f : ℕ). eqb f 1) (placed.flags n l) ∙ sent (unsent h n)
    where
      sent : (u : Bool) → eqb (cond u 2 1) 1 ≡ not u
      sent true = refl
      sent false = refl

  known-unsent : (n : ℕ) → n < cells h.shape → missing fs n ≡ false → unsent h n ≡ true
  unfolding sends
  known-unsent n l e = not-false (unsent h n) (sym (missing-sent n l) ∙ e)

  -- 00h in every cell is a filling, since that is what unsent cells hold
  zeros-filling : (r : ℕ) (K : ℕ → Bool) → Filling r h.shape xs (missing fs) K (replicate (length xs) 0)
  unfolding layer layer_line
  zeros-filling r K =
      record {
        size = length-replicate (length xs) 0;
        bytes = λ p. omega (arith, zero-at (length xs) p);
        known = λ n w l lw e. zero-at (length xs) (n * h.shape.w + w) ∙ sym (placed.blank n w l lw (known-unsent n l e));
        cleared = λ n w l lw e. zero-at (length xs) (n * h.shape.w + w);
        lines = λ f t n line none w lw.
            codeword-cong r (λ i. 0) _ n (λ i l. sym (zero-at (length xs) ((f + t * i) * h.shape.w + w))) (codeword-zero r n);
      }

  left_over : {r : ℕ} {ys gs : List ℕ} {value : Value CellsLeft} (K : ℕ → Bool) → Largest (cells h.shape) (IsLine h.shape) (sends h) K
      → flags_checked h.shape (length xs) fs ≡ passes tt → FillOutcome r h.shape xs fs ys gs value
      → value ≡ gives (CellsLeft.left (number K (cells h.shape)))
  left_over K k done (FillOutcome.fill_refused n failed a b) = absurd (done_refused done failed)
  left_over {r} {ys} {gs} K k done (FillOutcome.fill_done d f largest u) =
      ap (λ (n : ℕ). gives (CellsLeft.left n))
      (number-cong (missing gs) K (cells h.shape) (largest-unique (largest-missing missing-sent largest) k))
  left_over {r} K k done (FillOutcome.fill_contradiction d J j none c e) = absurd (none _ (zeros-filling r J))

none-gathered : {r : ℕ} {p : List ℕ} {checks : Checked (Header × Section)} {xs fs ys gs : List ℕ} {g : Gathered} {k : Counts} (a : Header × Section)
    → Valid a.0.shape → checks ≡ passes a → a.1.count ≡ 0
    → (K : ℕ → Bool) → Largest (cells a.0.shape) (IsLine a.0.shape) (sends a.0) K → Stage r p checks xs fs ys gs g k
    → g ≡ filled_as (gives (CellsLeft.left (number K (cells a.0.shape))))
none-gathered a v accepted none K largest (Stage.unfit n failed x y) = clash cc
none-gathered a v accepted none K largest (Stage.index b c i l out before x y) =
    let same : b ≡ a = cc in
    let less : i < a.1.count = rw same at l in
    absurd (omega arith)
none-gathered a v accepted none K largest (Stage.filled b c xs₁ fs₁ t value o) =
    let same : b ≡ a = cc in
    let placed = rw (same, none) at t.placed in
    let done = placed-checked _ _ _ _ _ v placed in
    ap filled_as (left_over a.0 _ xs₁ fs₁ placed K largest done (rw same at o))

some-filled : (n : ℕ) → 0 < n → filled_as (gives (CellsLeft.left n)) ≡ ends (gives (left n))
unfolding filled_as
some-filled zero l = absurd (omega arith)
some-filled (suc n) l = refl

module _ (r : ℕ) (p : List ℕ) (m m' : Memory) (h : Header) (s : Section) (accepted : receive_checked p m ≡ passes (h, s)) (none : s.count ≡ 0)
    (K : ℕ → Bool) (largest : Largest (cells h.shape) (IsLine h.shape) (sends h) K) where
  ready : Ready p m h s
  ready = accepted-ready p m h s accepted

  many : 27 ≤ number K (cells h.shape)
  many = sent-27 h ready.valid (air-sound p h s ready.air).header.some K largest

  ended : {ys gs : List ℕ} {g : Gathered} {k : Counts} → GatherOutcome r p (receive_checked p m) m.cube m.flags ys gs g k
      → g ≡ ends (gives (left (number K (cells h.shape))))
  ended o = none-gathered (h, s) ready.valid accepted none K largest (stage o) ∙ some-filled _ (omega (arith, many))

  largest-left : (v : Value Reception) (k : Counts) → ReceiveOutcome r p m m' v k → v ≡ gives (left (number K (cells h.shape)))
  largest-left _ _ (ReceiveOutcome.unopened v k g e) = let end = ended g in cc
  largest-left _ _ (ReceiveOutcome.bad_file h' s' k c g o) = let end = ended g in clash cc
  largest-left _ _ (ReceiveOutcome.opened h' s' k c g n o) = let end = ended g in clash cc

pub no-packets : NoPackets
unfolding NoPackets
no-packets r p m m' v k h s accepted none o K largest =
    (largest-left r p m m' h s accepted none K largest v k o, many r p m m' h s accepted none K largest)

-- ---- every cell sent

pub all-stopping : (sh : Shape) → Valid sh → (M : ℕ → Bool) → ((n : ℕ) → n < cells sh → M n ≡ true) → Stopping (cells sh) (IsLine sh) M (λ n. true)
unfolding on_line
all-stopping sh v M all =
    record {
      inside = λ n l e. all n l;
      meets = λ f s n l. inr (rw (number-all (λ i. true) n (λ i m. refl)) (line-length-low sh f s n v l));
    }

pub no-packets-plain : NoPacketsPlain
unfolding NoPacketsPlain sends
no-packets-plain r p m m' v k h s accepted none all o =
    let sent : (n : ℕ) → n < cells h.shape → sends h n ≡ true = λ n l. rw (all-sent h all n l) in
    let every = all-stopping h.shape (accepted-ready p m h s accepted).valid (sends h) sent in
    largest-left r p m m' h s accepted none (λ n. true) (record { stopping = every; every = λ S u n l e. refl }) v k o
    ∙ ap (λ (n : ℕ). gives (left n)) (number-all (λ n. true) (cells h.shape) (λ n l. refl))
