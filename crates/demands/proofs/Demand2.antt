-- Demand 2, from the contracts alone. The packets of a pack determine the flags and the known bytes with which filling starts, so any placing of
-- them is as good as the receiver's own; and filling refuses 13 exactly where there is no filling.
use mathlib.Core.Path.{◌≡◌, refl, sym, ap, ◌∙◌}
use mathlib.Core.Bool.{Bool}
use mathlib.Core.List.{List}
use mathlib.Core.Logic.{◌≢◌, ◌⊎◌, inl, inr}
use Prim.Native.Nat.{ℕ, ◌*◌, ◌<◌}
use native.Mathlib.Omega.{arith}
use lib.ListN.{length, get_or}
use Rattle.answer.specs.Values.{Value, gives, refused, passes, number_of}
use Rattle.answer.proofs.Values.{passes-injective, passes-fails, gives-refused}
use Rattle.field.specs.Field.{reduction}
use Rattle.field.proofs.Primitive.{primitive}
use Rattle.shape.specs.declared.Shape.{Shape}
use Rattle.shape.specs.Shapes.{Valid, cells, capacity, IsLine}
use Rattle.shape.specs.Flags.{missing}
use Rattle.cube.specs.Calls.{EncodeOutcome, encode_refused, encode_done}
use Rattle.cube.specs.Theorems.{OnlyCodeCube, OneCodeCube}
use Rattle.data.proofs.Checks.{done-checked}
use Rattle.cube.proofs.Existence.{one-code-cube}
use Rattle.stopping.specs.Stopping.{number, Largest}
use Rattle.stopping.proofs.Number.{number-cong}
use Rattle.stopping.proofs.Stopping.{largest-unique}
use Rattle.fill.specs.Fill.{CellsLeft, flags_checked, FillOutcome, fill_refused, fill_done, fill_contradiction}
use Rattle.fill.specs.Theorems.{FillingOrContradiction}
use Rattle.fill.proofs.Unique.{done_refused, filling-cong, outcome-known}
use Rattle.fill.proofs.Theorems.{filling-or-contradiction}
use Rattle.pack.specs.declared.Header.{Header}
use Rattle.pack.specs.declared.Section.{Section}
use Rattle.receiver.specs.declared.Counts.{Counts}
use Rattle.receiver.specs.Gathering.{Reception, file, left, Taken, unfit, index, contradiction, some_left, none_left}
use Rattle.receiver.specs.Receive.{Memory, receive_checked, ReceiveOutcome, unopened, bad_file, opened}
use Rattle.receiver.proofs.Outcomes.{accepted-ready, placed-checked}
use Rattle.receiver.proofs.Determined.{placed-flags, placed-known}
use Rattle.demands.specs.Ends.{is_one_of, OneOf}
use Rattle.demands.specs.Placed.{BeforeFilling}
use Rattle.demands.specs.Demand2.{FillsOrRefuses, TellsLeft, early_numbers, Demand2}
use Rattle.demands.proofs.Numbers.{early-number}

refused-other : {A : Type 0} (n k : ℕ) → n ≢ k → ◌≡◌ {A = Value A} (refused n) (refused k) → ⊥
refused-other n k other e = other cc

-- ---- encode

encode-only : (sh : Shape) → Valid sh → (ds before after : List ℕ) → length ds ≡ capacity sh → length before ≡ sh.w * cells sh
    → ((i : ℕ) → get_or ds i 0 < 256) → (value : Value Unit) → EncodeOutcome reduction sh ds before after value
    → (value ≡ gives tt) × OnlyCodeCube reduction sh ds after
unfolding OneCodeCube
encode-only sh v ds before after d c small _ (encode_refused n e k) =
    absurd (passes-fails tt n (sym (done-checked sh (length ds) (length before) v d c) ∙ e))
encode-only sh v ds before after d c small _ (encode_done e is) =
    (refl, rw is (one-code-cube reduction primitive sh v ds d small))

-- ---- fill

fill-exactly : (sh : Shape) (xs fs xs' fs' : List ℕ) (value : Value CellsLeft) → flags_checked sh (length xs) fs ≡ passes tt
    → FillOutcome reduction sh xs fs xs' fs' value → (K : ℕ → Bool) → Largest (cells sh) (IsLine sh) (missing fs) K
    → FillsOrRefuses sh xs fs K xs' fs' (value ≡ refused 13) (λ k. value ≡ gives (CellsLeft.left k))
unfolding FillingOrContradiction
fill-exactly sh xs fs xs' fs' _ done (fill_refused n e x g) K k = absurd (done_refused done e)
fill-exactly sh xs fs xs' fs' _ done (fill_done d g l u) K k =
    let same : (n : ℕ) → n < cells sh → missing fs' n ≡ K n = largest-unique l k in
    let (exactly, told) = filling-or-contradiction reduction primitive sh xs fs xs' fs' _ done (fill_done d g l u) K k in
    record {
      contradiction = exactly;
      given = λ _. filling-cong same u;
      flags = λ _. same;
      told = λ _. ap (λ (n : ℕ). gives (CellsLeft.left n)) (number-cong (missing fs') K (cells sh) same);
      only = λ v f. (told v f).1;
    }
fill-exactly sh xs fs xs' fs' _ done (fill_contradiction d K' l none c e) K k =
    let (exactly, told) = filling-or-contradiction reduction primitive sh xs fs xs' fs' _ done (fill_contradiction d K' l none c e) K k in
    record {
      contradiction = exactly;
      given = λ other. absurd (other refl);
      flags = λ other. absurd (other refl);
      told = λ other. absurd (other refl);
      only = λ v f. (told v f).1;
    }

-- ---- the receiver

module _ (p : List ℕ) (m : Memory) (g : Header) (c : Section) (checks : receive_checked p m ≡ passes (g, c)) (xs fs : List ℕ) (taken : Taken p g c xs fs) where
  same-header : (h : Header) (s : Section) → receive_checked p m ≡ passes (h, s) → h ≡ g
  same-header h s e = ap (λ (a : Header × Section). a.0) (passes-injective (h, s) (g, c) (sym e ∙ checks))

  same-section : (h : Header) (s : Section) → receive_checked p m ≡ passes (h, s) → s ≡ c
  same-section h s e = ap (λ (a : Header × Section). a.1) (passes-injective (h, s) (g, c) (sym e ∙ checks))

  fill-checks : flags_checked g.shape (length xs) fs ≡ passes tt
  fill-checks = placed-checked _ _ _ xs fs (accepted-ready p m g c checks).valid taken.placed

  -- any placing is as good as the receiver's own
  placed-outcome : (h : Header) (s : Section) (xs₁ fs₁ ys gs : List ℕ) (value : Value CellsLeft) → receive_checked p m ≡ passes (h, s)
      → Taken p h s xs₁ fs₁ → FillOutcome reduction h.shape xs₁ fs₁ ys gs value → FillOutcome reduction g.shape xs fs ys gs value
  placed-outcome h s xs₁ fs₁ ys gs value e t o =
      let header : h ≡ g = same-header h s e in
      let section : s ≡ c = same-section h s e in
      let own = rw (header, section) at t.placed in
      let checked = placed-checked _ _ _ xs₁ fs₁ (accepted-ready p m g c checks).valid own in
      rw (placed-flags taken.placed own) (outcome-known (placed-known own taken.placed) checked (rw header at o))

  module _ (K : ℕ → Bool) (largest : Largest (cells g.shape) (IsLine g.shape) (missing fs) K) (xs' fs' : List ℕ) where
    -- an answer that is not 13 and tells the count k
    not-13 : (value : Value Reception) (k : ℕ) → (value ≡ refused 13 → ⊥) → TellsLeft value k
        → FillOutcome reduction g.shape xs fs xs' fs' (gives (CellsLeft.left k))
        → FillsOrRefuses g.shape xs fs K xs' fs' (value ≡ refused 13) (TellsLeft value)
    not-13 value k other tells o =
        let f = fill-exactly g.shape xs fs xs' fs' (gives (CellsLeft.left k)) fill-checks o K largest in
        let left-13 = gives-refused (CellsLeft.left k) 13 in
        record {
          contradiction = (λ e. absurd (other e), λ none. absurd (left-13 (f.contradiction.1 none)));
          given = λ _. f.given left-13;
          flags = λ _. f.flags left-13;
          told = λ _.
              let e : gives (CellsLeft.left k) ≡ gives (CellsLeft.left (number K (cells g.shape))) = f.told left-13 in
              let count : k ≡ number K (cells g.shape) = cc in
              rw (← count) tells;
          only = f.only;
        }

    is-13 : FillOutcome reduction g.shape xs fs xs' fs' (refused 13)
        → FillsOrRefuses g.shape xs fs K xs' fs' (◌≡◌ {A = Value Reception} (refused 13) (refused 13)) (TellsLeft (refused 13))
    is-13 o =
        let f = fill-exactly g.shape xs fs xs' fs' (refused 13) fill-checks o K largest in
        record {
          contradiction = (λ _. f.contradiction.0 refl, λ _. refl);
          given = λ other. absurd (other refl);
          flags = λ other. absurd (other refl);
          told = λ other. absurd (other refl);
          only = f.only;
        }

  receive-exactly : (m' : Memory) (value : Value Reception) (counts : Counts) → ReceiveOutcome reduction p m m' value counts
      → (K : ℕ → Bool) → Largest (cells g.shape) (IsLine g.shape) (missing fs) K
      → FillsOrRefuses g.shape xs fs K m'.cube m'.flags (value ≡ refused 13) (TellsLeft value)
  unfolding TellsLeft
  receive-exactly m' _ _ (unopened _ _ (unfit n e x y) same) K k = absurd (passes-fails (g, c) n (sym checks ∙ e))
  receive-exactly m' _ _ (unopened _ _ (index h s e i l out before x y) same) K k =
      let header = same-header h s e in
      let section = same-section h s e in
      absurd ((rw (header, section) at out) (taken.indexes i (rw section at l)))
  receive-exactly m' _ _ (unopened _ _ (contradiction h s e xs₁ fs₁ t o) same) K k =
      is-13 K k _ _ (placed-outcome h s xs₁ fs₁ _ _ _ e t o)
  receive-exactly m' _ _ (unopened _ _ (some_left h s e xs₁ fs₁ t n some o) same) K k =
      not-13 K k _ _ (gives (left n)) n (gives-refused _ 13) (λ _. refl, λ z. absurd (omega arith)) (placed-outcome h s xs₁ fs₁ _ _ _ e t o)
  receive-exactly m' _ _ (bad_file h' s' d e' (none_left h s e xs₁ fs₁ t o) f) K k =
      not-13 K k _ _ (refused 14) 0 (refused-other 14 13 (omega arith)) (λ z. absurd (omega arith), λ _. inr refl) (placed-outcome h s xs₁ fs₁ _ _ _ e t o)
  receive-exactly m' _ _ (opened h' s' d e' (none_left h s e xs₁ fs₁ t o) n f) K k =
      not-13 K k _ _ (gives (file n)) 0 (gives-refused _ 13) (λ z. absurd (omega arith), λ _. inl (n, refl)) (placed-outcome h s xs₁ fs₁ _ _ _ e t o)

module _ (p : List ℕ) (m m' : Memory) where
  receive-placed : (value : Value Reception) (counts : Counts) → ReceiveOutcome reduction p m m' value counts
      → OneOf early_numbers (number_of value) ⊎ BeforeFilling p m
  unfolding number_of OneOf is_one_of early_numbers
  receive-placed _ _ (unopened _ _ (unfit n e x y) same) = inl (early-number n p m e)
  receive-placed _ _ (unopened _ _ (index h s e i l out before x y) same) = inl refl
  receive-placed _ _ (unopened _ _ (contradiction h s e xs fs t o) same) =
      inr (record { header = h; section = s; checks = e; cube = xs; flags = fs; taken = t })
  receive-placed _ _ (unopened _ _ (some_left h s e xs fs t n some o) same) =
      inr (record { header = h; section = s; checks = e; cube = xs; flags = fs; taken = t })
  receive-placed _ _ (bad_file h' s' d e' (none_left h s e xs fs t o) f) =
      inr (record { header = h; section = s; checks = e; cube = xs; flags = fs; taken = t })
  receive-placed _ _ (opened h' s' d e' (none_left h s e xs fs t o) n f) =
      inr (record { header = h; section = s; checks = e; cube = xs; flags = fs; taken = t })

pub demand2 : Demand2
demand2 =
    record {
      encoded = encode-only;
      filled = fill-exactly;
      placed = receive-placed;
      received = λ p m m' value counts o b.
          receive-exactly p m b.header b.section b.checks b.cube b.flags b.taken m' value counts o;
    }
