-- The outcome of a pack: what its checks give once they pass, and the answer that each end of the code gives.
use Rattle.std.specs.Prelude.{Result, Ok, Err}
use mathlib.Core.Path.{◌≡◌, refl, sym, ap, ◌∙◌}
use mathlib.Core.Bool.{Bool, true, false, cond}
use mathlib.Core.Logic.{◌≢◌}
use mathlib.Core.List.{List}
use Prim.Native.Nat.{ℕ, ◌-◌, ◌*◌, ◌≤◌, ◌<◌}
use native.Mathlib.Omega.{arith}
use lib.Dec.{eqb}
use lib.ListN.{length}
use borrow.Author.Tests.{eq-eqb, ne_eqb, eqb-true, eqb-false}
use Rattle.answer.specs.declared.Fault.TheVariants.{SliceLength, Contradiction, FileLength}
use Rattle.answer.specs.declared.PacketFault.TheVariants.{CellIndex}
use Rattle.answer.specs.declared.Refusal.{Refusal}
use Rattle.answer.specs.declared.Refusal.TheVariants.{Plain, Packet}
use Rattle.answer.specs.Refusals.{fault_number, packet_fault_number}
use Rattle.answer.specs.Values.{Value, gives, refused, Checked, passes, check, and_then, checked, refusal, value_of}
use Rattle.answer.proofs.Values.{check-passed, then-passed, then-refused, passes-injective, checked-fails, refusal-gives, refusal-injective, value-passed, value-refused}
use Rattle.field.specs.Field.{reduction}
use Rattle.shape.specs.declared.Shape.{Shape}
use Rattle.shape.specs.declared.Sizes.{Sizes}
use Rattle.shape.specs.Shapes.{Valid, both, cells, capacity, sizes}
use Rattle.shape.specs.Flags.{flags_valid}
use Rattle.shape.proofs.Missing.{flags-valid}
use Rattle.shape.proofs.Valid.{both-parts, both_true, valid-passes}
use Rattle.fill.specs.Fill.{CellsLeft, fill_value, flags_checked, FillOutcome}
use Rattle.fill.proofs.Unique.{done_refused}
use Rattle.fill.proofs.Recovery.{left-outcome, refused-outcome}
use Rattle.pack.specs.declared.Header.{Header}
use Rattle.pack.specs.declared.Section.{Section}
use Rattle.pack.specs.Reading.{air_of}
use Rattle.pack.specs.Packets.{Source, source, InRange}
use Rattle.pack.proofs.Sound.{air-sound}
use Rattle.receiver.specs.declared.Counts.{Counts}
use Rattle.receiver.specs.declared.Received.{Received}
use Rattle.receiver.specs.declared.Ending.{Ending}
use Rattle.receiver.specs.declared.Ending.TheVariants.{File, Left}
use Rattle.receiver.specs.Placing.{Placed}
use Rattle.receiver.specs.Gathering.{Reception, left, ends, whole, counts_of, no_counts, Taken, GatherOutcome, unfit, index, contradiction, some_left, none_left}
use Rattle.receiver.specs.Opening.{OpenOutcome, held, bad}
use Rattle.receiver.specs.Receive.{reception_of, received_value, received_counts, Memory, lent, slices_fit, receive_checked, ReceiveOutcome, unopened, bad_file, opened}
use Rattle.receiver.specs.Inner.Gathering.{gathering_value, gathering_counts}
use Rattle.receiver.proofs.Clash.{clash}
use Rattle.receiver.proofs.Arrivals.{flag-le}

-- ---- a pack that is accepted

pub record Ready (p : List ℕ) (m : Memory) (h : Header) (s : Section) : Type 0 where
  pub air : air_of p ≡ passes (h, s)
  pub valid : Valid h.shape
  pub room : 4 ≤ capacity h.shape
  pub cube_size : length m.cube ≡ h.shape.w * cells h.shape
  pub flags_size : length m.flags ≡ cells h.shape
  pub buffer_size : length m.buffer ≡ capacity h.shape - 4

pub accepted-ready : (p : List ℕ) (m : Memory) (h : Header) (s : Section) → receive_checked p m ≡ passes (h, s) → Ready p m h s
unfolding receive_checked slices_fit sizes
accepted-ready p m h s e =
    let (a, air, rest) = then-passed (air_of p) _ (h, s) e in
    let (fit, told) = check-passed (slices_fit a.0.sizes m) 4 (passes a) (h, s) rest in
    let same = passes-injective a (h, s) told in
    let sound = air-sound p h s (rw same at air) in
    let all : slices_fit h.sizes m ≡ true = rw same at fit in
    let (x, yz) = both-parts (eqb (length m.cube) h.sizes.bytes) _ all in
    let (y, z) = both-parts (eqb (length m.flags) h.sizes.cells) (eqb (length m.buffer) (h.sizes.capacity - 4)) yz in
    record {
      air = rw same at air;
      valid = sound.header.valid;
      room = sound.header.room;
      cube_size = eqb-true _ _ x ∙ ap (λ (q : Sizes). q.bytes) sound.header.measured;
      flags_size = eqb-true _ _ y ∙ ap (λ (q : Sizes). q.cells) sound.header.measured;
      buffer_size = eqb-true _ _ z ∙ ap (λ (q : Sizes). q.capacity - 4) sound.header.measured;
    }

-- ---- the filling

-- placed flags are 0, 1 or 2
pub placed-valid : (h : Header) (s : Source) (n : ℕ) (xs fs : List ℕ) → Placed h s n xs fs → flags_valid fs ≡ true
placed-valid h s n xs fs placed = flags-valid fs (λ m l. rw (placed.flags m (omega (arith, placed.flags_size))) (flag-le h s n m))

-- so they pass the filling's checks
pub placed-checked : (h : Header) (s : Source) (n : ℕ) (xs fs : List ℕ) → Valid h.shape → Placed h s n xs fs
    → flags_checked h.shape (length xs) fs ≡ passes tt
unfolding flags_checked sizes and_then check
placed-checked h s n xs fs v placed =
    rw (
      valid-passes h.shape v,
      both_true (eqb (length xs) (h.shape.w * cells h.shape)) (eqb (length fs) (cells h.shape)) (eq-eqb _ _ placed.cube_size)
          (eq-eqb _ _ placed.flags_size),
      placed-valid h s n xs fs placed,
    )

-- and the only refusal that is left is 13
only-13 : (sh : Shape) (xs fs ys gs : List ℕ) (v : Value CellsLeft) → flags_checked sh (length xs) fs ≡ passes tt → FillOutcome reduction sh xs fs ys gs v
    → ((k : ℕ) → v ≡ gives (CellsLeft.left k) → ⊥) → v ≡ refused 13
only-13 sh xs fs ys gs _ done (FillOutcome.fill_refused n failed a b) never = absurd (done_refused done failed)
only-13 sh xs fs ys gs _ done (FillOutcome.fill_done a b c d) never = absurd (never _ refl)
only-13 sh xs fs ys gs _ done (FillOutcome.fill_contradiction a k b c d g) never = refl

unfilled : (sh : Shape) (xs fs ys gs : List ℕ) (a : Result ℕ Refusal) (f : Refusal) → flags_checked sh (length xs) fs ≡ passes tt
    → FillOutcome reduction sh xs fs ys gs (fill_value a) → a ≡ Err f → f ≡ Plain Contradiction
unfolding refusal fault_number
unfilled sh xs fs ys gs a f done o e =
    refusal-injective {A = CellsLeft} f (Plain Contradiction)
    (only-13 sh xs fs ys gs (refusal f) done (refused-outcome a f o e) (λ k same. refusal-gives f (CellsLeft.left k) same))

-- ---- each end of gathering

module _ (p : List ℕ) (checks : Checked (Header × Section)) (xs fs : List ℕ) (h : Header) (s : Section) (accepted : checks ≡ passes (h, s)) where
  pub gathered-index : (i : ℕ) → i < s.count → (InRange p h s i → ⊥) → ((j : ℕ) → j < i → InRange p h s j)
      → GatherOutcome reduction p checks xs fs xs fs (gathering_value (Err (Packet CellIndex i))) (gathering_counts (Err (Packet CellIndex i)))
  unfolding gathering_value gathering_counts refusal packet_fault_number
  gathered-index i l out before = index h s accepted i l out before refl refl

  module _ (xs₁ fs₁ ys gs : List ℕ) (taken : Taken p h s xs₁ fs₁) (a : Result ℕ Refusal) (fill : FillOutcome reduction h.shape xs₁ fs₁ ys gs (fill_value a)) where
    pub gathered-contradiction : (f : Refusal) → Valid h.shape → a ≡ Err f
        → GatherOutcome reduction p checks xs fs ys gs (gathering_value (Err (Plain Contradiction))) (gathering_counts (Err (Plain Contradiction)))
    unfolding gathering_value gathering_counts refusal fault_number
    gathered-contradiction f v e =
        let done = placed-checked _ _ _ _ _ v taken.placed in
        let same = unfilled _ _ _ _ _ a f done fill e in
        contradiction h s accepted xs₁ fs₁ taken (rw same at (refused-outcome a f fill e))

    pub gathered-filled : (k : ℕ) (counts : Counts) → a ≡ Ok k → counts ≡ counts_of h.shape (source p h s)
        → GatherOutcome reduction p checks xs fs ys gs (gathering_value (Ok (k, counts))) (gathering_counts (Ok (k, counts)))
    unfolding gathering_value gathering_counts
    gathered-filled k counts e count = rw count (by (eqb k 0) refl)
      where
        by : (b : Bool) → eqb k 0 ≡ b
            → GatherOutcome reduction p checks xs fs ys gs (cond b whole (ends (gives (left k)))) (counts_of h.shape (source p h s))
        by true t = none_left h s accepted xs₁ fs₁ taken (rw (eqb-true k 0 t) at (left-outcome a k fill e))
        by false t = some_left h s accepted xs₁ fs₁ taken k (let ne = eqb-false k 0 t in omega arith) (left-outcome a k fill e)

-- ---- each end of the call

-- what the call answers
abbrev Receives : List ℕ → Memory → Memory → Result Received Refusal → Type 0
Receives p m m' r = ReceiveOutcome reduction p m m' (received_value r) (received_counts r)

-- the only refusal of opening is 14
unopenable : (sh : Shape) (xs bs cs : List ℕ) (o : Result ℕ Refusal) (f : Refusal) → OpenOutcome sh xs bs cs (value_of o) → o ≡ Err f
    → f ≡ Plain FileLength
unfolding value_of refusal fault_number
unopenable sh xs bs cs o f opens e =
    refusal-injective {A = ℕ} f (Plain FileLength) (by (refusal f) (rw e at opens) (λ n same. refusal-gives f n same))
  where
    by : (v : Value ℕ) → OpenOutcome sh xs bs cs v → ((n : ℕ) → v ≡ gives n → ⊥) → v ≡ refused 14
    by _ (held bytes a b c) never = absurd (never _ refl)
    by _ (bad a b) never = refl

module _ (p xs fs bs : List ℕ) where
  module _ (r : Result (Header × Section) Refusal) (read : value_of r ≡ checked (air_of p)) where
    pub received-refused : (f : Refusal) (end : Result Received Refusal) → r ≡ Err f → end ≡ Err f → Receives p (lent xs fs bs) (lent xs fs bs) end
    unfolding received_value received_counts receive_checked
    received-refused f end e is =
        let (n, failed, number) = checked-fails {B = Reception} _ f (then-refused (air_of p) _ f (value-refused r _ f read e)) in
        rw (is, number) (unopened (refused n) no_counts (unfit n failed refl refl) refl)

    module _ (h : Header) (s : Section) (air : r ≡ Ok (h, s)) (b : Bool)
        (test : b ≡ both (eqb (length xs) h.sizes.bytes) (both (eqb (length fs) h.sizes.cells) (eqb (length bs) (h.sizes.capacity - 4)))) where
      pub received-sizes : b ≡ false → Receives p (lent xs fs bs) (lent xs fs bs) (Err (Plain SliceLength))
      unfolding received_value received_counts refusal fault_number receive_checked slices_fit and_then check
      received-sizes no-fit =
          unopened (refused 4) no_counts (unfit 4 (rw (value-passed r _ (h, s) read air, sym test ∙ no-fit)) refl refl) refl

      pub received-accepted : b ≡ true → receive_checked p (lent xs fs bs) ≡ passes (h, s)
      unfolding receive_checked slices_fit and_then check
      received-accepted fit = rw (value-passed r _ (h, s) read air, sym test ∙ fit)

  module _ (h : Header) (s : Section) (accepted : receive_checked p (lent xs fs bs) ≡ passes (h, s)) (ys gs : List ℕ) (g : Result (ℕ × Counts) Refusal)
      (gathers : (checks : Checked (Header × Section)) → checks ≡ passes (h, s)
      → GatherOutcome reduction p checks xs fs ys gs (gathering_value g) (gathering_counts g)) where
    pub received-ended : (f : Refusal) (end : Result Received Refusal) → g ≡ Err f → end ≡ Err f → Receives p (lent xs fs bs) (lent ys gs bs) end
    unfolding gathering_value gathering_counts received_value received_counts
    received-ended f end e is = rw is (unopened _ _ (rw e at (gathers _ accepted)) refl)

    module _ (k : ℕ) (counts : Counts) (is : g ≡ Ok (k, counts)) where
      gathered : (b : Bool) → eqb k 0 ≡ b
          → GatherOutcome reduction p (receive_checked p (lent xs fs bs)) xs fs ys gs (cond b whole (ends (gives (left k)))) counts
      unfolding gathering_value gathering_counts
      gathered b t = rw (is, t) at (gathers _ accepted)

      pub received-left : k ≢ 0 → Receives p (lent xs fs bs) (lent ys gs bs) (Ok (record { ending = Left k; counts = counts }))
      unfolding received_value received_counts reception_of
      received-left some = unopened _ _ (gathered false (ne_eqb k 0 some)) refl

      module _ (none : k ≡ 0) (cs : List ℕ) (o : Result ℕ Refusal) (opens : OpenOutcome h.shape ys bs cs (value_of o)) where
        pub received-file : (l : ℕ) → o ≡ Ok l → Receives p (lent xs fs bs) (lent ys gs cs) (Ok (record { ending = File l; counts = counts }))
        unfolding received_value received_counts reception_of value_of
        received-file l e = opened h s _ accepted (gathered true (eq-eqb k 0 none)) l (rw e at opens)

        pub received-bad : (f : Refusal) (end : Result Received Refusal) → o ≡ Err f → end ≡ Err f
            → Receives p (lent xs fs bs) (lent ys gs cs) end
        unfolding received_value received_counts value_of refusal fault_number
        received-bad f end e is =
            let same = unopenable _ _ _ _ o f opens e in
            rw (is, same) (bad_file h s counts accepted (gathered true (eq-eqb k 0 none)) (rw (e, same) at opens))

-- ---- a value and its counts name one answer

pub reception-injective : (a b : Ending) → reception_of a ≡ reception_of b → a ≡ b
unfolding reception_of
reception-injective (File m) (File n) e = cc
reception-injective (File m) (Left n) e = clash cc
reception-injective (Left m) (File n) e = clash cc
reception-injective (Left m) (Left n) e = cc
