-- The laws of values: a value gives its answer back, checks one after another, and a refusal is no result.
use Rattle.std.specs.Prelude.{Result, Ok, Err, IsErrAnd}
use Rattle.std.proofs.lemmas.Result.{err_from_is_err_and}
use mathlib.Core.Path.{◌≡◌, refl, sym, ap, subst, ◌∙◌}
use mathlib.Core.Bool.{Bool, true, false, cond}
use mathlib.Core.Logic.{◌≢◌}
use Prim.Native.Nat.{ℕ}
use native.Mathlib.Omega.{arith}
use lib.Dec.{eqb}
use Rattle.answer.specs.declared.Fault.{Fault}
use Rattle.answer.specs.declared.Fault.TheVariants.{Dimension, PacketSize, CubeSize, SliceLength, FlagValue, Truncated, HeaderCount, TrailingBytes, SectionCount, Capacity, Contradiction, FileLength, Erasure, Uncorrected, UsedCells}
use Rattle.answer.specs.declared.PacketFault.{PacketFault}
use Rattle.answer.specs.declared.PacketFault.TheVariants.{CellIndex}
use Rattle.answer.specs.declared.Refusal.{Refusal}
use Rattle.answer.specs.declared.Refusal.TheVariants.{Plain, Packet, Line, Entry}
use Rattle.answer.specs.Refusals.{fault_number, packet_fault_number}
use Rattle.answer.specs.Values.{Value, gives, refused, refused_at, Checked, passes, fails, check, and_then, checked, refusal, number_of, Retired, value_of}

-- ---- checks

module _ {A : Type 0} where
  pub gives-injective : (a b : A) → gives a ≡ gives b → a ≡ b
  gives-injective a b e = cc

  pub gives-refused : (a : A) (n : ℕ) → gives a ≡ refused n → ⊥
  gives-refused a n e = let z : ◌≡◌ {A = ℕ} 0 1 = cc in omega arith

  pub passes-injective : (a b : A) → passes a ≡ passes b → a ≡ b
  passes-injective a b e = cc

  pub fails-injective : (m n : ℕ) → ◌≡◌ {A = Checked A} (fails m) (fails n) → m ≡ n
  fails-injective m n e = cc

  pub passes-fails : (a : A) (n : ℕ) → passes a ≡ fails n → ⊥
  passes-fails a n e = let z : ◌≡◌ {A = ℕ} 0 1 = cc in omega arith

  -- a refusal is no result
  pub refusal-gives : (f : Refusal) (a : A) → refusal f ≡ gives a → ⊥
  unfolding refusal
  refusal-gives (Plain f) a e = let z : ◌≡◌ {A = ℕ} 0 1 = cc in omega arith
  refusal-gives (Packet f i) a e = let z : ◌≡◌ {A = ℕ} 0 1 = cc in omega arith
  refusal-gives (Line n) a e = let z : ◌≡◌ {A = ℕ} 0 1 = cc in omega arith
  refusal-gives (Entry n) a e = let z : ◌≡◌ {A = ℕ} 0 1 = cc in omega arith

  -- a result means that the checks passed
  pub checked-passes : (c : Checked A) (a : A) → gives a ≡ checked c → c ≡ passes a
  unfolding checked
  checked-passes (passes b) a e = cc
  checked-passes (fails n) a e = absurd (gives-refused a n e)

  pub check-passed : (b : Bool) (n : ℕ) (c : Checked A) (a : A) → check b n c ≡ passes a → (b ≡ true) × (c ≡ passes a)
  unfolding check
  check-passed true n c a e = (refl, e)
  check-passed false n c a e = absurd (passes-fails a n (sym e))

-- a refusal by the checks: its number, whatever the call's result would be
pub checked-fails : {A B : Type 0} (c : Checked A) (f : Refusal) → refusal {A = A} f ≡ checked c
    → (n : ℕ) × (c ≡ fails n) × (refusal {A = B} f ≡ refused n)
unfolding checked refusal
checked-fails (passes a) f e = absurd (refusal-gives f a e)
checked-fails (fails n) (Plain f) e = (n, refl, ap refused cc)
checked-fails (fails n) (Packet f i) e = let z : ◌≡◌ {A = ℕ} 0 1 = cc in absurd (omega arith)
checked-fails (fails n) (Line i) e = let z : ◌≡◌ {A = ℕ} 0 1 = cc in absurd (omega arith)
checked-fails (fails n) (Entry i) e = let z : ◌≡◌ {A = ℕ} 0 1 = cc in absurd (omega arith)

-- what the first checks refuse, all of them refuse
pub then-refused : {A B : Type 0} (c : Checked A) (next : A → Checked B) (f : Refusal) → refusal {A = A} f ≡ checked c
    → refusal {A = B} f ≡ checked (and_then c next)
unfolding and_then checked refusal
then-refused (passes a) next f e = absurd (refusal-gives f a e)
then-refused (fails n) next (Plain f) e = ap refused cc
then-refused (fails n) next (Packet f i) e = let z : ◌≡◌ {A = ℕ} 0 1 = cc in absurd (omega arith)
then-refused (fails n) next (Line i) e = let z : ◌≡◌ {A = ℕ} 0 1 = cc in absurd (omega arith)
then-refused (fails n) next (Entry i) e = let z : ◌≡◌ {A = ℕ} 0 1 = cc in absurd (omega arith)

-- what passes all checks has passed the first
pub then-passed : {A B : Type 0} (c : Checked A) (next : A → Checked B) (b : B) → and_then c next ≡ passes b
    → (a : A) × (c ≡ passes a) × (next a ≡ passes b)
unfolding and_then
then-passed (passes a) next b e = (a, refl, e)
then-passed (fails n) next b e = absurd (passes-fails b n (sym e))

-- ---- the numbers by which checks fail

module _ {A : Type 0} (P : ℕ → Type 0) (n : ℕ) where
  pub passes-number : (a : A) → passes a ≡ fails n → P n
  passes-number a e = absurd (passes-fails a n e)

  pub check-number : (b : Bool) (m : ℕ) (c : Checked A) → P m → (c ≡ fails n → P n) → check b m c ≡ fails n → P n
  unfolding check
  check-number true m c p next e = next e
  check-number false m c p next e = let same : m ≡ n = cc in subst P same p

pub then-number : {A B : Type 0} (P : ℕ → Type 0) (n : ℕ) (c : Checked A) (next : A → Checked B) → (c ≡ fails n → P n)
    → ((a : A) → next a ≡ fails n → P n) → and_then c next ≡ fails n → P n
unfolding and_then
then-number P n (passes a) next p q e = q a e
then-number P n (fails m) next p q e = let same : m ≡ n = cc in p (ap fails same)

-- ---- answers

-- the fault with a number
unfoldable fault_at : ℕ → Fault
fault_at n = cond (eqb n 1) Dimension (cond (eqb n 2) PacketSize (cond (eqb n 3) CubeSize (cond (eqb n 4) SliceLength (cond (eqb n 5) FlagValue (cond (eqb n 6) Truncated (cond (eqb n 7) HeaderCount (cond (eqb n 8) TrailingBytes (cond (eqb n 9) SectionCount (cond (eqb n 10) Capacity (cond (eqb n 13) Contradiction (cond (eqb n 14) FileLength (cond (eqb n 15) Erasure (cond (eqb n 16) Uncorrected UsedCells)))))))))))))

fault-at : (f : Fault) → fault_at (fault_number f) ≡ f
unfolding fault_at fault_number
fault-at Dimension = refl
fault-at PacketSize = refl
fault-at CubeSize = refl
fault-at SliceLength = refl
fault-at FlagValue = refl
fault-at Truncated = refl
fault-at HeaderCount = refl
fault-at TrailingBytes = refl
fault-at SectionCount = refl
fault-at Capacity = refl
fault-at Contradiction = refl
fault-at FileLength = refl
fault-at Erasure = refl
fault-at Uncorrected = refl
fault-at UsedCells = refl

-- a number stands for one fault
pub fault-injective : (f g : Fault) → fault_number f ≡ fault_number g → f ≡ g
fault-injective f g e = sym (fault-at f) ∙ ap fault_at e ∙ fault-at g

-- a packet is refused by one number
pub packet-fault-number : (f : PacketFault) → packet_fault_number f ≡ 11
unfolding packet_fault_number
packet-fault-number CellIndex = refl

-- the refusal with a value
unfoldable refusal_at : {A : Type 0} → Value A → Refusal
refusal_at (gives a) = Entry 0
refusal_at (refused n) = Plain (fault_at n)
refusal_at (refused_at n i) = cond (eqb n 11) (Packet CellIndex i) (cond (eqb n 17) (Line i) (Entry i))

refusal-at : (A : Type 0) (f : Refusal) → refusal_at (refusal {A = A} f) ≡ f
unfolding refusal_at refusal packet_fault_number
refusal-at A (Plain f) = ap Plain (fault-at f)
refusal-at A (Packet CellIndex i) = refl
refusal-at A (Line n) = refl
refusal-at A (Entry n) = refl

-- a value names one refusal
pub refusal-injective : {A : Type 0} (f g : Refusal) → refusal {A = A} f ≡ refusal {A = A} g → f ≡ g
refusal-injective {A} f g e = sym (refusal-at A f) ∙ ap refusal_at e ∙ refusal-at A g

-- a number that `fault_at` does not give back is no fault's
fault-none : (n : ℕ) → fault_number (fault_at n) ≢ n → (f : Fault) → fault_number f ≢ n
fault-none n other f e = other (ap (λ (m : ℕ). fault_number (fault_at m)) (sym e) ∙ ap fault_number (fault-at f) ∙ e)

-- "Number 12 no longer occurs."
pub retired-12 : Retired 12
unfolding Retired refusal number_of fault_number fault_at
retired-12 (Plain f) e = fault-none 12 (λ z. omega arith) f e
retired-12 (Packet f i) e = omega (arith, packet-fault-number f)
retired-12 (Line n) e = omega arith
retired-12 (Entry n) e = omega arith

module _ {A : Type 0} where
  -- an answer is known by its value
  pub value-injective : (r s : Result A Refusal) → value_of r ≡ value_of s → r ≡ s
  unfolding value_of
  value-injective (Ok a) (Ok b) e = ap Ok (gives-injective a b e)
  value-injective (Ok a) (Err f) e = absurd (refusal-gives f a (sym e))
  value-injective (Err f) (Ok a) e = absurd (refusal-gives f a e)
  value-injective (Err f) (Err g) e = ap Err (refusal-injective f g e)

  -- what a caller learns of the checks from the answer of a call that does nothing but check
  pub value-passed : (r : Result A Refusal) (c : Checked A) (a : A) → value_of r ≡ checked c → r ≡ Ok a → c ≡ passes a
  unfolding value_of
  value-passed r c a e p = checked-passes c a (rw p at e)

  pub value-refused : (r : Result A Refusal) (c : Checked A) (f : Refusal) → value_of r ≡ checked c → r ≡ Err f → refusal f ≡ checked c
  unfolding value_of
  value-refused r c f e p = rw p at e

  pub value-failed : {B : Type 0} (r : Result A Refusal) (c : Checked A) (f : Refusal) → value_of r ≡ checked c → r ≡ Err f
      → (n : ℕ) × (c ≡ fails n) × (refusal {A = B} f ≡ refused n)
  value-failed r c f e p = checked-fails c f (value-refused r c f e p)

-- the refusal that a `?` hands on
pub handed-on : {A : Type 0} (f : Refusal) (r : Result A Refusal) (v : Value A) → IsErrAnd r (λ g. g ≡ f) → refusal f ≡ v → value_of r ≡ v
unfolding value_of
handed-on f r v e same = let (g, is, gf) = err_from_is_err_and r e in rw (is, gf) same
