-- A word tells its value: refusals have the numbers of document 01's table, a result has 0, and only 11, 17 and 18 name a place.
use mathlib.Core.Path.{◌≡◌, refl, sym, ap, ap₂, ◌∙◌}
use mathlib.Core.List.{List}
use Prim.Native.Nat.{ℕ, ◌/◌, ◌%◌, ◌≤◌, ◌<◌}
use native.Mathlib.Omega.{arith}
use Rattle.answer.specs.declared.Fault.{Fault}
use Rattle.answer.specs.declared.Fault.TheVariants.{Dimension, PacketSize, CubeSize, SliceLength, FlagValue, Truncated, HeaderCount, TrailingBytes, SectionCount, Capacity, Contradiction, FileLength, Erasure, Uncorrected, UsedCells}
use Rattle.answer.specs.declared.PacketFault.TheVariants.{CellIndex}
use Rattle.answer.specs.declared.Refusal.{Refusal}
use Rattle.answer.specs.declared.Refusal.TheVariants.{Plain, Packet, Line, Entry}
use Rattle.answer.specs.Refusals.{fault_number, packet_fault_number}
use Rattle.answer.specs.Values.{Value, gives, refused, refused_at, refusal, number_of}
use Rattle.receiver.specs.declared.Counts.{Counts}
use Rattle.receiver.specs.Gathering.{Reception, file, left, unfit, index, contradiction, some_left}
use Rattle.receiver.specs.Receive.{Memory, ReceiveOutcome, unopened, bad_file, opened}
use Rattle.jibrufath.specs.Packs.{reception_left, file_bytes, places}
use Rattle.jibrufath.specs.Exports.{beside, packed}
use Rattle.jibrufath.proofs.Words.{packed-number, packed-beside}

-- the numbers with which a refusal names a place
pub data Named : ℕ → Type 0 where
  packet : Named 11
  line : Named 17
  entry : Named 18

-- the values that answers have
pub data Tabled {A : Type 0} : Value A → Type 0 where
  result : (a : A) → Tabled (gives a)
  fault : (f : Fault) → Tabled (refused (fault_number f))
  placed : (n i : ℕ) → Named n → Tabled (refused_at n i)

pub refusal-tabled : {A : Type 0} (f : Refusal) → Tabled {A = A} (refusal f)
unfolding refusal packet_fault_number
refusal-tabled (Plain f) = fault f
refusal-tabled (Packet CellIndex i) = placed 11 i packet
refusal-tabled (Line n) = placed 17 n line
refusal-tabled (Entry at) = placed 18 at entry

-- a number of the table that names no place
fault-range : (f : Fault) → (1 ≤ fault_number f) × (fault_number f ≤ 19) × (fault_number f ≡ 11 → ⊥) × (fault_number f ≡ 17 → ⊥) × (fault_number f ≡ 18 → ⊥)
unfolding fault_number
fault-range Dimension = (omega arith, omega arith, λ e. omega arith, λ e. omega arith, λ e. omega arith)
fault-range PacketSize = (omega arith, omega arith, λ e. omega arith, λ e. omega arith, λ e. omega arith)
fault-range CubeSize = (omega arith, omega arith, λ e. omega arith, λ e. omega arith, λ e. omega arith)
fault-range SliceLength = (omega arith, omega arith, λ e. omega arith, λ e. omega arith, λ e. omega arith)
fault-range FlagValue = (omega arith, omega arith, λ e. omega arith, λ e. omega arith, λ e. omega arith)
fault-range Truncated = (omega arith, omega arith, λ e. omega arith, λ e. omega arith, λ e. omega arith)
fault-range HeaderCount = (omega arith, omega arith, λ e. omega arith, λ e. omega arith, λ e. omega arith)
fault-range TrailingBytes = (omega arith, omega arith, λ e. omega arith, λ e. omega arith, λ e. omega arith)
fault-range SectionCount = (omega arith, omega arith, λ e. omega arith, λ e. omega arith, λ e. omega arith)
fault-range Capacity = (omega arith, omega arith, λ e. omega arith, λ e. omega arith, λ e. omega arith)
fault-range Contradiction = (omega arith, omega arith, λ e. omega arith, λ e. omega arith, λ e. omega arith)
fault-range FileLength = (omega arith, omega arith, λ e. omega arith, λ e. omega arith, λ e. omega arith)
fault-range Erasure = (omega arith, omega arith, λ e. omega arith, λ e. omega arith, λ e. omega arith)
fault-range Uncorrected = (omega arith, omega arith, λ e. omega arith, λ e. omega arith, λ e. omega arith)
fault-range UsedCells = (omega arith, omega arith, λ e. omega arith, λ e. omega arith, λ e. omega arith)

named-range : {n : ℕ} → Named n → (11 ≤ n) × (n ≤ 18)
named-range packet = (omega arith, omega arith)
named-range line = (omega arith, omega arith)
named-range entry = (omega arith, omega arith)

pub tabled-number : {A : Type 0} {v : Value A} → Tabled v → number_of v ≤ 19
unfolding number_of
tabled-number (result a) = omega arith
tabled-number (fault f) = (fault-range f).1
tabled-number (placed n i t) = let l : n ≤ 19 = omega (arith, (named-range t).1) in l

-- neither a result nor a refusal with a place has the number of another refusal
fault-result : (f : Fault) → 0 ≡ fault_number f → ⊥
fault-result f e = omega (arith, (fault-range f).0)

fault-named : (f : Fault) {n : ℕ} → Named n → fault_number f ≡ n → ⊥
fault-named f packet e = (fault-range f).2 e
fault-named f line e = (fault-range f).3 e
fault-named f entry e = (fault-range f).4 e

-- where a count tells its result, two values with one number and one count or place are one
told : {A : Type 0} (count : A → ℕ) {v w : Value A} → ((a b : A) → v ≡ gives a → w ≡ gives b → count a ≡ count b → a ≡ b) → Tabled v → Tabled w
    → number_of v ≡ number_of w → beside count v ≡ beside count w → v ≡ w
unfolding number_of beside
told count same (result a) (result b) n e = ap gives (same a b refl refl e)
told count same (result a) (fault g) n e = absurd (fault-result g n)
told count same (result a) (placed _ _ t) n e = absurd (omega (arith, named-range t))
told count same (fault f) (result b) n e = absurd (fault-result f (sym n))
told count same (fault f) (fault g) n e = ap refused n
told count same (fault f) (placed _ _ t) n e = absurd (fault-named f t n)
told count same (placed _ _ t) (result b) n e = absurd (omega (arith, named-range t))
told count same (placed _ _ t) (fault g) n e = absurd (fault-named g t (sym n))
told count same (placed _ _ _) (placed _ _ _) n e = ap₂ refused_at n e

-- and so two values with one word
pub word-told : {A : Type 0} (count : A → ℕ) {v w : Value A} → ((a b : A) → v ≡ gives a → w ≡ gives b → count a ≡ count b → a ≡ b)
    → Tabled v → Tabled w → packed count v ≡ packed count w → v ≡ w
word-told count {v} {w} same s t e =
    let m : number_of v < 256 = omega (arith, tabled-number s) in
    let n : number_of w < 256 = omega (arith, tabled-number t) in
    told count same s t
    (sym (packed-number count v m) ∙ ap (λ (k : ℕ). k % 256) e ∙ packed-number count w n)
    (sym (packed-beside count v m) ∙ ap (λ (k : ℕ). k / 256) e ∙ packed-beside count w n)

-- ---- the receiver: its word tells cells left from a file, and place 0 one file from another

some-left-told : {r : ℕ} {p : List ℕ} {m m' : Memory} {v : Value Reception} {k : Counts} → ReceiveOutcome r p m m' v k → (n : ℕ) → v ≡ gives (left n) → 0 < n
some-left-told (unopened _ _ (unfit _ _ _ _) _) n q = let z : ◌≡◌ {A = ℕ} 0 1 = cc in absurd (omega arith)
some-left-told (unopened _ _ (index _ _ _ _ _ _ _ _ _) _) n q = let z : ◌≡◌ {A = ℕ} 0 1 = cc in absurd (omega arith)
some-left-told (unopened _ _ (contradiction _ _ _ _ _ _ _) _) n q = let z : ◌≡◌ {A = ℕ} 0 1 = cc in absurd (omega arith)
some-left-told (unopened _ _ (some_left _ _ _ _ _ _ k some _) _) n q = let e : k ≡ n = cc in omega arith
some-left-told (bad_file _ _ _ _ _ _) n q = let z : ◌≡◌ {A = ℕ} 0 1 = cc in absurd (omega arith)
some-left-told (opened _ _ _ _ _ _ _) n q = let z : ◌≡◌ {A = ℕ} 0 1 = cc in absurd (omega arith)

module _ {v w : Value Reception} (some : (n : ℕ) → v ≡ gives (left n) → 0 < n) (some' : (n : ℕ) → w ≡ gives (left n) → 0 < n) (bytes : file_bytes v ≡ file_bytes w) where
  reception-same : (a b : Reception) → v ≡ gives a → w ≡ gives b → reception_left a ≡ reception_left b → a ≡ b
  unfolding reception_left file_bytes
  reception-same (file n) (file m) p q e = ap file (rw (p, q) at bytes)
  reception-same (file n) (left k) p q e = let l = some' k q in absurd (omega arith)
  reception-same (left k) (file m) p q e = let l = some k p in absurd (omega arith)
  reception-same (left k) (left j) p q e = ap left e

abbrev counts : ℕ → ℕ → ℕ → Counts
counts packets repeats conflicts = record { packets = packets; repeats = repeats; conflicts = conflicts }

-- two outcomes with one word and the same sixteen places have one value and the same counts
pub received-told : {r r' : ℕ} {p p' : List ℕ} {m n m' n' : Memory} {v w : Value Reception} {k j : Counts}
    → ReceiveOutcome r p m n v k → ReceiveOutcome r' p' m' n' w j → Tabled v → Tabled w
    → packed reception_left v ≡ packed reception_left w → places v k ≡ places w j → (v ≡ w) × (k ≡ j)
unfolding places
received-told {v} {w} {k} {j} o o' s t e c =
    let bytes : file_bytes v ≡ file_bytes w = cc in
    let packets : k.packets ≡ j.packets = cc in
    let repeats : k.repeats ≡ j.repeats = cc in
    let conflicts : k.conflicts ≡ j.conflicts = cc in (
      word-told reception_left (reception-same (some-left-told o) (some-left-told o') bytes) s t e,
      ap₂ (λ (a b : ℕ). counts a b k.conflicts) packets repeats ∙ ap (counts j.packets j.repeats) conflicts,
    )
