-- How an input ends: from the receiver's answer to the outcome that is printed, and the memory that the outcome needs.
use Rattle.std.specs.Prelude.{Result, Ok, Err}
use mathlib.Core.Path.{◌≡◌, refl, ap, ◌∙◌}
use mathlib.Core.List.{List, ◌++◌, append-nil}
use Prim.Native.Nat.{ℕ, ◌-◌, ◌*◌, ◌≤◌, ◌<◌}
use native.Mathlib.Nat.{one-mul, mul-le-mul_right}
use native.Mathlib.Omega.{arith}
use lib.ListN.{length, take, drop}
use lib.Seq.{take_at, length-take-le, get_or-take}
use Rattle.field.specs.Field.{reduction}
use Rattle.answer.specs.declared.Refusal.{Refusal}
use Rattle.answer.specs.declared.Refusal.TheVariants.{Plain, Packet, Line, Entry}
use Rattle.answer.specs.Values.{Value, gives, refused, refused_at, passes, checked, refusal, number_of}
use Rattle.answer.proofs.Values.{checked-fails}
use Rattle.shape.specs.declared.Shape.{Shape}
use Rattle.shape.specs.declared.Sizes.{Sizes}
use Rattle.shape.specs.Shapes.{Valid, cells, capacity, sizes}
use Rattle.pack.specs.declared.Header.{Header}
use Rattle.pack.specs.declared.Section.{Section}
use Rattle.pack.specs.Reading.{air_of}
use Rattle.pack.proofs.Sound.{HeaderSound, air-sound, capacity-le-cube}
use Rattle.receiver.specs.declared.Counts.{Counts}
use Rattle.receiver.specs.declared.Received.{Received}
use Rattle.receiver.specs.declared.Ending.{Ending}
use Rattle.receiver.specs.declared.Ending.TheVariants.{File, Left}
use Rattle.receiver.specs.Gathering.{Reception, file, left}
use Rattle.receiver.specs.Gathering.{unfit, index, contradiction, some_left}
use Rattle.receiver.specs.Opening.{held}
use Rattle.receiver.specs.Receive.{Memory, reception_of, received_value, received_counts, lent, ReceiveOutcome, unopened, bad_file, opened}
use Rattle.receiver.proofs.Outcomes.{accepted-ready}
use Rattle.receive.specs.declared.receiving.Report.{Report}
use Rattle.receive.specs.declared.receiving.Outcome.{Outcome}
use Rattle.receive.specs.declared.receiving.Outcome.TheVariants.{TooBig, Refused, Came}
use Rattle.receive.specs.Outcomes.{ended, InputOutcome, input_too_big, input_refused, cube_too_big, received}
use Rattle.printing.specs.Text.{ascii, number_line}
use Rattle.receive.specs.Printed.{head_lines, file_line, opening_lines, byte_text, texts, came_texts}
use Rattle.receive.specs.Inner.Memory.{Fits}

-- ---- the three endings

ended-number : (sh : Shape) (k : Counts) (f : Refusal) → Refused (number_of {A = Unit} (refusal f)) ≡ ended sh k (refusal f)
unfolding number_of refusal ended
ended-number sh k (Plain f) = refl
ended-number sh k (Packet f i) = refl
ended-number sh k (Line n) = refl
ended-number sh k (Entry n) = refl

module _ (sh : Shape) where
  pub ended-refused : (a : Result Received Refusal) (f : Refusal) (n : ℕ) → a ≡ Err f → n ≡ number_of {A = Unit} (refusal f)
      → Refused n ≡ ended sh (received_counts a) (received_value a)
  unfolding received_value
  ended-refused a f n q m = rw q (ap Refused m ∙ ended-number sh (received_counts (Err f)) f)

  ended-as : (k : Counts) (e : Ending) → Came (record { shape = sh; received = record { ending = e; counts = k } }) ≡ ended sh k (gives (reception_of e))
  unfolding reception_of ended
  ended-as k (File n) = refl
  ended-as k (Left n) = refl

  pub ended-came : (a : Result Received Refusal) (q : Received) → a ≡ Ok q
      → Came (record { shape = sh; received = q }) ≡ ended sh (received_counts a) (received_value a)
  unfolding received_value received_counts
  ended-came a q e = rw e (ended-as q.counts q.ending)

-- ---- the parts of memory that are lent

pub sizes-parts : (sh : Shape) (z : Sizes) → z ≡ sizes sh → (z.bytes ≡ sh.w * cells sh) × (z.cells ≡ cells sh) × (z.capacity ≡ capacity sh)
unfolding sizes
sizes-parts sh z e = (ap (λ (y : Sizes). y.bytes) e, ap (λ (y : Sizes). y.cells) e, ap (λ (y : Sizes). y.capacity) e)

pub cells-le-cube : (sh : Shape) → Valid sh → cells sh ≤ sh.w * cells sh
cells-le-cube sh v = rw (one-mul (cells sh)) at (mul-le-mul_right (cells sh) v.w_low)

-- a pack that is refused by its number
pub refused-input : (p fs bs : List ℕ) (f : Refusal) (n : ℕ) → length p ≤ 65536 → refusal f ≡ checked (air_of p)
    → n ≡ number_of {A = Unit} (refusal f) → InputOutcome p fs bs (Refused n)
unfolding number_of
refused-input p fs bs f n short e k =
    let (m, failed, value) = checked-fails {B = Unit} (air_of p) f e in
    let same : n ≡ m = k ∙ ap number_of value in
    rw same (input_refused m short failed)

-- a cube that is too big, and a pack that was received in memory of the exact lengths
module _ (p : List ℕ) (h : Header) (s : Section) (short : length p ≤ 65536) (air : air_of p ≡ passes (h, s)) where
  sound : HeaderSound h
  sound = (air-sound p h s air).header

  pub large-input : (fs bs : List ℕ) → 65536 < h.sizes.bytes → InputOutcome p fs bs TooBig
  large-input fs bs l = cube_too_big h s short air (rw (sizes-parts _ _ sound.measured).0 at l)

  pub lent_fits : h.sizes.bytes ≤ 65536 → (h.sizes.cells ≤ 65536) × (4 ≤ h.sizes.capacity) × (h.sizes.capacity - 4 ≤ 65536)
  lent_fits l =
      let (b, k, m) = sizes-parts _ _ sound.measured in
      (omega (arith, cells-le-cube h.shape sound.valid), rw m sound.room, omega (arith, capacity-le-cube h.shape))

  pub received-input : (xs fs bs xs' fs' bs' : List ℕ) (v : Value Reception) (k : Counts) (o : Outcome)
      → length xs ≡ 65536 → length fs ≡ 65536 → length bs ≡ 65536 → h.sizes.bytes ≤ 65536
      → length fs' ≡ length (take h.sizes.cells fs) → length bs' ≡ length (take (h.sizes.capacity - 4) bs)
      → ReceiveOutcome reduction p (lent (take h.sizes.bytes xs) (take h.sizes.cells fs) (take (h.sizes.capacity - 4) bs)) (lent xs' fs' bs') v k
      → o ≡ ended h.shape k v
      → InputOutcome p (fs' ++ drop h.sizes.cells fs) (bs' ++ drop (h.sizes.capacity - 4) bs) o
  received-input xs fs bs xs' fs' bs' v k o x y w small kept kept' outcome q =
      let z = h.sizes in
      let sh = h.shape in
      let (b, n, m) = sizes-parts sh z sound.measured in
      let (l, _, d) = lent_fits small in
      let cube : length (take z.bytes xs) ≡ sh.w * cells sh = length-take-le z.bytes xs (omega arith) ∙ b in
      let flags : length (take z.cells fs) ≡ cells sh = length-take-le z.cells fs (omega arith) ∙ n in
      let room : length (take (z.capacity - 4) bs) ≡ capacity sh - 4
      = length-take-le (z.capacity - 4) bs (omega arith) ∙ ap (λ (y : ℕ). y - 4) m in
      let first : take (cells sh) (fs' ++ drop z.cells fs) ≡ fs' = take_at fs' (drop z.cells fs) (cells sh) (kept ∙ flags) in
      let second : take (capacity sh - 4) (bs' ++ drop (z.capacity - 4) bs) ≡ bs'
      = take_at bs' (drop (z.capacity - 4) bs) (capacity sh - 4) (kept' ∙ room) in
      rw q
      (received h s short air (omega arith) (take z.bytes xs) (take z.cells fs) (take (z.capacity - 4) bs) xs'
      cube flags room v k (rw (first, second) outcome))

-- ---- what is printed lies in memory

-- a file is no longer than the buffer
file-le : {r : ℕ} {p : List ℕ} {m m' : Memory} {v : Value Reception} {k : Counts} → ReceiveOutcome r p m m' v k → (n : ℕ) → v ≡ gives (file n) → n ≤ length m.buffer
file-le (unopened _ _ (unfit _ _ _ _) _) n q = let z : ◌≡◌ {A = ℕ} 0 1 = cc in absurd (omega arith)
file-le (unopened _ _ (index _ _ _ _ _ _ _ _ _) _) n q = let z : ◌≡◌ {A = ℕ} 0 1 = cc in absurd (omega arith)
file-le (unopened _ _ (contradiction _ _ _ _ _ _ _) _) n q = let z : ◌≡◌ {A = ℕ} 0 1 = cc in absurd (omega arith)
file-le (unopened _ _ (some_left _ _ _ _ _ _ _ _ _) _) n q = let z : ◌≡◌ {A = ℕ} 0 1 = cc in absurd (omega arith)
file-le (bad_file _ _ _ _ _ _) n q = let z : ◌≡◌ {A = ℕ} 0 1 = cc in absurd (omega arith)
file-le {p} {m} (opened h s _ checks _ _ (held f fits _ _)) n q =
    let e : length f ≡ n = cc in
    omega (arith, (accepted-ready p m h s checks).buffer_size)

came-injective : {r q : Report} → Came r ≡ Came q → r ≡ q
came-injective e = cc

ended-fits : (sh : Shape) (k : Counts) (v : Value Reception) → Valid sh → cells sh ≤ 65536 → ((n : ℕ) → v ≡ gives (file n) → n ≤ 65536) → Fits (ended sh k v)
unfolding ended texts came_texts
ended-fits sh k (refused n) v c l r e = let z : ◌≡◌ {A = ℕ} 0 1 = cc in absurd (omega arith)
ended-fits sh k (refused_at n i) v c l r e = let z : ◌≡◌ {A = ℕ} 0 1 = cc in absurd (omega arith)
ended-fits sh k (gives (left n)) v c l r e = rw (← came-injective e) (record { valid = v; texts_fit = c })
ended-fits sh k (gives (file n)) v c l r e = rw (← came-injective e) (record { valid = v; texts_fit = l n refl })

pub outcome_fits : (p fs bs : List ℕ) {o : Outcome} → InputOutcome p fs bs o → Fits o
outcome_fits p fs bs (input_too_big _) r e = let z : ◌≡◌ {A = ℕ} 0 1 = cc in absurd (omega arith)
outcome_fits p fs bs (input_refused _ _ _) r e = let z : ◌≡◌ {A = ℕ} 0 1 = cc in absurd (omega arith)
outcome_fits p fs bs (cube_too_big _ _ _ _ _) r e = let z : ◌≡◌ {A = ℕ} 0 1 = cc in absurd (omega arith)
outcome_fits p fs bs (received h s short air small xs₀ fs₀ bs₀ xs _ _ b v k outcome) r e =
    let ok = (air-sound p h s air).header.valid in
    let c = cells-le-cube h.shape ok in
    let l = capacity-le-cube h.shape in
    ended-fits h.shape k v ok (omega arith)
    (λ (n : ℕ) (q : v ≡ gives (file n)). let m = file-le outcome n q in omega (arith, b)) r e

pub texts-fit : (o : Outcome) → Fits o → texts o ≤ 65536
unfolding texts
texts-fit TooBig f = omega arith
texts-fit (Refused _) f = omega arith
texts-fit (Came r) f = (f r refl).texts_fit

-- ---- the lines and the texts of a file, and of the cells

pub file-opening : (r : Report) (n : ℕ) → r.received.ending ≡ File n → opening_lines (Came r) ≡ head_lines r ++ number_line (ascii "file ") n
unfolding opening_lines file_line
file-opening r n e = ap (λ (x : Ending). head_lines r ++ file_line x) e

pub left-opening : (r : Report) (n : ℕ) → r.received.ending ≡ Left n → opening_lines (Came r) ≡ head_lines r
unfolding opening_lines file_line
left-opening r n e = ap (λ (x : Ending). head_lines r ++ file_line x) e ∙ append-nil (head_lines r)

pub file-texts : (o : Outcome) (r : Report) → o ≡ Came r → (n : ℕ) → r.received.ending ≡ File n → texts o ≡ n
unfolding texts came_texts
file-texts o r e n q = rw (e, q)

pub left-texts : (o : Outcome) (r : Report) → o ≡ Came r → (n : ℕ) → r.received.ending ≡ Left n → texts o ≡ cells r.shape
unfolding texts came_texts
left-texts o r e n q = rw (e, q)

-- a byte stands in the file as in the memory that the file begins
pub byte-taken : (bs : List ℕ) (n i : ℕ) → n ≤ length bs → i < n → byte_text (take n bs) (length (take n bs)) i ≡ byte_text bs n i
unfolding byte_text
byte-taken bs n i l m = rw (get_or-take n bs i 0 m, length-take-le n bs l)
