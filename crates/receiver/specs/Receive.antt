-- The receiver (document 01, "Packs"): what `receive_pack` answers and leaves for every input.
use Rattle.std.specs.Prelude.{◌≡◌, Bool, List, ℕ, ◌-◌, eqb, length, Result, Ok, Err}
use Rattle.answer.specs.declared.Refusal.{Refusal}
use Rattle.answer.specs.Values.{Value, gives, refused, Checked, passes, check, and_then, refusal}
use Rattle.shape.specs.declared.Sizes.{Sizes}
use Rattle.shape.specs.Shapes.{both}
use Rattle.pack.specs.declared.Header.{Header}
use Rattle.pack.specs.declared.Section.{Section}
use Rattle.pack.specs.Reading.{air_of}
use Rattle.receiver.specs.declared.Counts.{Counts}
use Rattle.receiver.specs.declared.Received.{Received}
use Rattle.receiver.specs.declared.Ending.{Ending}
use Rattle.receiver.specs.declared.Ending.TheVariants.{File, Left}
use Rattle.receiver.specs.Gathering.{Reception, file, left, Gathered, ends, whole, no_counts, GatherOutcome}
use Rattle.receiver.specs.Opening.{OpenOutcome}

-- what `receive_pack` answers, and with which counts
unfoldable pub reception_of : Ending → Reception
reception_of (File n) = file n
reception_of (Left k) = left k

unfoldable pub received_value : Result Received Refusal → Value Reception
received_value (Ok r) = gives (reception_of r.ending)
received_value (Err f) = refusal f

unfoldable pub received_counts : Result Received Refusal → Counts
received_counts (Ok r) = r.counts
received_counts (Err f) = no_counts

-- "Lent slices": a cube, flags, the receiver's file buffer
pub record Memory : Type 0 where
  pub cube : List ℕ
  pub flags : List ℕ
  pub buffer : List ℕ

abbrev pub lent : List ℕ → List ℕ → List ℕ → Memory
lent xs fs bs = record { cube = xs; flags = fs; buffer = bs }

-- "their exact lengths: a cube, W × cells; flags, cells; … the receiver's file buffer, capacity - 4"
unfoldable pub slices_fit : Sizes → Memory → Bool
slices_fit z m =
    both (eqb (length m.cube) z.bytes)
    (both (eqb (length m.flags) z.cells) (eqb (length m.buffer) (z.capacity - 4)))

-- the pack's checks, then 4
unfoldable pub receive_checked : List ℕ → Memory → Checked (Header × Section)
receive_checked p m = and_then (air_of p) (λ a. check (slices_fit a.0.sizes m) 4 (passes a))

-- gathering by these checks
abbrev pub Gathers : ℕ → List ℕ → Memory → Memory → Gathered → Counts → Type 0
Gathers r p m m' = GatherOutcome r p (receive_checked p m) m.cube m.flags m'.cube m'.flags

-- "A file comes out only where nothing is left". "Left changes no byte of that buffer." "The file buffer never changes on a refusal."
pub data ReceiveOutcome (r : ℕ) (p : List ℕ) (m m' : Memory) : Value Reception → Counts → Type 0 where
  unopened :
      (v : Value Reception) (k : Counts) → Gathers r p m m' (ends v) k → m'.buffer ≡ m.buffer →
      ReceiveOutcome r p m m' v k
  bad_file :
      (h : Header) (s : Section) (k : Counts) → receive_checked p m ≡ passes (h, s) → Gathers r p m m' whole k →
      OpenOutcome h.shape m'.cube m.buffer m'.buffer (refused 14) →
      ReceiveOutcome r p m m' (refused 14) no_counts
  opened :
      (h : Header) (s : Section) (k : Counts) → receive_checked p m ≡ passes (h, s) → Gathers r p m m' whole k →
      (n : ℕ) → OpenOutcome h.shape m'.cube m.buffer m'.buffer (gives n) →
      ReceiveOutcome r p m m' (gives (file n)) k
