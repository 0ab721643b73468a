-- Document 01, "Programs": what there is to print for an input, of which the first 65,537 bytes are read.
use Rattle.std.specs.Prelude.{◌≡◌, List, ℕ, ◌-◌, ◌*◌, ◌≤◌, ◌<◌, length, take}
use Rattle.field.specs.Field.{reduction}
use Rattle.answer.specs.Values.{Value, gives, refused, refused_at, passes, fails}
use Rattle.shape.specs.declared.Shape.{Shape}
use Rattle.shape.specs.Shapes.{cells, capacity}
use Rattle.pack.specs.declared.Header.{Header}
use Rattle.pack.specs.declared.Section.{Section}
use Rattle.pack.specs.Reading.{air_of}
use Rattle.receiver.specs.declared.Counts.{Counts}
use Rattle.receiver.specs.declared.Ending.TheVariants.{File, Left}
use Rattle.receiver.specs.Gathering.{Reception, file, left}
use Rattle.receiver.specs.Receive.{lent, ReceiveOutcome}
use Rattle.receive.specs.declared.receiving.Outcome.{Outcome}
use Rattle.receive.specs.declared.receiving.Outcome.TheVariants.{TooBig, Refused, Came}

-- how a pack ended, as an outcome: of a refusal only the number is printed
unfoldable pub ended : Shape → Counts → Value Reception → Outcome
ended sh k (gives (file n)) = Came (record { shape = sh; received = record { ending = File n; counts = k } })
ended sh k (gives (left n)) = Came (record { shape = sh; received = record { ending = Left n; counts = k } })
ended sh k (refused n) = Refused n
ended sh k (refused_at n i) = Refused n

-- "Input above 65,536 bytes prints `too big` before any check; a cube … above 65,536 bytes prints it in the place of 4."
-- The receiver is lent memory of the exact lengths, whatever it holds before; the flags and the file stand at the start of fs and bs.
pub data InputOutcome (p fs bs : List ℕ) : Outcome → Type 0 where
  input_too_big : 65536 < length p → InputOutcome p fs bs TooBig
  input_refused : (n : ℕ) → length p ≤ 65536 → air_of p ≡ fails n → InputOutcome p fs bs (Refused n)
  cube_too_big :
      (h : Header) (s : Section) → length p ≤ 65536 → air_of p ≡ passes (h, s) → 65536 < h.shape.w * cells h.shape →
      InputOutcome p fs bs TooBig
  received :
      (h : Header) (s : Section) → length p ≤ 65536 → air_of p ≡ passes (h, s) → h.shape.w * cells h.shape ≤ 65536 →
      (xs₀ fs₀ bs₀ xs : List ℕ) → length xs₀ ≡ h.shape.w * cells h.shape → length fs₀ ≡ cells h.shape →
      length bs₀ ≡ capacity h.shape - 4 →
      (v : Value Reception) (k : Counts) →
      ReceiveOutcome reduction p (lent xs₀ fs₀ bs₀) (lent xs (take (cells h.shape) fs) (take (capacity h.shape - 4) bs)) v k →
      InputOutcome p fs bs (ended h.shape k v)
