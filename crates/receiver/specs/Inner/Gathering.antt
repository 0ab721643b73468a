-- What the functions that gather a pack ask and answer.
use Rattle.std.specs.Prelude.{◌≡◌, cond, List, ℕ, eqb, length, Result, Ok, Err}
use Rattle.answer.specs.declared.Refusal.{Refusal}
use Rattle.answer.specs.Values.{gives, passes, refusal}
use Rattle.shape.specs.Shapes.{cells}
use Rattle.data.specs.Data.{IsCube}
use Rattle.pack.specs.declared.packets.Packets.{Packets}
use Rattle.pack.specs.Reading.{air_of}
use Rattle.receiver.specs.declared.Counts.{Counts}
use Rattle.receiver.specs.Gathering.{left, Gathered, ends, whole, no_counts}

-- what gathering answers, the cells left, none of a whole cube; and with which counts
unfoldable pub gathering_value : Result (ℕ × Counts) Refusal → Gathered
gathering_value (Ok a) = cond (eqb a.0 0) whole (ends (gives (left a.0)))
gathering_value (Err f) = ends (refusal f)

unfoldable pub gathering_counts : Result (ℕ × Counts) Refusal → Counts
gathering_counts (Ok a) = a.1
gathering_counts (Err f) = no_counts

-- a pack that was read, and a cube and flags of its lengths
pub record Fits (k : Packets) (xs fs : List ℕ) : Type 0 where
  pub air : air_of k.bytes.now ≡ passes (k.header, k.section)
  pub cube : IsCube k.header.shape xs
  pub flags_size : length fs ≡ cells k.header.shape
