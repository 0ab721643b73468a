-- What comes with a number: all calls but the receiver name no place, so that the word of a refusal is its number; the receiver names one
-- below 2^45.
use mathlib.Core.Path.{◌≡◌, refl, sym}
use Rattle.std.specs.Prelude.{Result, Ok, Err}
use mathlib.Core.Bool.{Bool, true, false}
use mathlib.Core.List.{List}
use Prim.Native.Nat.{ℕ, ◌^◌, ◌<◌}
use native.Mathlib.Omega.{arith}
use lib.ListN.{get_or}
use Rattle.answer.specs.declared.Refusal.{Refusal}
use Rattle.answer.specs.Values.{Value, refusal, value_of, number_of}
use Rattle.answer.proofs.Values.{refusal-gives}
use Rattle.shape.specs.declared.Shape.{Shape}
use Rattle.data.specs.Calls.{ExtractOutcome}
use Rattle.cube.specs.Calls.{EncodeOutcome, CheckOutcome}
use Rattle.fill.specs.Fill.{CellsLeft, FillOutcome, fill_value}
use Rattle.mend.specs.Mend.{AxisOutcome, MendOutcome}
use Rattle.writer.specs.Write.{WriteOutcome}
use Rattle.fill.proofs.Recovery.{left_le}
use Rattle.pack.proofs.Sound.{air-sound}
use Rattle.receiver.specs.declared.Counts.{Counts}
use Rattle.receiver.specs.Gathering.{Reception, unfit, index, contradiction, some_left}
use Rattle.receiver.specs.Receive.{Memory, ReceiveOutcome, unopened, bad_file, opened}
use Rattle.receiver.proofs.Outcomes.{accepted-ready}
use Rattle.jibrufath.specs.Packs.{reception_left}
use Rattle.jibrufath.specs.Exports.{beside, packed, uncounted, truth, cells_left, whole}
use Rattle.jibrufath.proofs.Words.{refusal-number, refusal-beside}

pub encode-places : {r : ℕ} {sh : Shape} {ds xs xs' : List ℕ} {v : Value Unit} → EncodeOutcome r sh ds xs xs' v → beside uncounted v ≡ 0
unfolding beside uncounted
encode-places (EncodeOutcome.encode_refused _ _ _) = refl
encode-places (EncodeOutcome.encode_done _ _) = refl

pub extract-places : {sh : Shape} {xs ds ds' : List ℕ} {v : Value Unit} → ExtractOutcome sh xs ds ds' v → beside uncounted v ≡ 0
unfolding beside uncounted
extract-places (ExtractOutcome.extract_refused _ _ _) = refl
extract-places (ExtractOutcome.extract_done _ _) = refl

pub check-lt : {r : ℕ} {sh : Shape} {xs : List ℕ} {v : Value Bool} → CheckOutcome r sh xs v → beside truth v < 2 ^ 45
unfolding beside truth
check-lt (CheckOutcome.check_refused _ _) = omega arith
check-lt (CheckOutcome.check_done true _ _) = omega arith
check-lt (CheckOutcome.check_done false _ _) = omega arith

-- the number that filling answers counts the cells left
pub fill-packed : (a : Result ℕ Refusal) → packed whole (value_of a) ≡ packed cells_left (fill_value a)
unfolding packed number_of beside whole cells_left value_of fill_value
fill-packed (Ok n) = refl
fill-packed (Err f) = rw (refusal-number ℕ f, refusal-number CellsLeft f, refusal-beside whole f, refusal-beside cells_left f)

pub fill-places : {r : ℕ} {sh : Shape} {xs fs xs' fs' : List ℕ} {v : Value CellsLeft} (f : Refusal) → FillOutcome r sh xs fs xs' fs' v → v ≡ refusal f
    → beside cells_left v ≡ 0
unfolding beside
fill-places f (FillOutcome.fill_refused _ _ _ _) e = refl
fill-places f (FillOutcome.fill_done _ _ _ _) e = absurd (refusal-gives f _ (sym e))
fill-places f (FillOutcome.fill_contradiction _ _ _ _ _ _) e = refl

pub fill-lt : {r : ℕ} {sh : Shape} {xs fs xs' fs' : List ℕ} (a : Result ℕ Refusal) → FillOutcome r sh xs fs xs' fs' (fill_value a) → beside whole (value_of a) < 2 ^ 45
unfolding beside whole value_of fill_value
fill-lt (Ok n) o = omega (arith, left_le o)
fill-lt (Err f) o = rw (refusal-beside whole f, ← refusal-beside cells_left f, fill-places f o refl) (omega arith)

pub axis-places : {r : ℕ} {sh : Shape} {axis : ℕ} {xs xs' : List ℕ} {v : Value Unit} → AxisOutcome r sh axis xs xs' v → beside uncounted v ≡ 0
unfolding beside uncounted
axis-places (AxisOutcome.axis_refused _ _ _) = refl
axis-places (AxisOutcome.axis_done _ _) = refl

pub mend-places : {r : ℕ} {sh : Shape} {xs fs ys ys' : List ℕ} {v : Value Unit} → MendOutcome r sh xs fs ys ys' v → beside uncounted v ≡ 0
unfolding beside uncounted
mend-places (MendOutcome.mend_refused _ _ _) = refl
mend-places (MendOutcome.mend_done _ _ _) = refl
mend-places (MendOutcome.mend_uncorrected _ _ _ _ _) = refl

pub write-places : {r : ℕ} {p xs out xs' out' : List ℕ} {v : Value Unit} → WriteOutcome r p xs out xs' out' v → beside uncounted v ≡ 0
unfolding beside uncounted
write-places (WriteOutcome.write_refused _ _ _ _) = refl
write-places (WriteOutcome.write_done _ _ _ _) = refl

-- a packet's index is below the count of its section, and no more cells are left than a cube has
pub receive-place-lt : {r : ℕ} {p : List ℕ} {m m' : Memory} {v : Value Reception} {k : Counts} → ReceiveOutcome r p m m' v k
    → ((i : ℕ) → get_or p i 0 < 256) → beside reception_left v < 2 ^ 45
unfolding beside reception_left
receive-place-lt (unopened _ _ (unfit _ _ _ _) _) small = omega arith
receive-place-lt {p} {m} (unopened _ _ (index h s checks i l _ _ _ _) _) small =
    omega (arith, (air-sound p h s (accepted-ready p m h s checks).air).few small)
receive-place-lt (unopened _ _ (contradiction _ _ _ _ _ _ _) _) small = omega arith
receive-place-lt (unopened _ _ (some_left _ _ _ _ _ _ _ _ filled) _) small = omega (arith, left_le filled)
receive-place-lt (bad_file _ _ _ _ _ _) small = omega arith
receive-place-lt (opened _ _ _ _ _ _ _) small = omega arith
